use Rattle.std.proofs.Common.{◌∙◌, ap, arith}
use Rattle.std.specs.Prelude.{slice_get, option_and_then}
use Rattle.pbx_desc_records.specs.declared.message.DescriptorProto.{out-DescriptorProto}
use Rattle.pbx_link_tables.proofs.Standing.{enum_in_file, enum_in_message}
use Rattle.pbx_link_tables.proofs.walk.enum_at.Goals as goal

pub returns-then-place-eq0 : goal.returns-then-place-eq0
returns-then-place-eq0 c = enum_in_file c.args.file.now c.args.place.now c.args.index c.as_slice.result.now _ (omega arith) c.as_slice.ensures c.item.ensures

pub returns-in-Some : goal.returns-in-Some
returns-in-Some c =
    enum_in_message c.args.file.now c.args.place.now c.args.index _ (omega arith)
    (c.item-in-Some.ensures ∙ ap (λ xs. slice_get xs c.args.index) c.as_slice-in-Some.ensures ∙ ap (option_and_then (λ m. slice_get (out-DescriptorProto m).enum_type c.args.index)) c.in-Some.ensures)

pub returns-in-None : goal.returns-in-None
returns-in-None c = enum_in_message c.args.file.now c.args.place.now c.args.index _ (omega arith) (ap (option_and_then (λ m. slice_get (out-DescriptorProto m).enum_type c.args.index)) c.in-None.ensures)
