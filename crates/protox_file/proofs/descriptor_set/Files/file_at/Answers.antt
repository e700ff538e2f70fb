use Rattle.std.proofs.Common.{◌∙◌, sym, ap, List, Some, slice_get, option_map}
use Rattle.std.proofs.lemmas.Option.{slice_get-map}
use Rattle.pbx_desc_records.specs.declared.file.FileDescriptorProto.{FileDescriptorProto}
use Rattle.protox_file_sources.specs.Library.{alone}
use Rattle.protox_file_sources.specs.Told.{Entry}
use Rattle.protox_file.specs.Sets.{entries_of}
use Rattle.protox_file.specs.declared.descriptor_set.Files.{Files}
use Rattle.protox_file.proofs.descriptor_set.Files.file_at.Goals as goal

pub returns-in_ok-copy-in-Some : goal.returns-in_ok-copy-in-Some
returns-in_ok-copy-in-Some c =
    ap (λ (e : Entry). Some e) (c.from_file_descriptor_proto.ensures ∙ ap alone c.in_ok-copy-in-Some.ensures)
    ∙ ap (option_map alone) (c.in-Some.ensures ∙ ap (λ (fs : List FileDescriptorProto). slice_get fs c.args.index) c.as_slice.ensures)
    ∙ sym (slice_get-map alone c.in-Records.files c.args.index)
    ∙ ap (λ (f : Files). slice_get (entries_of f) c.args.index) (sym c.in-Records.is)

pub returns-in-None : goal.returns-in-None
returns-in-None c =
    ap (option_map alone) (c.in-None.ensures ∙ ap (λ (fs : List FileDescriptorProto). slice_get fs c.args.index) c.as_slice.ensures)
    ∙ sym (slice_get-map alone c.in-Records.files c.args.index)
    ∙ ap (λ (f : Files). slice_get (entries_of f) c.args.index) (sym c.in-Records.is)
