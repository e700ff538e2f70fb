use Rattle.std.proofs.Common.{refl}
use Rattle.pbx_desc_shapes.specs.DescriptorShape.{field_fields}
use Rattle.pbx_desc_encoding.specs.Content.{field_values}
use Rattle.pbx_desc_encoding.proofs.Behind.{begin_alone, written, finished}
use Rattle.pbx_desc_encoding.proofs.Places.{on_ok}
use Rattle.pbx_desc_encoding.proofs.Types.{field_type, field_options_type}
use Rattle.pbx_desc_encoding.proofs.field.FieldDescriptorProtoPut.put.Goals as goal

pub returns : goal.returns
returns c =
    let r = c.args.self.now in
    let first = c.args.out.now.items in
    let start = begin_alone 3 field_fields (field_values r) first field_type in
    let name = written start c.in_ok-put_text.ensures refl refl refl refl refl refl in
    let extendee = written name c.in_ok-put_text-2.ensures refl refl refl refl refl refl in
    let number = written extendee c.in_ok-put_number.ensures refl refl refl refl refl refl in
    let label = written number c.in_ok-put_number-2.ensures refl refl refl refl refl refl in
    let kind = written label c.in_ok-put_number-3.ensures refl refl refl refl refl refl in
    let type_name = written kind c.in_ok-put_text-3.ensures refl refl refl refl refl refl in
    let default_value = written type_name c.in_ok-put_text-4.ensures refl refl refl refl refl refl in
    let options = written default_value (c.in_ok-put_options.ensures field_options_type) refl refl refl refl refl refl in
    let oneof_index = written options c.in_ok-put_number-4.ensures refl refl refl refl refl refl in
    let json_name = written oneof_index c.in_ok-put_text-5.ensures refl refl refl refl refl refl in
    on_ok c.put_truth.result (λ truth.
    finished r.unknown first c.put_truth.new.out.items (written json_name truth refl refl refl refl refl refl) field_type refl (c.if-not-is_empty.ensures.0 refl)) c.put_truth.ensures
