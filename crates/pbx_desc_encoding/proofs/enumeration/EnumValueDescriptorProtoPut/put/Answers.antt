use Rattle.std.proofs.Common.{refl}
use Rattle.pbx_desc_shapes.specs.DescriptorShape.{enum_value_fields}
use Rattle.pbx_desc_encoding.specs.Content.{enum_value_values}
use Rattle.pbx_desc_encoding.proofs.Behind.{begin_alone, written, finished}
use Rattle.pbx_desc_encoding.proofs.Places.{on_ok}
use Rattle.pbx_desc_encoding.proofs.Types.{enum_value_type, enum_value_options_type}
use Rattle.pbx_desc_encoding.proofs.enumeration.EnumValueDescriptorProtoPut.put.Goals as goal

pub returns : goal.returns
returns c =
    let r = c.args.self.now in
    let first = c.args.out.now.items in
    let start = begin_alone 9 enum_value_fields (enum_value_values r) first enum_value_type in
    let name = written start c.in_ok-put_text.ensures refl refl refl refl refl refl in
    let number = written name c.in_ok-put_number.ensures refl refl refl refl refl refl in
    on_ok c.put_options.result (λ options.
    finished r.unknown first c.put_options.new.out.items (written number (options enum_value_options_type) refl refl refl refl refl refl) enum_value_type refl (c.if-not-is_empty.ensures.0 refl)) c.put_options.ensures
