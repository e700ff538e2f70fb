use Rattle.std.proofs.Common.{refl}
use Rattle.pbx_desc_shapes.specs.DescriptorShape.{enum_fields}
use Rattle.pbx_desc_encoding.specs.Content.{enum_values}
use Rattle.pbx_desc_encoding.proofs.Behind.{begin_alone, written, finished}
use Rattle.pbx_desc_encoding.proofs.Places.{on_ok}
use Rattle.pbx_desc_encoding.proofs.Types.{enum_type, enum_options_type}
use Rattle.pbx_desc_encoding.proofs.enumeration.EnumDescriptorProtoPut.put.Goals as goal

pub returns : goal.returns
returns c =
    let r = c.args.self.now in
    let first = c.args.out.now.items in
    let start = begin_alone 7 enum_fields (enum_values r) first enum_type in
    let name = written start c.in_ok-put_text.ensures refl refl refl refl refl refl in
    let value = written name c.in_ok-put_each.ensures refl refl refl refl refl refl in
    let options = written value (c.in_ok-put_options.ensures enum_options_type) refl refl refl refl refl refl in
    let reserved_range = written options c.in_ok-put_each_by_content.ensures refl refl refl refl refl refl in
    on_ok c.put_texts.result (λ reserved_name.
    finished r.unknown first c.put_texts.new.out.items (written reserved_range reserved_name refl refl refl refl refl refl) enum_type refl (c.if-not-is_empty.ensures.0 refl)) c.put_texts.ensures
