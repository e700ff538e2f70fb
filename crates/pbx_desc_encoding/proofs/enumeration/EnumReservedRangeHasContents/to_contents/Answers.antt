use Rattle.std.proofs.Common.{refl}
use Rattle.pbx_desc_shapes.specs.DescriptorShape.{enum_reserved_range_fields}
use Rattle.pbx_desc_encoding.specs.Content.{enum_reserved_range_values}
use Rattle.pbx_desc_encoding.proofs.Built.{start, next, whole}
use Rattle.pbx_desc_encoding.proofs.Types.{enum_reserved_range_type}
use Rattle.pbx_desc_encoding.proofs.enumeration.EnumReservedRangeHasContents.to_contents.Goals as goal

pub returns : goal.returns
returns c =
    let r = c.args.self.now in
    let before = start enum_reserved_range_fields (enum_reserved_range_values r) c.new-fields.result.list c.new-fields.ensures in
    let start = next before c.in_ok-number.ensures refl refl refl in
    let end = next start c.in_ok-number-2.ensures refl refl refl in
    whole 8 enum_reserved_range_fields (enum_reserved_range_values r) c.number-2.new.self.list r.unknown c.with_unknown.result enum_reserved_range_type refl end c.with_unknown.ensures.content c.with_unknown.ensures.fit
