use Rattle.std.proofs.Common.{refl}
use Rattle.pbx_desc_shapes.specs.DescriptorShape.{location_fields}
use Rattle.pbx_desc_encoding.specs.Content.{location_values}
use Rattle.pbx_desc_encoding.proofs.Built.{start, next, whole}
use Rattle.pbx_desc_encoding.proofs.Types.{location_type}
use Rattle.pbx_desc_encoding.proofs.source.LocationHasContents.to_contents.Goals as goal

pub returns : goal.returns
returns c =
    let r = c.args.self.now in
    let before = start location_fields (location_values r) c.new-fields.result.list c.new-fields.ensures in
    let path = next before c.in_ok-numbers.ensures refl refl refl in
    let span = next path c.in_ok-numbers-2.ensures refl refl refl in
    let leading_comments = next span c.in_ok-text.ensures refl refl refl in
    let trailing_comments = next leading_comments c.in_ok-text-2.ensures refl refl refl in
    let leading_detached_comments = next trailing_comments c.in_ok-texts.ensures refl refl refl in
    whole 13 location_fields (location_values r) c.texts.new.self.list r.unknown c.with_unknown.result location_type refl leading_detached_comments c.with_unknown.ensures.content c.with_unknown.ensures.fit
