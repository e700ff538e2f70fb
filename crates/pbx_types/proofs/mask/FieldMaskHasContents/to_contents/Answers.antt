use Rattle.std.proofs.Common.{map, refl}
use Rattle.pbx_content.specs.declared.shape.Kind.TheVariants as kind
use Rattle.pbx_content.specs.Content.{text}
use Rattle.pbx_types.proofs.Built.{one_made, puts_some}
use Rattle.pbx_types.proofs.Types.{mask_type}
use Rattle.pbx_types.proofs.mask.FieldMaskHasContents.to_contents.Goals as goal

pub returns : goal.returns
returns c =
    let r = c.args.self.now in
    let puts = puts_some kind.String c.in_ok-text_values.field-0 (map text r.paths) c.in_ok-text_values.ensures.values c.in_ok-text_values.ensures.sound c.in_ok-put_list.ensures in
    one_made 3 _ r.unknown c.put_list.new.contents mask_type (refl, tt) refl refl c.in_ok-contents.ensures.content puts c.in_ok-contents.ensures.fit
