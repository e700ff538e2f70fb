use Rattle.std.proofs.Common.{◌++◌, map, refl, ap, ◌∙◌}
use Rattle.pbx_parse_tree.specs.View.{item_of}
use Rattle.pbx_parse_locations.specs.Locations.{field_at, item_fields, numbered}
use Rattle.pbx_parse_locations.specs.BodyItems.{of_body_item}
use Rattle.pbx_parse_locations.proofs.Added.{goes_on, is_over}
use Rattle.pbx_parse_locations.proofs.Items.{of_body_items}
use Rattle.pbx_parse_locations.proofs.message.add_fields.Goals as goal

pub each-preserved : goal.each-preserved
each-preserved c =
    goes_on (field_at c.args.path.now 2) (of_body_item item_fields) item_of c.args.items.now c.each.item-index c.item-item.result _ _ _ _ _ _ _ c.each-test.true c.item-item.is refl c.each.invariant c.in_ok-index.ensures

pub returns : goal.returns
returns c =
    (is_over (field_at c.args.path.now 2) (of_body_item item_fields) item_of c.args.items.now c.each.item-index _ _ _ _ c.each-test.false c.each.invariant).all
    ∙ ap (λ xs. c.args.out.now ++ numbered (field_at c.args.path.now 2) 0 xs) (of_body_items item_fields (map item_of c.args.items.now))
