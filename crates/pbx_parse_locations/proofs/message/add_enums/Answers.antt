use Rattle.std.proofs.Common.{◌++◌, map, ap, ◌∙◌}
use Rattle.pbx_parse_tree.specs.View.{item_of, enum_of}
use Rattle.pbx_parse_locations.specs.Locations.{enum_at, item_enums, numbered, enum_locations}
use Rattle.pbx_parse_locations.specs.BodyItems.{of_body_item}
use Rattle.pbx_parse_locations.proofs.Added.{one_more, skips, is_over}
use Rattle.pbx_parse_locations.proofs.Items.{body_item_of_enum, no_enum, of_body_items}
use Rattle.pbx_parse_locations.proofs.message.add_enums.Goals as goal
use Rattle.pbx_parse_locations.proofs.message.add_enums.Goals.{in-Enum+in_ok-path+in_ok-add_enum+in_ok-index, in_default}

pub each-preserved : goal.each-preserved
each-preserved c =
    let xs = c.args.items.now in
    let x = c.item-item.result in
    elim c.match-item.branch [
      | in-Enum+in_ok-path+in_ok-add_enum+in_ok-index w ↦
          let here = ap (λ i. of_body_item item_enums (item_of i)) w.in-Enum.is ∙ ap (of_body_item item_enums) (body_item_of_enum w.in-Enum.item) in
          rw (w.out-is, w.index-is)
          (one_more (enum_at c.args.path.now 4) (of_body_item item_enums) item_of xs c.each.item-index x _ _ _ _ _ _ _ _ c.each-test.true c.item-item.is here c.each.invariant w.in_ok-add_enum.ensures (ap (λ p. enum_locations p (enum_of w.in-Enum.item)) w.in_ok-path.ensures) w.in_ok-index.ensures)
      | in_default w ↦ rw (w.out-is, w.index-is) (skips (enum_at c.args.path.now 4) (of_body_item item_enums) item_of xs c.each.item-index x _ _ _ _ c.each-test.true c.item-item.is (no_enum x w.in_default.not-Enum) c.each.invariant)
    ]

pub returns : goal.returns
returns c =
    (is_over (enum_at c.args.path.now 4) (of_body_item item_enums) item_of c.args.items.now c.each.item-index _ _ _ _ c.each-test.false c.each.invariant).all
    ∙ ap (λ xs. c.args.out.now ++ numbered (enum_at c.args.path.now 4) 0 xs) (of_body_items item_enums (map item_of c.args.items.now))
