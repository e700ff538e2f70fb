use Rattle.std.proofs.Common.{◌++◌, map, ap, ◌∙◌}
use Rattle.pbx_parse_tree.specs.View.{item_of}
use Rattle.pbx_parse_locations.specs.Locations.{oneof_at, item_oneofs, numbered, block}
use Rattle.pbx_parse_locations.specs.BodyItems.{of_body_item}
use Rattle.pbx_parse_locations.proofs.Added.{one_more, skips, is_over}
use Rattle.pbx_parse_locations.proofs.Items.{body_item_of_oneof, no_oneof, of_body_items}
use Rattle.pbx_parse_locations.proofs.message.add_oneofs.Goals as goal
use Rattle.pbx_parse_locations.proofs.message.add_oneofs.Goals.{in-Oneof+in_ok-path+in_ok-add_block+in_ok-index, in_default}

pub each-preserved : goal.each-preserved
each-preserved c =
    let xs = c.args.items.now in
    let x = c.item-item.result in
    elim c.match-item.branch [
      | in-Oneof+in_ok-path+in_ok-add_block+in_ok-index w ↦
          let here = ap (λ i. of_body_item item_oneofs (item_of i)) w.in-Oneof.is ∙ ap (of_body_item item_oneofs) (body_item_of_oneof w.in-Oneof.oneof) in
          rw (w.out-is, w.index-is)
          (one_more (oneof_at c.args.path.now) (of_body_item item_oneofs) item_of xs c.each.item-index x _ _ _ _ _ _ _ _ c.each-test.true c.item-item.is here c.each.invariant w.in_ok-add_block.ensures (ap (λ p. block p w.in-Oneof.oneof.keyword w.in-Oneof.oneof.name.span w.in-Oneof.oneof.close) w.in_ok-path.ensures) w.in_ok-index.ensures)
      | in_default w ↦ rw (w.out-is, w.index-is) (skips (oneof_at c.args.path.now) (of_body_item item_oneofs) item_of xs c.each.item-index x _ _ _ _ c.each-test.true c.item-item.is (no_oneof x w.in_default.not-Oneof) c.each.invariant)
    ]

pub returns : goal.returns
returns c =
    (is_over (oneof_at c.args.path.now) (of_body_item item_oneofs) item_of c.args.items.now c.each.item-index _ _ _ _ c.each-test.false c.each.invariant).all
    ∙ ap (λ xs. c.args.out.now ++ numbered (oneof_at c.args.path.now) 0 xs) (of_body_items item_oneofs (map item_of c.args.items.now))
