use Rattle.std.proofs.Common.{ap}
use Rattle.pbx_parse_tree.specs.View.{enum_item_of, value_of}
use Rattle.pbx_parse_locations.specs.Locations.{value_at, item_values, value_locations}
use Rattle.pbx_parse_locations.proofs.Added.{one_more, skips}
use Rattle.pbx_parse_locations.proofs.Skipped.{no_value}
use Rattle.pbx_parse_locations.proofs.enumeration.add_values.Goals as goal
use Rattle.pbx_parse_locations.proofs.enumeration.add_values.Goals.{in-Value+in_ok-path+in_ok-add_value+in_ok-index, in_default}

pub each-preserved : goal.each-preserved
each-preserved c =
    let xs = c.args.items.now in
    let x = c.item-item.result in
    elim c.match-item.branch [
      | in-Value+in_ok-path+in_ok-add_value+in_ok-index w ↦
          let here = ap (λ i. item_values (enum_item_of i)) w.in-Value.is in
          rw (w.out-is, w.index-is)
          (one_more (value_at c.args.path.now) item_values enum_item_of xs c.each.item-index x _ _ _ _ _ _ _ _ c.each-test.true c.item-item.is here c.each.invariant w.in_ok-add_value.ensures (ap (λ p. value_locations p (value_of w.in-Value.value)) w.in_ok-path.ensures) w.in_ok-index.ensures)
      | in_default w ↦ rw (w.out-is, w.index-is) (skips (value_at c.args.path.now) item_values enum_item_of xs c.each.item-index x _ _ _ _ c.each-test.true c.item-item.is (no_value x w.in_default.not-Value) c.each.invariant)
    ]
