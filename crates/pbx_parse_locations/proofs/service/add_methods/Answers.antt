use Rattle.std.proofs.Common.{ap}
use Rattle.pbx_parse_tree.specs.View.{service_item_of, method_of}
use Rattle.pbx_parse_locations.specs.Locations.{method_at, item_methods, method_locations}
use Rattle.pbx_parse_locations.proofs.Added.{one_more, skips}
use Rattle.pbx_parse_locations.proofs.Skipped.{no_method}
use Rattle.pbx_parse_locations.proofs.service.add_methods.Goals as goal
use Rattle.pbx_parse_locations.proofs.service.add_methods.Goals.{in-Method+in_ok-path+in_ok-add_method+in_ok-index, in_default}

pub each-preserved : goal.each-preserved
each-preserved c =
    let xs = c.args.items.now in
    let x = c.item-item.result in
    elim c.match-item.branch [
      | in-Method+in_ok-path+in_ok-add_method+in_ok-index w ↦
          let here = ap (λ i. item_methods (service_item_of i)) w.in-Method.is in
          rw (w.out-is, w.index-is)
          (one_more (method_at c.args.path.now) item_methods service_item_of xs c.each.item-index x _ _ _ _ _ _ _ _ c.each-test.true c.item-item.is here c.each.invariant w.in_ok-add_method.ensures (ap (λ p. method_locations p (method_of w.in-Method.method)) w.in_ok-path.ensures) w.in_ok-index.ensures)
      | in_default w ↦ rw (w.out-is, w.index-is) (skips (method_at c.args.path.now) item_methods service_item_of xs c.each.item-index x _ _ _ _ c.each-test.true c.item-item.is (no_method x w.in_default.not-Method) c.each.invariant)
    ]
