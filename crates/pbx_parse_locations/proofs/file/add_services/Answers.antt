use Rattle.std.proofs.Common.{ap, ◌∙◌}
use Rattle.pbx_parse_tree.specs.View.{top_of, service_of}
use Rattle.pbx_parse_locations.specs.Locations.{service_at, top_services, service_locations, element}
use Rattle.pbx_parse_locations.proofs.Added.{one_more, skips}
use Rattle.pbx_parse_locations.proofs.Skipped.{no_service}
use Rattle.pbx_parse_locations.proofs.file.add_services.Goals as goal
use Rattle.pbx_parse_locations.proofs.file.add_services.Goals.{in-Service+in_ok-path+in_ok-add_service+in_ok-index, in_default}

pub each-preserved : goal.each-preserved
each-preserved c =
    let xs = c.args.tops.now in
    let x = c.top-item.result in
    elim c.match-top.branch [
      | in-Service+in_ok-path+in_ok-add_service+in_ok-index w ↦
          let here = ap (λ i. top_services (top_of i)) w.in-Service.is in
          rw (w.out-is, w.index-is)
          (one_more service_at top_services top_of xs c.each.top-index x _ _ _ _ _ _ _ _ c.each-test.true c.top-item.is here c.each.invariant w.in_ok-add_service.ensures (ap (λ p. service_locations p (service_of w.in-Service.service)) (w.in_ok-path.ensures ∙ ap (λ p. element p 6 c.each.index) c.new-file.ensures)) w.in_ok-index.ensures)
      | in_default w ↦ rw (w.out-is, w.index-is) (skips service_at top_services top_of xs c.each.top-index x _ _ _ _ c.each-test.true c.top-item.is (no_service x w.in_default.not-Service) c.each.invariant)
    ]
