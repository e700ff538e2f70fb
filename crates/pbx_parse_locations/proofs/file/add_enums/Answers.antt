use Rattle.std.proofs.Common.{[], ap, ◌∙◌}
use Rattle.pbx_parse_tree.specs.View.{top_of, enum_of}
use Rattle.pbx_parse_locations.specs.Locations.{enum_at, top_enums, enum_locations, element}
use Rattle.pbx_parse_locations.proofs.Added.{one_more, skips}
use Rattle.pbx_parse_locations.proofs.Skipped.{no_enum_at_top}
use Rattle.pbx_parse_locations.proofs.file.add_enums.Goals as goal
use Rattle.pbx_parse_locations.proofs.file.add_enums.Goals.{in-Enum+in_ok-path+in_ok-add_enum+in_ok-index, in_default}

pub each-preserved : goal.each-preserved
each-preserved c =
    let xs = c.args.tops.now in
    let x = c.top-item.result in
    elim c.match-top.branch [
      | in-Enum+in_ok-path+in_ok-add_enum+in_ok-index w ↦
          let here = ap (λ i. top_enums (top_of i)) w.in-Enum.is in
          rw (w.out-is, w.index-is)
          (one_more (enum_at [] 5) top_enums top_of xs c.each.top-index x _ _ _ _ _ _ _ _ c.each-test.true c.top-item.is here c.each.invariant w.in_ok-add_enum.ensures (ap (λ p. enum_locations p (enum_of w.in-Enum.item)) (w.in_ok-path.ensures ∙ ap (λ p. element p 5 c.each.index) c.new-file.ensures)) w.in_ok-index.ensures)
      | in_default w ↦ rw (w.out-is, w.index-is) (skips (enum_at [] 5) top_enums top_of xs c.each.top-index x _ _ _ _ c.each-test.true c.top-item.is (no_enum_at_top x w.in_default.not-Enum) c.each.invariant)
    ]
