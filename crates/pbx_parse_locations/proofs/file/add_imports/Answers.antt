use Rattle.std.proofs.Common.{[], ◌∷◌, ap, ◌∙◌}
use Rattle.pbx_parse_tree.specs.View.{top_of}
use Rattle.pbx_parse_locations.specs.Locations.{import_at, top_imports, place, element}
use Rattle.pbx_parse_locations.proofs.Added.{one_more, skips}
use Rattle.pbx_parse_locations.proofs.Skipped.{no_import}
use Rattle.pbx_parse_locations.proofs.file.add_imports.Goals as goal
use Rattle.pbx_parse_locations.proofs.file.add_imports.Goals.{in-Import+in_ok-path+in_ok-add+in_ok-index, in_default}

pub each-preserved : goal.each-preserved
each-preserved c =
    let xs = c.args.tops.now in
    let x = c.top-item.result in
    elim c.match-top.branch [
      | in-Import+in_ok-path+in_ok-add+in_ok-index w ↦
          let here = ap (λ i. top_imports (top_of i)) w.in-Import.is in
          rw (w.out-is, w.index-is)
          (one_more import_at top_imports top_of xs c.each.top-index x _ _ _ _ _ _ _ _ c.each-test.true c.top-item.is here c.each.invariant w.in_ok-add.ensures (ap (λ p. place p w.in-Import.import.keyword w.in-Import.import.end ∷ []) (w.in_ok-path.ensures ∙ ap (λ p. element p 3 c.each.index) c.new-file.ensures)) w.in_ok-index.ensures)
      | in_default w ↦ rw (w.out-is, w.index-is) (skips import_at top_imports top_of xs c.each.top-index x _ _ _ _ c.each-test.true c.top-item.is (no_import x w.in_default.not-Import) c.each.invariant)
    ]
