use Rattle.std.proofs.Common.{[], map, sym, ap, ◌∙◌}
use Rattle.std.specs.List.{flat_map}
use Rattle.pbx_parse_tree.specs.View.{top_of, extension_of}
use Rattle.pbx_parse_locations.specs.Locations.{field_at, top_extensions, extension_parts}
use Rattle.pbx_parse_locations.proofs.Added.{goes_on, skips}
use Rattle.pbx_parse_locations.proofs.Skipped.{no_extend_at_top}
use Rattle.pbx_parse_locations.proofs.file.add_extension_blocks.Goals as goal
use Rattle.pbx_parse_locations.proofs.file.add_extension_blocks.Goals.{in-Extend+in_ok-index, in_default}

pub each-preserved : goal.each-preserved
each-preserved c =
    let xs = c.args.tops.now in
    let x = c.top-item.result in
    elim c.match-top.branch [
      | in-Extend+in_ok-index w ↦
          let here = ap (λ i. top_extensions (top_of i)) w.in-Extend.is ∙ ap (λ es. flat_map extension_parts (map extension_of es)) (sym w.as_slice-extensions.ensures.value) in
          rw (w.out-is, w.index-is)
          (goes_on (field_at [] 7) top_extensions top_of xs c.each.top-index x _ _ _ _ _ _ _ c.each-test.true c.top-item.is here c.each.invariant (rw c.new-file.ensures at w.in_ok-index.ensures))
      | in_default w ↦ rw (w.out-is, w.index-is) (skips (field_at [] 7) top_extensions top_of xs c.each.top-index x _ _ _ _ c.each-test.true c.top-item.is (no_extend_at_top x w.in_default.not-Extend) c.each.invariant)
    ]
