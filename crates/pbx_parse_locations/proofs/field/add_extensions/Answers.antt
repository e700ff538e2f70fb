use Rattle.std.proofs.Common.{ap}
use Rattle.pbx_parse_tree.specs.View.{extension_of, field_of}
use Rattle.pbx_parse_locations.specs.Locations.{field_at, parts_of_field, extension_parts, field_locations}
use Rattle.pbx_parse_locations.proofs.Added.{one_more, skips}
use Rattle.pbx_parse_locations.proofs.Skipped.{no_extension}
use Rattle.pbx_parse_locations.proofs.field.add_extensions.Goals as goal
use Rattle.pbx_parse_locations.proofs.field.add_extensions.Goals.{in-Field+in_ok-path+in_ok-add_labelled+in_ok-index, in_default}

pub each-preserved : goal.each-preserved
each-preserved c =
    let xs = c.args.extensions.now in
    let x = c.extension-item.result in
    elim c.match-extension.branch [
      | in-Field+in_ok-path+in_ok-add_labelled+in_ok-index w ↦
          let here = ap (λ i. extension_parts (extension_of i)) w.in-Field.is in
          rw (w.out-is, w.index-is)
          (one_more (field_at c.args.path.now c.args.field) extension_parts extension_of xs c.each.extension-index x _ _ _ _ _ _ _ _ c.each-test.true c.extension-item.is here c.each.invariant w.in_ok-add_labelled.ensures (ap (λ p. field_locations p (parts_of_field (field_of w.in-Field.extension))) w.in_ok-path.ensures) w.in_ok-index.ensures)
      | in_default w ↦ rw (w.out-is, w.index-is) (skips (field_at c.args.path.now c.args.field) extension_parts extension_of xs c.each.extension-index x _ _ _ _ c.each-test.true c.extension-item.is (no_extension x w.in_default.not-Field) c.each.invariant)
    ]
