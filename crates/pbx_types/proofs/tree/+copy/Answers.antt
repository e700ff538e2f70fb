use Rattle.std.proofs.Common.{◌≡◌}
use Rattle.pbx_types.specs.Texts.{IsInOrder}
use Rattle.pbx_types.proofs.TextPlaces.{with_next}
use Rattle.pbx_types.proofs.tree.+copy.Goals as goal

pub copy_fields-loop-field-preserved : goal.copy_fields-loop-field-preserved
copy_fields-loop-field-preserved t c =
    let items = c.as_slice-field-items.result.now in
    let order : IsInOrder items = rw c.as_slice-field-items.ensures.same c.as_slice-field-items.ensures.order in
    rw (c.in_ok-add.ensures.ok, c.in_ok-name.ensures, c.in_ok-copy_value.ensures, c.loop-field.invariant) (with_next items c.loop-field.field-index c.field-item.result order c.loop-field-test.true c.field-item.is)
