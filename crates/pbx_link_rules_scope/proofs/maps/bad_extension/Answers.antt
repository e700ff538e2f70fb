use Rattle.pbx_link_rules_scope.proofs.Entries.{extension_here}
use Rattle.pbx_link_rules_scope.proofs.maps.bad_extension.Goals as goal

pub returns-then-branch : goal.returns-then-branch
returns-then-branch g c =
    extension_here (g.V.Visible.files c.args.seen.now) c.args.extensions.now c.loop-extension.extension-index c.extension-item.result
    c.loop-extension-test.true c.extension-item.is c.loop-extension.invariant c.scope.result.now c.scope.ensures c.item.result.now c.item.ensures
    c.in_ok-has_entry_type.field-0 c.in_ok-has_entry_type.ensures c.if-branch.true c.place.result.now c.in_ok-place_copy.field-0 c.place.ensures
    c.in_ok-place_copy.ensures
