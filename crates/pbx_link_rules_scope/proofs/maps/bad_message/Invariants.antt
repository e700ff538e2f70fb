use Rattle.std.proofs.Common.{◌≡◌, drop}
use Rattle.std.specs.List.{flat_map}
use Rattle.pbx_link_rules_scope.specs.MapFields.{bad_map_fields_in}
use Rattle.pbx_link_rules_scope.proofs.maps.bad_message.Given as goal

abbrev pub invariant-loop-message : goal.invariant-loop-message
invariant-loop-message g l =
    flat_map (bad_map_fields_in (g.V.Visible.files l.seen)) l.messages ≡ flat_map (bad_map_fields_in (g.V.Visible.files l.seen))
    (drop l.message-index l.messages)
