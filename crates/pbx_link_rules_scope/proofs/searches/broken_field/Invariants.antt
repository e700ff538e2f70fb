use Rattle.std.proofs.Common.{◌≡◌, drop}
use Rattle.pbx_link_rules_scope.specs.Rules.{places_by}
use Rattle.pbx_link_rules_scope.proofs.Searched.{message_fields}
use Rattle.pbx_link_rules_scope.proofs.searches.broken_field.Given as goal

abbrev pub invariant-loop-message : goal.invariant-loop-message
invariant-loop-message g l =
    places_by (g.R.Rule.breaks l.rule) l.number (message_fields 0 l.messages)
    ≡ places_by (g.R.Rule.breaks l.rule) l.number (message_fields l.message-index (drop l.message-index l.messages))
