use Rattle.std.proofs.Common.{◌≡◌, drop}
use Rattle.pbx_link_rules_scope.specs.Rules.{places_by}
use Rattle.pbx_link_rules_scope.proofs.searches.broken_extension.Given as goal

abbrev pub invariant-loop-extension : goal.invariant-loop-extension
invariant-loop-extension g l =
    places_by (g.R.Rule.breaks l.rule) l.number l.extensions ≡ places_by (g.R.Rule.breaks l.rule) l.number (drop l.extension-index l.extensions)
