use Rattle.std.proofs.Common.{◌≡◌, drop}
use Rattle.pbx_link_definitions.specs.Definitions.{methods, package_of}
use Rattle.pbx_link_rules_scope.specs.Rules.{places_by}
use Rattle.pbx_link_rules_scope.proofs.Searched.{service_methods}
use Rattle.pbx_link_rules_scope.proofs.searches.broken_method.Given as goal

abbrev pub invariant-loop-index : goal.invariant-loop-index
invariant-loop-index g l =
    places_by (g.R.Rule.breaks l.rule) l.number (methods l.file)
    ≡ places_by (g.R.Rule.breaks l.rule) l.number (service_methods (package_of l.file) l.index (drop l.index l.service-items))
