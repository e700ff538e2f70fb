use Rattle.std.proofs.Common.{◌≡◌, length}
use Rattle.std.specs.List.{list_any}
use denote.Text.{Utf8}
use denote.Shadow.{shadow}
use Rattle.pbx_link_definitions.specs.Names.{among, prefixes}
use Rattle.pbx_link_rules.specs.Rules.{pool_names}
use Rattle.pbx_link_rules.proofs.packages.has_defined_prefix.Given as goal

abbrev pub invariant-loop-at : goal.invariant-loop-at
invariant-loop-at g l =
    shadow (Utf8 l.current)
    × (list_any (among (pool_names (g.P.Pooled.files l.pool))) (prefixes l.current)
    ≡ list_any (among (pool_names (g.P.Pooled.files l.pool))) (prefixes l.initial.current))

abbrev pub decreases-loop-at : goal.decreases-loop-at
decreases-loop-at g l = length l.current
