use Rattle.std.proofs.Common.{ℕ, List, ◌++◌, take}
use Rattle.std.specs.List.{flat_map}
use Rattle.pbx_parse_translation.specs.Scope.{Holds}
use Rattle.pbx_parse_translation.proofs.scope.add_all_names.Given as goal

abbrev pub invariant-each : goal.invariant-each
invariant-each g l = (before : List (List ℕ)) → Holds l.fn.scope before → Holds l.scope (before ++ flat_map g.T.Names.names (take l.item-index l.items))
