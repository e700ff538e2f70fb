use Rattle.std.proofs.Common.{◌≡◌, ◌++◌, map, take}
use Rattle.pbx_parse_tree.proofs.conditions.listed.Given as goal

abbrev pub invariant-each : goal.invariant-each
invariant-each l = l.all.items ≡ l.initial.all.items ++ map (λ x. x.1) (take l.setting-index l.setting-items)
