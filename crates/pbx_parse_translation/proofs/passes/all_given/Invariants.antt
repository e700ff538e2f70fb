use Rattle.std.proofs.Common.{◌≡◌, ◌++◌, drop}
use Rattle.std.specs.List.{flat_map}
use Rattle.pbx_parse_translation.proofs.passes.all_given.Given as goal

abbrev pub invariant-each : goal.invariant-each
invariant-each g l = l.records ++ flat_map (g.T.Gives.given l.version) (drop l.item-index l.items) ≡ flat_map (g.T.Gives.given l.version) l.items
