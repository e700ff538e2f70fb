use Rattle.std.proofs.Common.{◌≡◌, ◌++◌, drop, map}
use Rattle.pbx_parse_translation.specs.Passes.{listed}
use Rattle.pbx_parse_translation.proofs.passes.add_each.Given as goal

abbrev pub invariant-each : goal.invariant-each
invariant-each g l = l.records ++ map (λ x. g.T.Becomes.record_of x.1) (drop l.item-index l.item-items) ≡ l.fn.records ++ map g.T.Becomes.record_of (listed l.items)
