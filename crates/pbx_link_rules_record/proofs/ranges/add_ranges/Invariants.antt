use Rattle.std.proofs.Common.{◌≡◌, ◌++◌, map, take}
use Rattle.pbx_link_rules_record.proofs.ranges.add_ranges.Given as goal

abbrev pub invariant-loop-item : goal.invariant-loop-item
invariant-loop-item g l = l.ranges ≡ l.initial.ranges ++ map g.T.HasRange.range (take l.item-index l.items)
