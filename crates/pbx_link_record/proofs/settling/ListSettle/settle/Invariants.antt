use Rattle.std.proofs.Common.{◌≡◌, map, take}
use Rattle.pbx_link_record.proofs.settling.ListSettle.settle.Given as goal

abbrev pub invariant-loop-item : goal.invariant-loop-item
invariant-loop-item g l = l.list ≡ map g.T.Settle.settled (take l.item-index l.item-items)
