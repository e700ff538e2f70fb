use Rattle.std.proofs.Common.{◌≡◌, take}
use Rattle.pbx_link_record.proofs.copying.ListDuplicate.duplicate.Given as goal

abbrev pub invariant-loop-item : goal.invariant-loop-item
invariant-loop-item g l = l.copies ≡ take l.item-index l.item-items
