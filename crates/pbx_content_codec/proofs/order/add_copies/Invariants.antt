use Rattle.std.proofs.Common.{◌≡◌, ◌++◌, take}
use Rattle.pbx_content_codec.proofs.order.add_copies.Given as goal

abbrev pub invariant-loop-rec : goal.invariant-loop-rec
invariant-loop-rec l = l.recs ≡ l.initial.recs ++ take l.rec-index l.rec-items
