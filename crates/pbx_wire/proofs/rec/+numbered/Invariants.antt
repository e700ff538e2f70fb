use Rattle.std.proofs.Common.{◌≡◌, drop, take, IsTrue}
use Rattle.pbx_wire.specs.Text.{are_numbered, are_fit}
use Rattle.pbx_wire.proofs.rec.+numbered.Given as goal

abbrev pub invariant-are_numbered-loop-rec : goal.invariant-are_numbered-loop-rec
invariant-are_numbered-loop-rec l = record {
  numbered : are_numbered l.rec-items ≡ are_numbered (drop l.rec-index l.rec-items);
  fit : IsTrue (are_fit (take l.rec-index l.rec-items));
}
