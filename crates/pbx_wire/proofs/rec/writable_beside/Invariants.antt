use Rattle.std.proofs.Common.{◌≡◌, take, IsTrue}
use Rattle.std.specs.List.{filter}
use Rattle.pbx_wire.specs.Text.{are_fit}
use Rattle.pbx_wire.specs.Number.{is_writable_beside}
use Rattle.pbx_wire.proofs.rec.writable_beside.Given as goal

abbrev pub invariant-loop-rec : goal.invariant-loop-rec
invariant-loop-rec l = record {
  kept : l.kept ≡ filter (is_writable_beside l.numbers) (take l.rec-index l.rec-items);
  fit : IsTrue (are_fit l.kept);
}
