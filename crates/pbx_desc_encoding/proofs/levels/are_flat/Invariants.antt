use Rattle.std.proofs.Common.{◌≡◌, drop}
use Rattle.pbx_wire.specs.Text.{depth_of}
use Rattle.pbx_desc_encoding.proofs.levels.are_flat.Given as goal

abbrev pub invariant-loop-rec : goal.invariant-loop-rec
invariant-loop-rec l = depth_of l.rec-items ≡ depth_of (drop l.rec-index l.rec-items)
