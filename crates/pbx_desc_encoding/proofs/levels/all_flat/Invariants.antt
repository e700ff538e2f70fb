use Rattle.std.proofs.Common.{◌≤◌, ◌+◌, take}
use Rattle.pbx_desc_encoding.specs.Levels.{below}
use Rattle.pbx_desc_encoding.proofs.levels.all_flat.Given as goal

abbrev pub invariant-loop-record : goal.invariant-loop-record
invariant-loop-record g l = below g.R.Flat.levels (take l.record-index l.record-items) ≤ g.R.Flat.MOST + 1
