use Rattle.std.proofs.Common.{◌≡◌, ◌-◌, ◌^◌, min, max, drop}
use Rattle.pbx_wire.specs.Text.{depth_of}
use Rattle.pbx_content_codec.proofs.levels.+groups.Given as goal

abbrev pub invariant-recs_depth-loop-rec : goal.invariant-recs_depth-loop-rec
invariant-recs_depth-loop-rec l = min (depth_of l.rec-items) (2 ^ 32 - 1) ≡ max l.deepest (min (depth_of (drop l.rec-index l.rec-items)) (2 ^ 32 - 1))
