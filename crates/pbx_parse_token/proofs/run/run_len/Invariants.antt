use Rattle.std.proofs.Common.{length, drop, ◌-◌, ◌≡◌, ◌≤◌, ◌+◌}
use Rattle.std.specs.List.{prefix_len}
use Rattle.pbx_parse_token.specs.Bytes.{passes}
use Rattle.pbx_parse_token.proofs.run.run_len.Given as goal

abbrev pub invariant-loop-n : goal.invariant-loop-n
invariant-loop-n l = record {
  so_far : l.n + prefix_len (passes l.run) (drop l.n l.bytes) ≡ prefix_len (passes l.run) l.bytes;
  within : l.n ≤ length l.bytes;
}

abbrev pub decreases-loop-n : goal.decreases-loop-n
decreases-loop-n l = length l.bytes - l.n
