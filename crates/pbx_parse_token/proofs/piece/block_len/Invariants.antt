use Rattle.std.proofs.Common.{length, ◌≡◌, ◌+◌}
use Rattle.std.specs.Prelude.{option_map}
use Rattle.pbx_parse_token.specs.Scan.{block_end}
use Rattle.pbx_parse_token.proofs.piece.block_len.Given as goal

abbrev pub invariant-scan : goal.invariant-scan
invariant-scan l = record {
  so_far : option_map (λ k. l.n + k) (block_end l.rest) ≡ block_end l.bytes;
  lengths : length l.rest + l.n ≡ length l.bytes;
}

abbrev pub decreases-scan : goal.decreases-scan
decreases-scan l = length l.rest
