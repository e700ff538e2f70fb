use Rattle.std.proofs.Common.{false, length, ◌≡◌, ◌+◌}
use Rattle.std.specs.Prelude.{option_map}
use Rattle.pbx_parse_token.specs.Scan.{quoted_end}
use Rattle.pbx_parse_token.proofs.piece.quoted_len.Given as goal

abbrev pub invariant-scan : goal.invariant-scan
invariant-scan l = record {
  so_far : option_map (λ k. l.n + k) (quoted_end l.quote l.escaped l.rest) ≡ quoted_end l.quote false l.bytes;
  lengths : length l.rest + l.n ≡ length l.bytes;
}

abbrev pub decreases-scan : goal.decreases-scan
decreases-scan l = length l.rest
