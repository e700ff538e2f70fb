use Rattle.std.proofs.Common.{length, ◌≡◌, ◌≤◌}
use Rattle.pbx_parse_token.specs.Scan.{has_good_escapes}
use Rattle.pbx_parse_token.proofs.Faults.{Split}
use Rattle.pbx_parse_token.proofs.escape.bad_escape.Given as goal

abbrev pub invariant-scan : goal.invariant-scan
invariant-scan l = record {
  so_far : has_good_escapes l.rest ≡ has_good_escapes l.text;
  left : Split l.text l.rest;
  lengths : length l.rest ≤ length l.text;
}

abbrev pub decreases-scan : goal.decreases-scan
decreases-scan l = length l.rest
