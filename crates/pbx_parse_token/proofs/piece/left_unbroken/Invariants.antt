use Rattle.std.proofs.Common.{length}
use Rattle.pbx_parse_token.proofs.Faults.{Split}
use Rattle.pbx_parse_token.proofs.piece.left_unbroken.Given as goal

abbrev pub invariant-scan : goal.invariant-scan
invariant-scan l = Split l.text l.rest

abbrev pub decreases-scan : goal.decreases-scan
decreases-scan l = length l.rest
