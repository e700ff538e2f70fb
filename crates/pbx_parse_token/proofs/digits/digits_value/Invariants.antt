use Rattle.std.proofs.Common.{length, ◌≡◌}
use Rattle.pbx_parse_token.specs.Scan.{digits_from}
use Rattle.pbx_parse_token.proofs.digits.digits_value.Given as goal

abbrev pub invariant-scan : goal.invariant-scan
invariant-scan l = digits_from l.base l.value l.rest ≡ digits_from l.base l.front l.digits

abbrev pub decreases-scan : goal.decreases-scan
decreases-scan l = length l.rest
