use Rattle.std.proofs.Common.{◌≡◌, length}
use Rattle.pbx_parse_token.specs.Scan.{has_good_escapes}
use Rattle.pbx_link_rules_scope.proofs.escapes.has_good_escapes.Given as goal

abbrev pub invariant-scan : goal.invariant-scan
invariant-scan l = has_good_escapes l.rest ≡ has_good_escapes l.text

abbrev pub decreases-scan : goal.decreases-scan
decreases-scan l = length l.rest
