use Rattle.std.proofs.Common.{length}
use Rattle.std.specs.Prelude.{◌↔◌}
use Rattle.pbx_parse_token.specs.Escapes.{StandsForText}
use Rattle.pbx_parse_token.proofs.text.stands_for_text.Given as goal

abbrev pub invariant-scan : goal.invariant-scan
invariant-scan l = StandsForText l.rest ↔ StandsForText l.text

abbrev pub decreases-scan : goal.decreases-scan
decreases-scan l = length l.rest
