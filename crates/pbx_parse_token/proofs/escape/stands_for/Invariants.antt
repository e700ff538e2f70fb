use Rattle.std.proofs.Common.{length, ◌≡◌}
use Rattle.std.specs.Prelude.{◌↔◌}
use Rattle.pbx_parse_token.specs.Escapes.{unescaped}
use Rattle.pbx_parse_token.proofs.escape.stands_for.Given as goal

abbrev pub invariant-scan : goal.invariant-scan
invariant-scan l = (unescaped l.rest ≡ l.wanted) ↔ (unescaped l.text ≡ l.bytes)

abbrev pub decreases-scan : goal.decreases-scan
decreases-scan l = length l.rest
