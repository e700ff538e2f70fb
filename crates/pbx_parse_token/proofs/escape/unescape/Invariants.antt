use Rattle.std.proofs.Common.{length, ◌≡◌, ◌++◌}
use Rattle.pbx_parse_token.specs.Escapes.{unescaped}
use Rattle.pbx_parse_token.proofs.escape.unescape.Given as goal

abbrev pub invariant-scan : goal.invariant-scan
invariant-scan l = l.bytes.items ++ unescaped l.rest ≡ unescaped l.text

abbrev pub decreases-scan : goal.decreases-scan
decreases-scan l = length l.rest
