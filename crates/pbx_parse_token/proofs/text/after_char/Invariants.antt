use Rattle.std.proofs.Common.{length, take, ◌≡◌, ◌≤◌, ◌+◌, ◌-◌, ◌∷◌, ◌++◌}
use Rattle.pbx_parse_token.specs.Escapes.{unescaped}
use Rattle.pbx_parse_token.proofs.text.after_char.Given as goal

abbrev pub invariant-each : goal.invariant-each
invariant-each l = record {
  so_far : take (l.at + 1) l.bytes ++ unescaped l.rest ≡ l.first ∷ unescaped l.text;
  few : l.at ≤ l.more;
  array : length l.bytes ≡ 4;
  lengths : length l.rest ≤ length l.text;
}

abbrev pub decreases-each : goal.decreases-each
decreases-each l = l.more - l.at
