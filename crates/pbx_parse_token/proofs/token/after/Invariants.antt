use Rattle.std.proofs.Common.{◌≡◌, ◌+◌, ◌≤◌, drop}
use Rattle.pbx_parse_token.specs.Places.{place_after}
use Rattle.pbx_parse_token.proofs.token.after.Given as goal

abbrev pub invariant-loop-b : goal.invariant-loop-b
invariant-loop-b l = record {
  so_far : place_after (drop l.b-index l.text) (record { line = l.line; column = l.column }) ≡ place_after l.text l.fn.place;
  line : l.line ≤ l.fn.place.line + l.b-index;
  column : l.column ≤ l.fn.place.column + l.b-index;
}
