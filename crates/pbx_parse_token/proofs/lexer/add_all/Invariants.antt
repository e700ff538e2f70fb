use Rattle.std.proofs.Common.{◌≡◌, ◌≤◌, ◌+◌, ◌-◌, ◌++◌, length, take}
use Rattle.std.specs.Prelude.{option_map}
use Rattle.std.specs.Str.{IsUtf8}
use Rattle.pbx_parse_token.specs.Places.{place_after}
use Rattle.pbx_parse_token.specs.Pieces.{tokens_from, origin, significant}
use Rattle.pbx_parse_token.specs.Scan.{pieces_at}
use Rattle.pbx_parse_token.specs.View.{BeginIn, tokens_of}
use Rattle.pbx_parse_token.proofs.Faults.{Split}
use Rattle.pbx_parse_token.proofs.Laws.{tokens_in}
use Rattle.pbx_parse_token.proofs.lexer.add_all.Given as goal

abbrev pub invariant-pieces : goal.invariant-pieces
invariant-pieces l = record {
  so_far : option_map (λ ps. significant (tokens_of l.tokens.items ++ tokens_from (record { line = l.line; column = l.column }) ps)) (pieces_at l.rest) ≡ option_map tokens_in (pieces_at l.source);
  stay : significant (tokens_of l.tokens.items) ≡ tokens_of l.tokens.items;
  starts : BeginIn l.source l.tokens.items;
  at : place_after (take (length l.source - length l.rest) l.source) origin ≡ record { line = l.line; column = l.column };
  left : Split l.source l.rest;
  line : l.line + length l.rest ≤ length l.source;
  column : l.column + length l.rest ≤ length l.source;
  text : IsUtf8 l.rest;
}

abbrev pub decreases-pieces : goal.decreases-pieces
decreases-pieces l = length l.rest
