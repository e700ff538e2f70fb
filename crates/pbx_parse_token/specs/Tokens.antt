-- Tokens of a source: the lexical elements of the Protocol Buffers language specification.
use Rattle.std.specs.Prelude.{ℕ, List}
use Rattle.pbx_parse_token.specs.declared.token.Span.{Span}

pub data Word : Type 0 where
  ident : List ℕ → Word
  int : ℕ → Word
  str : List ℕ → Word
  mark : ℕ → Word

pub record Token : Type 0 where
  pub word : Word
  pub span : Span
