use Rattle.std.proofs.Common.{string_bytes}
use Rattle.std.specs.Str.Iter.{chars_rest}
use Rattle.pbx_text.proofs.Masks.{Left}
use Rattle.pbx_text.proofs.mask.camel_case_to_snake_case.Given as goal

abbrev pub invariant-loop-c : goal.invariant-loop-c
invariant-loop-c l = Left l.part (string_bytes l.snake) (chars_rest l.c-iterator)
