use Rattle.std.proofs.Common.{string_bytes}
use Rattle.std.specs.Str.Iter.{chars_rest}
use Rattle.pbx_text.proofs.Camels.{Left}
use Rattle.pbx_text.proofs.mask.snake_case_to_camel_case.Given as goal

abbrev pub invariant-loop-c : goal.invariant-loop-c
invariant-loop-c l = Left l.part (string_bytes l.camel) l.raised (chars_rest l.c-iterator)
