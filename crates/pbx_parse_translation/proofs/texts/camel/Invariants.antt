use Rattle.std.proofs.Common.{◌≡◌, ◌++◌, true, string_bytes}
use Rattle.std.specs.Str.Iter.{chars_rest}
use Rattle.pbx_parse_translation.specs.Texts.{camel_from}
use Rattle.pbx_parse_translation.proofs.texts.camel.Given as goal

abbrev pub invariant-loop-c : goal.invariant-loop-c
invariant-loop-c l = camel_from true l.name ≡ string_bytes l.camel ++ camel_from l.up (chars_rest l.c-iterator)
