use Rattle.std.proofs.Common.{◌≡◌}
use Rattle.std.specs.List.{list_any}
use Rattle.std.specs.Str.{IsUtf8, chars}
use Rattle.std.specs.Str.Iter.{chars_rest}
use Rattle.pbx_text.specs.Invisible.{is_invisible}
use Rattle.protox_io.proofs.shown.has_invisible.Given as goal

abbrev pub invariant-loop-c : goal.invariant-loop-c
invariant-loop-c l = record {
  same : list_any is_invisible (chars l.text) ≡ list_any is_invisible (chars (chars_rest l.c-iterator));
  utf8 : IsUtf8 (chars_rest l.c-iterator);
}
