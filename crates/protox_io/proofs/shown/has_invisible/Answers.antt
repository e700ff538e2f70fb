use Rattle.std.proofs.Common.{◌∙◌, sym}
use Rattle.std.specs.Str.Iter.{chars_rest}
use Rattle.std.proofs.lemmas.Str.{IsUtf8-past_char}
use Rattle.protox_io.proofs.Showing.{invisible_found, invisible_next, invisible_none}
use Rattle.protox_io.proofs.shown.has_invisible.Goals as goal

pub returns-then-is_invisible : goal.returns-then-is_invisible
returns-then-is_invisible c =
    sym (c.loop-c.invariant.same ∙ invisible_found (chars_rest c.loop-c.c-iterator) (chars_rest c.next.new.self) c.in-Some.c c.loop-c.invariant.utf8 c.in-Some.ensures.steps.0 (sym c.is_invisible.ensures ∙ c.if-is_invisible.true))

pub loop-c-preserved : goal.loop-c-preserved
loop-c-preserved c = record {
  same = c.loop-c.invariant.same ∙ invisible_next (chars_rest c.loop-c.c-iterator) (chars_rest c.next.new.self) c.in-Some.c c.loop-c.invariant.utf8 c.in-Some.ensures.steps.0 (sym c.is_invisible.ensures ∙ c.if-is_invisible.false);
  utf8 = IsUtf8-past_char (chars_rest c.loop-c.c-iterator) (chars_rest c.next.new.self) c.in-Some.c c.loop-c.invariant.utf8 c.in-Some.ensures.steps.0;
}

pub returns : goal.returns
returns c = sym (c.loop-c.invariant.same ∙ invisible_none (chars_rest c.loop-c.c-iterator) c.in-None.ensures.steps.0.0)
