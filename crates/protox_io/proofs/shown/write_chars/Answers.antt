use Rattle.std.proofs.Common.{◌∙◌}
use Rattle.std.specs.Str.Iter.{chars_rest}
use Rattle.std.proofs.lemmas.Str.{IsUtf8-past_char}
use Rattle.protox_io.proofs.Counts.{later_again}
use Rattle.protox_io.proofs.Showing.{shown_on, shown_refused, shown_end}
use Rattle.protox_io.proofs.shown.write_chars.Goals as goal

pub loop-c-preserved : goal.loop-c-preserved
loop-c-preserved g c = record {
  told = λ tells.
      shown_on c.args.text.now (chars_rest c.loop-c.c-iterator) (chars_rest c.next.new.self) c.in-Some.c _ _ _ c.loop-c.invariant.utf8 c.in-Some.ensures.steps.0
      (c.loop-c.invariant.told tells) (c.in-Ok.ensures.told (c.loop-c.invariant.keeps_tells ∙ tells));
  keeps_tells = c.in-Ok.ensures.keeps_tells ∙ c.loop-c.invariant.keeps_tells;
  later = later_again _ _ _ c.loop-c.invariant.later c.in-Ok.ensures.later;
  utf8 = IsUtf8-past_char (chars_rest c.loop-c.c-iterator) (chars_rest c.next.new.self) c.in-Some.c c.loop-c.invariant.utf8 c.in-Some.ensures.steps.0;
}

pub returns-in-Err-clause-told : goal.returns-in-Err-clause-told
returns-in-Err-clause-told g c tells =
    shown_refused c.args.text.now (chars_rest c.loop-c.c-iterator) (chars_rest c.next.new.self) c.in-Some.c _ _ _ c.loop-c.invariant.utf8 c.in-Some.ensures.steps.0
    (c.loop-c.invariant.told tells) (c.in-Err.ensures.told (c.loop-c.invariant.keeps_tells ∙ tells))

pub returns-clause-told : goal.returns-clause-told
returns-clause-told g c tells = shown_end c.args.text.now (chars_rest c.loop-c.c-iterator) _ _ c.in-None.ensures.steps.0.0 (c.loop-c.invariant.told tells)
