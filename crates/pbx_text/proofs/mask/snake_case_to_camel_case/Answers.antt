use Rattle.std.proofs.Common.{rules, string_bytes}
use Rattle.std.specs.Str.Iter.{chars_rest}
use Rattle.pbx_text.proofs.Camels.{plain_goes, raised_goes}
use Rattle.pbx_text.proofs.mask.snake_case_to_camel_case.Goals as goal

pub loop-c-preserved-then-raised : goal.loop-c-preserved-then-raised
loop-c-preserved-then-raised c =
    let left = rw c.if-raised.true at c.loop-c.invariant in
    let goes = raised_goes c.args.part.now (string_bytes c.loop-c.camel) (chars_rest c.loop-c.c-iterator) (chars_rest c.next.new.self) c.in-Some.c
    (search rules) left c.in-Some.ensures.steps.0 in
    rw (c.in_ok-push_letter.ensures, c.to_ascii_uppercase.ensures.value) goes

pub loop-c-preserved : goal.loop-c-preserved
loop-c-preserved c =
    let left = rw c.if-raised.false at c.loop-c.invariant in
    let goes = plain_goes c.args.part.now (string_bytes c.loop-c.camel) (chars_rest c.loop-c.c-iterator) (chars_rest c.next.new.self) c.in-Some.c
    c.if-c-eq95.false c.if-c-eq44.false (search rules) left c.in-Some.ensures.steps.0 in
    rw (c.if-raised.false, c.in_ok-push_letter-2.ensures) goes
