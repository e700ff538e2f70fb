use Rattle.std.proofs.Common.{string_bytes}
use Rattle.std.specs.Str.Iter.{chars_rest}
use Rattle.pbx_text.proofs.Masks.{snake_goes}
use Rattle.pbx_text.proofs.mask.camel_case_to_snake_case.Goals as goal

pub loop-c-preserved : goal.loop-c-preserved
loop-c-preserved c =
    let goes = snake_goes c.args.part.now (string_bytes c.loop-c.snake) (chars_rest c.loop-c.c-iterator) (chars_rest c.next.new.self) c.in-Some.c
    c.if-c-eq95.false c.loop-c.invariant c.in-Some.ensures.steps.0 in
    rw c.in_ok-push_snake.ensures goes
