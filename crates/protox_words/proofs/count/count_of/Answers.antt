use Rattle.std.proofs.Common.{arith}
use Rattle.protox_words.proofs.Counts.{passed}
use Rattle.protox_words.proofs.count.count_of.Goals as goal

pub returns-then-number-gt-GREATEST : goal.returns-then-number-gt-GREATEST
returns-then-number-gt-GREATEST c =
    passed c.args.text.now c.as_bytes-digits.result.now c.loop-digit.digit-index c.loop-digit.number c.loop-digit.invariant.value c.loop-digit-test.true
    (omega arith)
