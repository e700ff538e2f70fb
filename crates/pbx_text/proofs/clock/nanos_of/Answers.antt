use Rattle.std.proofs.Common.{arith}
use Rattle.pbx_text.proofs.Clocks.{nanos_below, nanos_more, power_small}
use Rattle.pbx_text.proofs.clock.nanos_of.Goals as goal

pub overflow_mul-nanos : goal.overflow_mul-nanos
overflow_mul-nanos c = omega (arith, c.loop-place.invariant.small, power_small c.loop-place.place c.loop-place-test.true)

pub overflow_add-nanos : goal.overflow_add-nanos
overflow_add-nanos c =
    omega (arith, c.loop-place.invariant.small, c.digit_or_zero.ensures.small, power_small c.loop-place.place c.loop-place-test.true)

pub loop-place-preserved : goal.loop-place-preserved
loop-place-preserved c = record {
  value = nanos_more c.args.digits.now c.loop-place.place c.loop-place.nanos c.digit_or_zero.result c.loop-place-test.true c.loop-place.invariant.value c.digit_or_zero.ensures.value;
  small = nanos_below c.loop-place.nanos c.digit_or_zero.result c.loop-place.place c.loop-place.invariant.small c.digit_or_zero.ensures.small;
}
