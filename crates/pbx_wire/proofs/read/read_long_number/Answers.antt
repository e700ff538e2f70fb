use Rattle.std.proofs.Common.{arith}
use Rattle.pbx_wire.proofs.Numbers.{low_ends, low_tenth, low_long, low_last, low_more, low_fits}
use Rattle.pbx_wire.proofs.read.read_long_number.Goals as goal

pub returns-in-empty : goal.returns-in-empty
returns-in-empty c =
    low_ends c.loop-more.low c.loop-more.weight c.args.at c.loop-more.more c.loop-more.rest.now _ c.in-empty.len_below c.loop-more.invariant.reads

pub overflow_mul-part : goal.overflow_mul-part
overflow_mul-part c =
    let f = low_fits c.loop-more.more c.loop-more.weight c.loop-more.low c.from.result c.loop-more-test.true c.loop-more.invariant.few
    c.loop-more.invariant.weight_is c.loop-more.invariant.below (omega arith) in
    omega (arith, f.product)

pub overflow_add-result : goal.overflow_add-result
overflow_add-result c =
    let f = low_fits c.loop-more.more c.loop-more.weight c.loop-more.low c.from.result c.loop-more-test.true c.loop-more.invariant.few
    c.loop-more.invariant.weight_is c.loop-more.invariant.below (omega arith) in
    omega (arith, f.sum, f.next)

pub returns-then-first-lt128 : goal.returns-then-first-lt128
returns-then-first-lt128 c =
    low_last c.loop-more.low c.loop-more.weight c.args.at c.loop-more.more c.from.result c.loop-more.rest.now _ c.loop-more-test.true
    c.in-len1-up.len_at_least c.if-first-lt128.true c.from.ensures c.loop-more.invariant.reads

pub overflow_add-low : goal.overflow_add-low
overflow_add-low c =
    let f = low_fits c.loop-more.more c.loop-more.weight c.loop-more.low c.from.result c.loop-more-test.true c.loop-more.invariant.few
    c.loop-more.invariant.weight_is c.loop-more.invariant.below (omega arith) in
    omega (arith, f.sum, f.next)

pub overflow_mul-weight : goal.overflow_mul-weight
overflow_mul-weight c =
    let f = low_fits c.loop-more.more c.loop-more.weight c.loop-more.low c.from.result c.loop-more-test.true c.loop-more.invariant.few
    c.loop-more.invariant.weight_is c.loop-more.invariant.below (omega arith) in
    omega (arith, f.next)

pub loop-more-preserved : goal.loop-more-preserved
loop-more-preserved c =
    let f = low_fits c.loop-more.more c.loop-more.weight c.loop-more.low c.from.result c.loop-more-test.true c.loop-more.invariant.few
    c.loop-more.invariant.weight_is c.loop-more.invariant.below (omega arith) in
    record {
      few = omega (arith, c.loop-more.invariant.few);
      weight_is = f.next_is;
      below = f.sum;
      reads = low_more c.loop-more.low c.loop-more.weight c.args.at c.loop-more.more c.from.result c.loop-more.rest.now _ c.loop-more-test.true
          c.in-len1-up.len_at_least c.if-first-lt128.false c.from.ensures c.loop-more.invariant.reads;
    }

pub returns-in-empty-rest : goal.returns-in-empty-rest
returns-in-empty-rest c =
    low_ends c.loop-more.low c.loop-more.weight c.args.at c.loop-more.more c.loop-more.rest.now _ c.in-empty-rest.len_below c.loop-more.invariant.reads

pub returns-then-last-lt2 : goal.returns-then-last-lt2
returns-then-last-lt2 c =
    low_tenth c.loop-more.low c.loop-more.weight c.args.at c.loop-more.more c.from-then-last-lt2.result c.loop-more.rest.now _
    (omega (arith, c.loop-more-test.false)) c.in-len1-up-rest.len_at_least c.from-then-last-lt2.ensures (omega arith) c.loop-more.invariant.reads

pub returns-else-last-lt2 : goal.returns-else-last-lt2
returns-else-last-lt2 c =
    low_long c.loop-more.low c.loop-more.weight c.args.at c.loop-more.more c.loop-more.rest.now _ (omega (arith, c.loop-more-test.false))
    c.in-len1-up-rest.len_at_least c.if-last-lt2.false c.loop-more.invariant.reads
