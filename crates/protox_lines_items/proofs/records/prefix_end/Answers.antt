use Rattle.std.proofs.Common.{arith}
use Rattle.protox_lines_items.proofs.Lengths.{goes_on_at, chain_at}
use Rattle.protox_lines_items.proofs.records.prefix_end.Goals as goal

pub returns-then-byte-lt128 : goal.returns-then-byte-lt128
returns-then-byte-lt128 c =
    (omega arith, omega arith, chain_at c.args.bytes.now c.loop-i.i (omega arith) c.loop-i.invariant (omega arith))

pub loop-i-preserved : goal.loop-i-preserved
loop-i-preserved c = goes_on_at c.args.bytes.now c.loop-i.i (omega arith) c.loop-i.invariant (omega arith)
