use Rattle.std.proofs.Common.{◌+◌, arith}
use Rattle.pbx_desc_encoding.specs.Levels.{message_levels}
use Rattle.pbx_desc_encoding.proofs.Flat.{below_more}
use Rattle.pbx_desc_encoding.proofs.levels.+within.Goals as goal

pub are_within-loop-message-preserved : goal.are_within-loop-message-preserved
are_within-loop-message-preserved t c =
    below_more message_levels (c.args.levels + 1) c.as_slice-message-items.result.now c.loop-message.message-index c.message-item.result c.loop-message-test.true
    c.message-item.is c.loop-message.invariant (omega (arith, c.if-not-is_within.ensures))
