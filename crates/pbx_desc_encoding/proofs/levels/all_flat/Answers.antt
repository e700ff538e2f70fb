use Rattle.std.proofs.Common.{◌+◌, arith}
use Rattle.pbx_desc_encoding.proofs.Flat.{below_more}
use Rattle.pbx_desc_encoding.proofs.levels.all_flat.Goals as goal

pub loop-record-preserved : goal.loop-record-preserved
loop-record-preserved g c =
    below_more g.R.Flat.levels (g.R.Flat.MOST + 1) c.as_slice-record-items.result.now c.loop-record.record-index c.record-item.result c.loop-record-test.true
    c.record-item.is c.loop-record.invariant (omega (arith, c.if-not-is_flat.ensures))
