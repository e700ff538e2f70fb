use Rattle.std.proofs.Common.{◌+◌, ◌-◌, ◌/◌, map, sym, ◌∙◌, arith}
use Rattle.pbx_content_codec.specs.View.{key_of, pair_of}
use Rattle.pbx_content_codec.proofs.Keyed.{between_up, between_down, between_none, key_there}
use Rattle.pbx_content_codec.proofs.pairs.place_of.Goals as goal

pub loop-low-preserved-then-is_before : goal.loop-low-preserved-then-is_before
loop-low-preserved-then-is_before c =
    let middle = c.loop-low.low + (c.loop-low.high - c.loop-low.low) / 2 in
    between_up (key_of c.args.key.now) (map pair_of c.args.pairs.now) c.loop-low.low c.loop-low.high middle (pair_of c.index-pairs-middle.result) c.requires
    (omega arith)
    (key_there c.args.pairs.now middle c.index-pairs-middle.result (key_of c.args.key.now) _ (sym c.if-is_before.true
    ∙ c.is_before.ensures)) c.loop-low.invariant

pub loop-low-preserved : goal.loop-low-preserved
loop-low-preserved c =
    let middle = c.loop-low.low + (c.loop-low.high - c.loop-low.low) / 2 in
    between_down (key_of c.args.key.now) (map pair_of c.args.pairs.now) c.loop-low.low c.loop-low.high middle
    (pair_of c.index-pairs-middle.result) c.requires (omega arith) (omega arith)
    (key_there c.args.pairs.now middle c.index-pairs-middle.result (key_of c.args.key.now) _ (sym c.if-is_before.false
    ∙ c.is_before.ensures)) c.loop-low.invariant

pub returns : goal.returns
returns c = between_none (key_of c.args.key.now) (map pair_of c.args.pairs.now) c.loop-low.low c.loop-low.high (omega
    (arith, c.loop-low-test.false)) c.loop-low.invariant
