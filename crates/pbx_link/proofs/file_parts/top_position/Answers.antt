use Rattle.std.proofs.Common.{◌∙◌, ◌<◌, length, true, false, arith}
use Rattle.pbx_link_definitions.specs.Definitions.{messages}
use Rattle.pbx_link.proofs.Tops.{opened, none_from}
use Rattle.pbx_link.proofs.file_parts.top_position.Goals as goal

pub loop-index-preserved : goal.loop-index-preserved
loop-index-preserved c =
    let f = c.args.table.now in
    let lt : c.loop-index.index < length (messages f) = omega (arith, c.loop-index-test.true, c.message_count.ensures) in
    c.loop-index.invariant ∙ opened f c.loop-index.index c.is_top.result false lt c.is_top.ensures c.if-is_top.false

pub returns-then-is_top : goal.returns-then-is_top
returns-then-is_top c =
    let f = c.args.table.now in
    let lt : c.loop-index.index < length (messages f) = omega (arith, c.loop-index-test.true, c.message_count.ensures) in (
      lt,
      omega (arith, c.loop-index-test.true),
      c.loop-index.invariant ∙ opened f c.loop-index.index c.is_top.result true lt c.is_top.ensures c.if-is_top.true,
    )

pub returns : goal.returns
returns c =
    c.loop-index.invariant ∙ none_from c.args.table.now c.loop-index.index (omega (arith, c.loop-index-test.false, c.message_count.ensures))
