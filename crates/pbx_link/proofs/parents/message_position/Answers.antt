use Rattle.std.proofs.Common.{◌<◌, length, true, false, arith}
use Rattle.pbx_link_definitions.specs.Definitions.{messages}
use Rattle.pbx_link.proofs.FirstNamed.{by_name, none_named}
use Rattle.pbx_link.proofs.parents.message_position.Goals as goal

pub loop-index-preserved : goal.loop-index-preserved
loop-index-preserved c =
    let ms = messages c.args.table.now in
    let lt : c.loop-index.index < length ms = omega (arith, c.loop-index-test.true, c.message_count.ensures) in
    by_name c.args.name.now ms c.loop-index.index c.message_name.result c.unwrap.result c.eq.result false c.loop-index.invariant c.unwrap.ensures
    c.message_name.ensures lt c.eq.ensures c.if-eq.false

pub returns-then-eq : goal.returns-then-eq
returns-then-eq c =
    let ms = messages c.args.table.now in
    let lt : c.loop-index.index < length ms = omega (arith, c.loop-index-test.true, c.message_count.ensures) in (
      lt,
      by_name c.args.name.now ms c.loop-index.index c.message_name.result c.unwrap.result c.eq.result true c.loop-index.invariant c.unwrap.ensures
          c.message_name.ensures lt c.eq.ensures c.if-eq.true,
    )

pub returns : goal.returns
returns c =
    none_named c.args.name.now (messages c.args.table.now) c.loop-index.index c.loop-index.invariant
    (omega (arith, c.loop-index-test.false, c.message_count.ensures))
