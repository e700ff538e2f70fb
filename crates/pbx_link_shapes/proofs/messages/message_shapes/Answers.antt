use Rattle.std.proofs.Common.{◌∙◌, ap, sym, arith}
use Rattle.std.specs.List.{flat_map}
use Rattle.std.proofs.lemmas.List.{take_all}
use Rattle.pbx_link_shapes.proofs.Whole.{own_shapes, own_messages}
use Rattle.pbx_link_shapes.proofs.messages.message_shapes.Goals as goal

pub returns : goal.returns
returns c =
    let types = c.args.types.now in
    c.loop-table.invariant
    ∙ ap (flat_map (own_shapes types)) (take_all c.loop-table.table-index c.tables-tables.result.now (omega arith) ∙ c.tables-tables.ensures.same ∙ c.pool.ensures)
    ∙ sym (own_messages types)
