use Rattle.std.proofs.Common.{◌∙◌, ap, arith}
use Rattle.std.specs.List.{flat_map}
use Rattle.std.proofs.lemmas.List.{take_all}
use Rattle.pbx_link_shapes.proofs.Whole.{file_enums, whole_enums}
use Rattle.pbx_link_shapes.proofs.enums.enum_shapes.Goals as goal

pub returns : goal.returns
returns c =
    c.loop-table.invariant
    ∙ ap (flat_map file_enums) (take_all c.loop-table.table-index c.tables-tables.result.now (omega arith) ∙ c.tables-tables.ensures.same)
    ∙ whole_enums c.args.pool.now
