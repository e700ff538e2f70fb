use Rattle.std.proofs.Common.{◌∙◌}
use Rattle.pbx_link.proofs.Named.{no_file_named, place_within, file_held, file_is}
use Rattle.pbx_link.proofs.pool.DescriptorPool.get_file_by_name.Goals as goal

pub returns-in_err-index : goal.returns-in_err-index
returns-in_err-index c = c.from_residual.ensures ∙ no_file_named c.args.self.now c.args.name.now c.file_place.result c.file_place.ensures c.in_err-index.was

pub table-requires : goal.table-requires
table-requires c = place_within c.args.self.now c.args.name.now c.file_place.result c.in_ok-index.index c.file_place.ensures c.in_ok-index.was

pub invariant_of-result : goal.invariant_of-result
invariant_of-result c =
    file_held c.args.self.now c.args.name.now c.file_place.result c.in_ok-index.index c.table.result.now c.copy.result c.copy-table.result
    c.file_place.ensures c.in_ok-index.was c.table.ensures c.copy.ensures c.copy-table.ensures

pub returns : goal.returns
returns c =
    file_is c.args.self.now c.args.name.now c.file_place.result c.in_ok-index.index c.table.result.now c.copy.result c.copy-table.result
    c.file_place.ensures c.in_ok-index.was c.table.ensures c.copy.ensures c.copy-table.ensures
