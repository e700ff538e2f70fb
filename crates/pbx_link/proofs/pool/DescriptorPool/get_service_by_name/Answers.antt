use Rattle.std.proofs.Common.{◌∙◌}
use Rattle.pbx_link_definitions.specs.Definitions.{services, service_name}
use Rattle.pbx_link.specs.Tables.{no_service}
use Rattle.pbx_link.proofs.Named.{no_part_named, file_within, named_held, named_is}
use Rattle.pbx_link.proofs.pool.DescriptorPool.get_service_by_name.Goals as goal

pub returns-in_err-file : goal.returns-in_err-file
returns-in_err-file c =
    c.from_residual.ensures ∙ no_part_named no_service services service_name c.args.self.now c.args.name.now c.service_place.result
    c.service_place.ensures c.in_err-file.was

pub table-requires : goal.table-requires
table-requires c =
    file_within no_service services service_name c.args.self.now c.args.name.now c.service_place.result c.in_ok-file.file c.in_ok-file.index
    c.service_place.ensures c.in_ok-file.was

pub invariant_of-result : goal.invariant_of-result
invariant_of-result c =
    named_held no_service services service_name c.args.self.now c.args.name.now c.service_place.result c.in_ok-file.file c.in_ok-file.index
    c.table.result.now c.copy.result c.copy-table.result c.service_place.ensures c.in_ok-file.was c.table.ensures c.copy.ensures c.copy-table.ensures

pub returns : goal.returns
returns c =
    named_is no_service services service_name c.args.self.now c.args.name.now c.service_place.result c.in_ok-file.file c.in_ok-file.index
    c.table.result.now c.copy.result c.copy-table.result c.service_place.ensures c.in_ok-file.was c.table.ensures c.copy.ensures c.copy-table.ensures
