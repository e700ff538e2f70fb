use Rattle.std.proofs.Common.{◌∙◌}
use Rattle.pbx_link_definitions.specs.Definitions.{messages, message_name}
use Rattle.pbx_link.specs.Tables.{no_message}
use Rattle.pbx_link.proofs.Named.{no_part_named, file_within, named_held, named_is}
use Rattle.pbx_link.proofs.pool.DescriptorPool.get_message_by_name.Goals as goal

pub returns-in_err-file : goal.returns-in_err-file
returns-in_err-file c =
    c.from_residual.ensures ∙ no_part_named no_message messages message_name c.args.self.now c.args.name.now c.message_place.result
    c.message_place.ensures c.in_err-file.was

pub table-requires : goal.table-requires
table-requires c =
    file_within no_message messages message_name c.args.self.now c.args.name.now c.message_place.result c.in_ok-file.file c.in_ok-file.index
    c.message_place.ensures c.in_ok-file.was

pub invariant_of-result : goal.invariant_of-result
invariant_of-result c =
    named_held no_message messages message_name c.args.self.now c.args.name.now c.message_place.result c.in_ok-file.file c.in_ok-file.index
    c.table.result.now c.copy.result c.copy-table.result c.message_place.ensures c.in_ok-file.was c.table.ensures c.copy.ensures c.copy-table.ensures

pub returns : goal.returns
returns c =
    named_is no_message messages message_name c.args.self.now c.args.name.now c.message_place.result c.in_ok-file.file c.in_ok-file.index
    c.table.result.now c.copy.result c.copy-table.result c.message_place.ensures c.in_ok-file.was c.table.ensures c.copy.ensures c.copy-table.ensures
