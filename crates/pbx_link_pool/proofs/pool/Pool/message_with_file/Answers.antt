use Rattle.std.proofs.Common.{sym}
use Rattle.pbx_link_definitions.specs.Definitions.{messages, message_name}
use Rattle.pbx_link_pool.proofs.Found.{no_place, found_there, file_there, part_there}
use Rattle.pbx_link_pool.proofs.pool.Pool.message_with_file.Goals as goal

pub returns-in_default : goal.returns-in_default
returns-in_default c = no_place messages message_name c.args.self.now c.args.name.now (sym c.in_default.ensures)

pub returns-in_default-table : goal.returns-in_default-table
returns-in_default-table c = file_there messages message_name c.args.self.now c.args.name.now c.in-Some.file c.in-Some.index (cc) c.in_default-table.ensures

pub returns-in-Some-message : goal.returns-in-Some-message
returns-in-Some-message c =
    sym (found_there messages message_name c.args.self.now c.args.name.now c.in-Some.file c.in-Some.index c.in-Some-table.table.now c.in-Some-message.part (cc) c.in-Some-table.ensures c.in-Some-message.ensures)

pub returns-in-None : goal.returns-in-None
returns-in-None c = part_there messages message_name c.args.self.now c.args.name.now c.in-Some.file c.in-Some.index c.in-Some-table.table.now (cc) c.in-Some-table.ensures c.in-None.ensures
