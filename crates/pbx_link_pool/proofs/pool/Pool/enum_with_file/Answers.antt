use Rattle.std.proofs.Common.{sym}
use Rattle.pbx_link_definitions.specs.Definitions.{enums, enum_name}
use Rattle.pbx_link_pool.proofs.Found.{no_place, found_there, file_there, part_there}
use Rattle.pbx_link_pool.proofs.pool.Pool.enum_with_file.Goals as goal

pub returns-in_default : goal.returns-in_default
returns-in_default c = no_place enums enum_name c.args.self.now c.args.name.now (sym c.in_default.ensures)

pub returns-in_default-table : goal.returns-in_default-table
returns-in_default-table c = file_there enums enum_name c.args.self.now c.args.name.now c.in-Some.file c.in-Some.index (cc) c.in_default-table.ensures

pub returns-in-Some-enumeration : goal.returns-in-Some-enumeration
returns-in-Some-enumeration c =
    sym (found_there enums enum_name c.args.self.now c.args.name.now c.in-Some.file c.in-Some.index c.in-Some-table.table.now c.in-Some-enumeration.part (cc) c.in-Some-table.ensures c.in-Some-enumeration.ensures)

pub returns-in-None : goal.returns-in-None
returns-in-None c = part_there enums enum_name c.args.self.now c.args.name.now c.in-Some.file c.in-Some.index c.in-Some-table.table.now (cc) c.in-Some-table.ensures c.in-None.ensures
