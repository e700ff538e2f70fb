use Rattle.pbx_link_definitions.specs.Definitions.{enums, enum_name}
use Rattle.pbx_link_shapes.proofs.Placed.{placed_is, unplaced_is}
use Rattle.pbx_link_shapes.proofs.types.Types.enum_place.Goals as goal

pub returns-in-Some : goal.returns-in-Some
returns-in-Some c =
    placed_is enums enum_name c.self.inside.pool.now c.args.name.now c.args.self.now c.self.inside.enums c.enum_place.result c.in-Some.file c.in-Some.index c.place.result
    c.self.view_is c.self.invariant.1 c.enum_place.ensures c.in-Some.is c.place.ensures

pub returns-in-None : goal.returns-in-None
returns-in-None c = unplaced_is enums enum_name c.self.inside.pool.now c.args.name.now c.args.self.now c.enum_place.result c.self.view_is c.enum_place.ensures c.in-None.is
