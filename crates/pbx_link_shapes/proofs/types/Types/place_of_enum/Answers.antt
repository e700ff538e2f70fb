use Rattle.pbx_link_definitions.specs.Definitions.{enums, enum_name}
use Rattle.pbx_link_meaning.specs.Descriptors.{referred}
use Rattle.pbx_link_shapes.proofs.Placed.{place_or_count, unnamed_count}
use Rattle.pbx_link_shapes.proofs.types.Types.place_of_enum.Goals as goal

pub returns-in-Some : goal.returns-in-Some
returns-in-Some c =
    place_or_count enums enum_name c.self.inside.pool.now c.args.self.now c.self.view_is c.self.inside.enums c.self.invariant.1 (referred c.args.name.now) c.in-Some.name.now
    c.enum_place.result c.unwrap_or.result c.in-Some.ensures c.enum_place.ensures c.unwrap_or.ensures

pub returns-in-None : goal.returns-in-None
returns-in-None c =
    unnamed_count enums enum_name c.self.inside.pool.now c.args.self.now c.self.view_is c.self.inside.enums c.self.invariant.1 (referred c.args.name.now) c.in-None.ensures
