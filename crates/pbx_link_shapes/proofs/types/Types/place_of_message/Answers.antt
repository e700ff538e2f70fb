use Rattle.pbx_link_definitions.specs.Definitions.{messages, message_name}
use Rattle.pbx_link_meaning.specs.Descriptors.{referred}
use Rattle.pbx_link_shapes.proofs.Placed.{place_or_count, unnamed_count}
use Rattle.pbx_link_shapes.proofs.types.Types.place_of_message.Goals as goal

pub returns-in-Some : goal.returns-in-Some
returns-in-Some c =
    place_or_count messages message_name c.self.inside.pool.now c.args.self.now c.self.view_is c.self.inside.messages c.self.invariant.0 (referred c.args.name.now) c.in-Some.name.now
    c.message_place.result c.unwrap_or.result c.in-Some.ensures c.message_place.ensures c.unwrap_or.ensures

pub returns-in-None : goal.returns-in-None
returns-in-None c =
    unnamed_count messages message_name c.self.inside.pool.now c.args.self.now c.self.view_is c.self.inside.messages c.self.invariant.0 (referred c.args.name.now) c.in-None.ensures
