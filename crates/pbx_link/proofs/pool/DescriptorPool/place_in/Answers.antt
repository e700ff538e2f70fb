use Rattle.std.proofs.Common.{◌∙◌, ap}
use Rattle.pbx_link_meaning.specs.Shapes.{message_named}
use Rattle.pbx_link.proofs.Placed.{placed_alike}
use Rattle.pbx_link.proofs.pool.DescriptorPool.place_in.Goals as goal

pub returns-in-None : goal.returns-in-None
returns-in-None c same =
    c.message_place-in-None.ensures ∙ ap (message_named c.args.name.now) same ∙ placed_alike c.args.self.now c.args.name.now
