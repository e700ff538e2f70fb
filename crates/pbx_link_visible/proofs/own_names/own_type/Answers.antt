use Rattle.std.proofs.Common.{◌∙◌, Some, None}
use Rattle.pbx_link_visible.proofs.Viewed.{type_placed}
use Rattle.pbx_link_visible.proofs.own_names.own_type.Goals as goal

pub returns-in-Some : goal.returns-in-Some
returns-in-Some c = c.type_at.ensures ∙ type_placed c.args.parts.now c.args.name.now (Some c.in-Some.place.now) (c.in-Some.ensures.value ∙ c.requires c.args.name.now)

pub returns-in-None : goal.returns-in-None
returns-in-None c = type_placed c.args.parts.now c.args.name.now None (c.in-None.ensures.value ∙ c.requires c.args.name.now)
