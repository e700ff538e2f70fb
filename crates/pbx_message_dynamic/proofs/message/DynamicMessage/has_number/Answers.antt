use Rattle.pbx_content_codec.specs.View.{content_of, val_of}
use Rattle.pbx_link_meaning.specs.Shapes.{shape_of, place_of}
use Rattle.pbx_message_dynamic.proofs.Targets.{has_by}
use Rattle.pbx_message_dynamic.proofs.message.DynamicMessage.has_number.Goals as goal

pub returns : goal.returns
returns c =
    let d = c.self.inside.desc in
    rw (← c.self.view_is) (has_by (shape_of d.pool) (place_of d) c.args.number (content_of c.self.inside.tree) (λ held. val_of held.now) c.get.result c.is_some.result
    c.sound_values_are_settable.ensures c.fields_are_as_set.ensures.has c.fields_are_listed.ensures.declared c.self.invariant.0 c.get.ensures c.is_some.ensures)
