use Rattle.std.proofs.Common.{◌≤◌, sym, subst, arith}
use Rattle.pbx_content.specs.Content.{Content, fields}
use Rattle.pbx_content.specs.Sound.{IsSound, depth}
use Rattle.pbx_content_codec.specs.View.{content_of}
use Rattle.pbx_link_meaning.specs.Shapes.{shape_of, place_of}
use Rattle.pbx_message_laws.proofs.Changed.{sound_ascends}
use Rattle.pbx_message_dynamic.specs.Members.{AreMembersIf}
use Rattle.pbx_message_dynamic.specs.Message.{type_fields}
use Rattle.pbx_message_dynamic.proofs.Deepest.{cleared_levels}
use Rattle.pbx_message_dynamic.proofs.KnownMembers.{cleared_known}
use Rattle.pbx_message_dynamic.proofs.message.DynamicMessage.clear_number.Goals as goal

pub invariant_of-self : goal.invariant_of-self
invariant_of-self c =
    let d = c.self.inside.desc in
    let old = content_of c.self.inside.tree in
    subst (λ (x : Content). IsSound (shape_of d.pool) (place_of d) x × AreMembersIf (type_fields d) (fields x) c.self.inside.members
    × (depth x ≤ c.self.inside.levels) × (c.self.inside.levels ≤ 1024)) (sym c.clear.ensures) (
      c.clearing_is_sound.ensures (shape_of d.pool) (place_of d) c.args.number old c.self.invariant.0,
      cleared_known (type_fields d) c.args.number old c.self.inside.members
          (sound_ascends (shape_of d.pool) (place_of d) old c.self.invariant.0) c.self.invariant.1,
      omega (arith, cleared_levels c.args.number old, c.self.invariant.2),
      c.self.invariant.3,
    )
