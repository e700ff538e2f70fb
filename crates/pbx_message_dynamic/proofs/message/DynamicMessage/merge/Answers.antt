use Rattle.std.proofs.Common.{◌≡◌, ◌∙◌, arith}
use Rattle.pbx_content_codec.specs.View.{content_of}
use Rattle.pbx_link_meaning.specs.Shapes.{shape_of, place_of}
use Rattle.pbx_message_dynamic.proofs.message.DynamicMessage.merge.Goals as goal

pub invariant_of-self : goal.invariant_of-self
invariant_of-self c =
    let d = c.self.inside.desc in
    let old = content_of c.self.inside.tree in
    let new = content_of c.in-Ok.tree in
    let shape : c.as_ref-3.result.now ≡ shape_of d.pool = c.as_ref-3.ensures ∙ c.in_ok-schema.ensures.is in
    let place : c.place-place.result ≡ place_of d = c.place-place.ensures.place (c.as_ref-2.ensures ∙ c.in_ok-schema.ensures.is) in
    let proper = rw (c.as_ref.ensures ∙ c.in_ok-schema.ensures.is) at c.shape-proper.ensures.proper in
    let merged = rw (shape, place) at c.in-Ok.ensures.merged in
    let deep = c.onto_is_following.ensures.shallow (shape_of d.pool) (place_of d) old new c.args.bytes.now proper c.self.invariant.0 merged in (
      c.onto_is_following.ensures.sound (shape_of d.pool) (place_of d) old new c.args.bytes.now proper c.self.invariant.0 merged,
      tt,
      omega (arith, deep, c.max-self-inside.ensures, c.self.invariant.2),
      omega (arith, c.max-self-inside.ensures, c.self.invariant.3),
    )

pub returns-in-Ok-clause-merged : goal.returns-in-Ok-clause-merged
returns-in-Ok-clause-merged c =
    let shape : c.as_ref-3.result.now ≡ shape_of c.self.inside.desc.pool = c.as_ref-3.ensures ∙ c.in_ok-schema.ensures.is in
    let place : c.place-place.result ≡ place_of c.self.inside.desc = c.place-place.ensures.place (c.as_ref-2.ensures ∙ c.in_ok-schema.ensures.is) in
    rw (← c.self.view_is) (rw (shape, place) at c.in-Ok.ensures.merged)

pub returns-clause-fault : goal.returns-clause-fault
returns-clause-fault c =
    let shape : c.as_ref-3.result.now ≡ shape_of c.self.inside.desc.pool = c.as_ref-3.ensures ∙ c.in_ok-schema.ensures.is in
    let place : c.place-place.result ≡ place_of c.self.inside.desc = c.place-place.ensures.place (c.as_ref-2.ensures ∙ c.in_ok-schema.ensures.is) in
    rw (← c.self.view_is) (rw (shape, place) at c.in-Err.ensures.fault)
