use Rattle.std.proofs.Common.{◌≡◌, List, length, subst, sym, ap, ◌∙◌, ◌^◌, ◌<◌, ℕ, arith}
use Rattle.pbx_content.specs.Encoding.{encoded}
use Rattle.pbx_content.specs.Same.{Decodes, DecodesParts}
use Rattle.pbx_content_codec.specs.View.{content_of}
use Rattle.pbx_link_meaning.specs.Shapes.{shape_of, place_of}
use Rattle.pbx_message_dynamic.proofs.message.DynamicMessageMessage.encode_to_vec.Goals as goal

pub returns-clause-decodes : goal.returns-clause-decodes
returns-clause-decodes c =
    let d = c.self.inside.desc in
    let contents = content_of c.self.inside.tree in
    let vec = c.in_ok-from_slice.field-0 in
    let shape : c.as_ref-3.result.now ≡ shape_of d.pool = c.as_ref-3.ensures ∙ c.in_ok-schema.ensures.is in
    let place : c.place-place.result ≡ place_of d = c.place-place.ensures.place (c.as_ref-2.ensures ∙ c.in_ok-schema.ensures.is) in
    let is : vec.items ≡ encoded (shape_of d.pool) (place_of d) contents =
    c.in_ok-from_slice.ensures.items ∙ c.as_slice.ensures ∙ rw (shape, place) at c.in_ok-text.ensures in
    let proper = rw (c.as_ref.ensures ∙ c.in_ok-schema.ensures.is) at c.shape-proper.ensures.proper in
    let short : length (encoded (shape_of d.pool) (place_of d) contents) < 2 ^ 64 = omega (arith, ap length is, vec.ok.0, vec.ok.1, vec.small) in
    rw (← c.self.view_is) (λ deep.
    subst (λ (bytes : List ℕ). Decodes (shape_of d.pool) (place_of d) bytes contents) (sym is)
    (c.encoding_decodes.ensures.whole (shape_of d.pool) (place_of d) contents proper c.self.invariant.0 short deep))

pub returns-clause-parts : goal.returns-clause-parts
returns-clause-parts c =
    let d = c.self.inside.desc in
    let contents = content_of c.self.inside.tree in
    let vec = c.in_ok-from_slice.field-0 in
    let shape : c.as_ref-3.result.now ≡ shape_of d.pool = c.as_ref-3.ensures ∙ c.in_ok-schema.ensures.is in
    let place : c.place-place.result ≡ place_of d = c.place-place.ensures.place (c.as_ref-2.ensures ∙ c.in_ok-schema.ensures.is) in
    let is : vec.items ≡ encoded (shape_of d.pool) (place_of d) contents =
    c.in_ok-from_slice.ensures.items ∙ c.as_slice.ensures ∙ rw (shape, place) at c.in_ok-text.ensures in
    let proper = rw (c.as_ref.ensures ∙ c.in_ok-schema.ensures.is) at c.shape-proper.ensures.proper in
    let short : length (encoded (shape_of d.pool) (place_of d) contents) < 2 ^ 64 = omega (arith, ap length is, vec.ok.0, vec.ok.1, vec.small) in
    rw (← c.self.view_is) (λ fit.
    subst (λ (bytes : List ℕ). DecodesParts (shape_of d.pool) (place_of d) bytes contents) (sym is)
    (c.encoding_decodes.ensures.parts (shape_of d.pool) (place_of d) contents proper c.self.invariant.0 short fit))
