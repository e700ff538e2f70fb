use Rattle.std.proofs.Common.{◌≡◌, ◌∙◌, arith}
use Rattle.pbx_content_codec.specs.View.{content_of}
use Rattle.pbx_link_meaning.specs.Shapes.{shape_of, place_of}
use Rattle.pbx_message_dynamic.proofs.message.DynamicMessage.decode.Goals as goal

pub invariant_of-result : goal.invariant_of-result
invariant_of-result c =
    let d = c.args.desc in
    let shape : c.as_ref-2.result.now ≡ shape_of d.pool = c.as_ref-2.ensures ∙ c.in_ok-schema.ensures.is in
    let place : c.place.result ≡ place_of d = c.place.ensures.place (c.as_ref-3.ensures ∙ c.in_ok-schema.ensures.is) in
    let proper = rw (c.as_ref.ensures ∙ c.in_ok-schema.ensures.is) at c.shape-proper.ensures.proper in
    let found = rw (shape, place) at c.in_ok-tree.ensures.found in
    let is =
    c.meaning_is_sound.ensures.whole (shape_of d.pool) 100 (place_of d) c.args.bytes.now (content_of c.in_ok-tree.tree) proper found in
    (is.0, tt, omega (arith, is.1), omega arith)
