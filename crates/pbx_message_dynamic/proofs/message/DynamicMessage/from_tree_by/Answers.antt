use Rattle.std.proofs.Common.{◌≡◌, ◌∙◌, [], List, not, subst}
use Rattle.serde_json.specs.View.{view}
use Rattle.pbx_desc_records.specs.declared.file.FileDescriptorProto.{FileDescriptorProto}
use Rattle.pbx_content_codec.specs.View.{content_of}
use Rattle.pbx_link_meaning.specs.Shapes.{shape_of, place_of}
use Rattle.pbx_link_rules.specs.Pool.{ArePooled}
use Rattle.pbx_message_dynamic.proofs.Unread.{unread}
use Rattle.pbx_message_dynamic.proofs.message.DynamicMessage.from_tree_by.Goals as goal

pub with_tree-requires : goal.with_tree-requires
with_tree-requires c =
    let d = c.args.desc in
    let shape : c.as_ref-3.result.now ≡ shape_of d.pool = c.as_ref-3.ensures ∙ c.in-Ok.ensures.is in
    let place : c.place-place.result ≡ place_of d = c.place-place.ensures.place (c.as_ref-2.ensures ∙ c.in-Ok.ensures.is) in
    let stands = rw (shape, place) at c.in-Ok-read_content_by.ensures.stands in
    let proper = rw (c.as_ref.ensures ∙ c.in-Ok.ensures.is) at c.shape-proper.ensures.proper in
    let pooled : ArePooled [] d.pool = subst (λ (fs : List FileDescriptorProto). ArePooled [] fs) c.parent_pool-pool.ensures.pool c.parent_pool-pool.ensures.pooled in
    let named = c.shapes_are_well_named.ensures d.pool pooled c.in-Ok.ensures.numbers in
    c.stands_sound.ensures (shape_of d.pool) (place_of d) (not c.args.options.now.deny_unknown_fields) (view c.args.tree.now)
    (content_of c.in-Ok-read_content_by.content) proper named c.values_have_texts.ensures stands

pub returns-in-Some-clause-read : goal.returns-in-Some-clause-read
returns-in-Some-clause-read c =
    let d = c.args.desc in
    let shape : c.as_ref-3.result.now ≡ shape_of d.pool = c.as_ref-3.ensures ∙ c.in-Ok.ensures.is in
    let place : c.place-place.result ≡ place_of d = c.place-place.ensures.place (c.as_ref-2.ensures ∙ c.in-Ok.ensures.is) in
    rw c.in-Some.ensures (rw (shape, place) at c.in-Ok-read_content_by.ensures.stands)

pub returns-clause-fault : goal.returns-clause-fault
returns-clause-fault c =
    let d = c.args.desc in
    let shape : c.as_ref-3.result.now ≡ shape_of d.pool = c.as_ref-3.ensures ∙ c.in-Ok.ensures.is in
    let place : c.place-place.result ≡ place_of d = c.place-place.ensures.place (c.as_ref-2.ensures ∙ c.in-Ok.ensures.is) in
    rw (shape, place) at c.in-Err.ensures.fault

pub returns-clause-refused : goal.returns-clause-refused
returns-clause-refused c =
    let d = c.args.desc in
    let shape : c.as_ref-3.result.now ≡ shape_of d.pool = c.as_ref-3.ensures ∙ c.in-Ok.ensures.is in
    let place : c.place-place.result ≡ place_of d = c.place-place.ensures.place (c.as_ref-2.ensures ∙ c.in-Ok.ensures.is) in
    let none = rw (shape, place) at c.in-Err.ensures.refused in
    unread d c.args.options.now (view c.args.tree.now) c.in-Err.error none
