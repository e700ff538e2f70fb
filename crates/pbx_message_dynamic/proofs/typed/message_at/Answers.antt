use Rattle.std.proofs.Common.{◌≡◌, List, map, get_or, ap, ◌∙◌}
use Rattle.pbx_content.specs.declared.shape.MessageShape.{MessageShape}
use Rattle.pbx_content.specs.declared.shape.Shape.{Shape}
use Rattle.pbx_link_meaning.specs.Descriptors.{all_messages, message_of_name}
use Rattle.pbx_link_meaning.specs.Shapes.{message_shape}
use Rattle.pbx_message_dynamic.proofs.Found.{found_by_name}
use Rattle.pbx_message_dynamic.proofs.typed.message_at.Goals as goal

pub returns : goal.returns
returns c =
    let here = c.parent_pool-pool.ensures in
    let ms : c.as_slice-messages.result.now ≡ map message_shape (all_messages c.args.holder.now.pool) =
    c.as_slice-messages.ensures ∙ ap (λ (s : Shape). s.messages) c.shape.ensures.same ∙ ap (λ (s : Shape). s.messages) c.requires in
    let name = c.as_str.ensures ∙ ap (λ (l : List MessageShape). (get_or l c.args.place c.index-messages-place.result).full_name) ms in
    let pool : c.get_message_by_name.result ≡ message_of_name c.args.holder.now.pool c.as_str.result.now = rw here.pool at c.get_message_by_name.ensures in
    let lt = rw ms at c.if-place-messages.false in
    found_by_name c.args.holder.now.pool c.args.place c.index-messages-place.result c.as_str.result.now c.get_message_by_name.result c.kinds_have_types.ensures.place
    (rw here.pool at here.pooled) lt name pool
