use Rattle.std.proofs.Common.{List, sym, ◌∙◌, ap}
use Rattle.pbx_content.specs.declared.shape.MessageShape.{MessageShape}
use Rattle.pbx_content.specs.declared.shape.Shape.{Shape}
use Rattle.pbx_wkt_types.specs.Types.{message_name_at}
use Rattle.pbx_json_reading.proofs.Names.{message_here, message_past}
use Rattle.pbx_json_reading.proofs.opened.message_name.Goals as goal

pub returns-then-place-messages : goal.returns-then-place-messages
returns-then-place-messages c =
    c.as_str.ensures
    ∙ sym (message_here c.as_slice-messages.result.now c.args.place c.index-messages-place.result c.if-place-messages.true)
    ∙ ap (λ (ms : List MessageShape). message_name_at ms c.args.place) c.as_slice-messages.ensures
    ∙ ap (λ (s : Shape). message_name_at s.messages c.args.place) c.shape.ensures.same

pub returns-else-place-messages : goal.returns-else-place-messages
returns-else-place-messages c =
    sym (message_past c.as_slice-messages.result.now c.args.place c.if-place-messages.false)
    ∙ ap (λ (ms : List MessageShape). message_name_at ms c.args.place) c.as_slice-messages.ensures
    ∙ ap (λ (s : Shape). message_name_at s.messages c.args.place) c.shape.ensures.same
