use Rattle.std.proofs.Common.{List, length, sym, ◌∙◌, ap}
use Rattle.pbx_content.specs.declared.shape.FieldShape.{FieldShape}
use Rattle.pbx_content.specs.declared.shape.MessageShape.{MessageShape}
use Rattle.pbx_content.specs.declared.shape.Shape.{Shape}
use Rattle.pbx_content.specs.Shape.{declared_at}
use Rattle.pbx_content.proofs.SchemaTypes.{declared_here, declared_past}
use Rattle.pbx_wkt_types.proofs.place.field_count.Goals as goal

pub returns-then-place-messages : goal.returns-then-place-messages
returns-then-place-messages c =
    ap (length {A = FieldShape}) (c.as_slice.ensures
    ∙ sym (declared_here c.as_slice-messages.result.now c.args.place c.index-messages-place.result c.if-place-messages.true)
    ∙ ap (λ (ms : List MessageShape). declared_at ms c.args.place) c.as_slice-messages.ensures
    ∙ ap (λ (s : Shape). declared_at s.messages c.args.place) c.shape.ensures.same)

pub returns-else-place-messages : goal.returns-else-place-messages
returns-else-place-messages c =
    ap (length {A = FieldShape}) (sym (declared_past c.as_slice-messages.result.now c.args.place c.if-place-messages.false)
    ∙ ap (λ (ms : List MessageShape). declared_at ms c.args.place) c.as_slice-messages.ensures
    ∙ ap (λ (s : Shape). declared_at s.messages c.args.place) c.shape.ensures.same)
