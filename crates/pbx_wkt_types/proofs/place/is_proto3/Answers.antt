use Rattle.std.proofs.Common.{List, ap, ◌∙◌}
use Rattle.pbx_content.specs.declared.shape.MessageShape.{MessageShape}
use Rattle.pbx_content.specs.declared.shape.Shape.{Shape}
use Rattle.pbx_wkt_types.specs.Shapes.{is_proto3_at}
use Rattle.pbx_wkt_types.proofs.Places.{proto3_here, no_proto3_there}
use Rattle.pbx_wkt_types.proofs.place.is_proto3.Goals as goal

pub returns-then-place-messages : goal.returns-then-place-messages
returns-then-place-messages c =
    proto3_here c.as_slice-messages.result.now c.args.place c.index-messages-place.result c.if-place-messages.true
    ∙ ap (λ (ms : List MessageShape). is_proto3_at ms c.args.place) c.as_slice-messages.ensures
    ∙ ap (λ (s : Shape). is_proto3_at s.messages c.args.place) c.shape.ensures.same

pub returns-else-place-messages : goal.returns-else-place-messages
returns-else-place-messages c =
    no_proto3_there c.as_slice-messages.result.now c.args.place c.if-place-messages.false
    ∙ ap (λ (ms : List MessageShape). is_proto3_at ms c.args.place) c.as_slice-messages.ensures
    ∙ ap (λ (s : Shape). is_proto3_at s.messages c.args.place) c.shape.ensures.same
