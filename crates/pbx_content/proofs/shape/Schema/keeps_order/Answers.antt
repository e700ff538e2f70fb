use Rattle.std.proofs.Common.{List, ap, ◌∙◌}
use Rattle.pbx_content.specs.declared.shape.MessageShape.{MessageShape}
use Rattle.pbx_content.specs.declared.shape.Shape.{Shape}
use Rattle.pbx_content.specs.Shape.{keeps_order_at}
use Rattle.pbx_content.proofs.SchemaTypes.{order_here, no_order_there}
use Rattle.pbx_content.proofs.shape.Schema.keeps_order.Goals as goal

pub returns-then-type_at-messages : goal.returns-then-type_at-messages
returns-then-type_at-messages c =
    order_here c.as_slice-messages.result.now c.args.type_at c.index-messages-type_at.result c.if-type_at-messages.true
    ∙ ap (λ (ms : List MessageShape). keeps_order_at ms c.args.type_at) c.as_slice-messages.ensures
    ∙ ap (λ (s : Shape). keeps_order_at s.messages c.args.type_at) c.self.view_is

pub returns-else-type_at-messages : goal.returns-else-type_at-messages
returns-else-type_at-messages c =
    no_order_there c.as_slice-messages.result.now c.args.type_at c.if-type_at-messages.false
    ∙ ap (λ (ms : List MessageShape). keeps_order_at ms c.args.type_at) c.as_slice-messages.ensures
    ∙ ap (λ (s : Shape). keeps_order_at s.messages c.args.type_at) c.self.view_is
