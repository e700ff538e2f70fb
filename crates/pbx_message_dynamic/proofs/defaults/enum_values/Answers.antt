use Rattle.std.proofs.Common.{List, ap, ◌∙◌}
use Rattle.pbx_content.specs.declared.shape.EnumShape.{EnumShape}
use Rattle.pbx_content.specs.declared.shape.Shape.{Shape}
use Rattle.pbx_content.specs.Shape.{enum_values_at}
use Rattle.pbx_message_dynamic.proofs.EnumValues.{no_values, values_here}
use Rattle.pbx_message_dynamic.proofs.defaults.enum_values.Goals as goal

pub returns-then-enum_at-enums : goal.returns-then-enum_at-enums
returns-then-enum_at-enums c =
    no_values c.as_slice-enums.result.now c.args.enum_at c.if-enum_at-enums.true
    ∙ ap (λ (es : List EnumShape). enum_values_at es c.args.enum_at) c.as_slice-enums.ensures
    ∙ ap (λ (s : Shape). enum_values_at s.enums c.args.enum_at) c.shape.ensures.same

pub returns : goal.returns
returns c =
    c.as_slice.ensures
    ∙ values_here c.as_slice-enums.result.now c.args.enum_at c.index-enums-enum_at.result c.if-enum_at-enums.false
    ∙ ap (λ (es : List EnumShape). enum_values_at es c.args.enum_at) c.as_slice-enums.ensures
    ∙ ap (λ (s : Shape). enum_values_at s.enums c.args.enum_at) c.shape.ensures.same
