use Rattle.std.proofs.Common.{List, sym, ◌∙◌, ap}
use Rattle.pbx_content.specs.declared.shape.EnumShape.{EnumShape}
use Rattle.pbx_content.specs.declared.shape.Shape.{Shape}
use Rattle.pbx_content.specs.Shape.{enum_values_at}
use Rattle.pbx_json_schema.proofs.Places.{values_here, values_past}
use Rattle.pbx_json_schema.proofs.schema_names.declared_values.Goals as goal

pub returns-then-place-enums : goal.returns-then-place-enums
returns-then-place-enums c =
    c.as_slice.ensures ∙ sym (values_here c.as_slice-enums.result.now c.args.place c.index-enums-place.result c.if-place-enums.true)
    ∙ ap (λ (es : List EnumShape). enum_values_at es c.args.place) c.as_slice-enums.ensures
    ∙ ap (λ (s : Shape). enum_values_at s.enums c.args.place) c.shape.ensures.same

pub returns-else-place-enums : goal.returns-else-place-enums
returns-else-place-enums c =
    sym (values_past c.as_slice-enums.result.now c.args.place c.if-place-enums.false)
    ∙ ap (λ (es : List EnumShape). enum_values_at es c.args.place) c.as_slice-enums.ensures
    ∙ ap (λ (s : Shape). enum_values_at s.enums c.args.place) c.shape.ensures.same
