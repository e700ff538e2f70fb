use Rattle.std.proofs.Common.{List, sym, ◌∙◌, ap}
use Rattle.pbx_content.specs.declared.shape.EnumShape.{EnumShape}
use Rattle.pbx_content.specs.declared.shape.Shape.{Shape}
use Rattle.pbx_wkt_types.specs.Types.{enum_name_at}
use Rattle.pbx_wkt_types.proofs.Places.{enum_here, enum_past}
use Rattle.pbx_wkt_types.proofs.place.enum_name.Goals as goal

pub returns-then-place-enums : goal.returns-then-place-enums
returns-then-place-enums c =
    c.as_str.ensures
    ∙ sym (enum_here c.as_slice-enums.result.now c.args.place c.index-enums-place.result c.if-place-enums.true)
    ∙ ap (λ (es : List EnumShape). enum_name_at es c.args.place) c.as_slice-enums.ensures
    ∙ ap (λ (s : Shape). enum_name_at s.enums c.args.place) c.shape.ensures.same

pub returns-else-place-enums : goal.returns-else-place-enums
returns-else-place-enums c =
    sym (enum_past c.as_slice-enums.result.now c.args.place c.if-place-enums.false)
    ∙ ap (λ (es : List EnumShape). enum_name_at es c.args.place) c.as_slice-enums.ensures
    ∙ ap (λ (s : Shape). enum_name_at s.enums c.args.place) c.shape.ensures.same
