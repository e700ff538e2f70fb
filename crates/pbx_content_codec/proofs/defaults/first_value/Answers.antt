use Rattle.std.proofs.lemmas.Int.{to_z-of_z}
use Rattle.std.specs.Int.{w32}
use Rattle.std.proofs.Common.{List, ap, ◌∙◌}
use Rattle.pbx_content.specs.declared.shape.EnumShape.{EnumShape}
use Rattle.pbx_content.specs.declared.shape.Shape.{Shape}
use Rattle.pbx_content.specs.Shape.{first_of, enum_values_at}
use Rattle.pbx_content_codec.proofs.Tree.{values_here, no_values}
use Rattle.pbx_content_codec.proofs.defaults.first_value.Goals as goal

pub returns-then-enum_at-enums : goal.returns-then-enum_at-enums
returns-then-enum_at-enums c =
    no_values c.as_slice-enums.result.now c.args.enum_at c.if-enum_at-enums.true
    ∙ ap (λ (es : List EnumShape). first_of (enum_values_at es c.args.enum_at)) c.as_slice-enums.ensures
    ∙ ap (λ (s : Shape). first_of (enum_values_at s.enums c.args.enum_at)) c.shape.ensures.same

pub returns : goal.returns
returns c =
    to_z-of_z w32 c.first_of.result c.first_of.ensures.fits ∙ c.first_of.ensures.is
    ∙ ap (λ (s : EnumShape). first_of s.values) c.index-enums-enum_at.is
    ∙ values_here c.as_slice-enums.result.now c.args.enum_at c.index-enums-enum_at.result c.if-enum_at-enums.false
    ∙ ap (λ (es : List EnumShape). first_of (enum_values_at es c.args.enum_at)) c.as_slice-enums.ensures
    ∙ ap (λ (s : Shape). first_of (enum_values_at s.enums c.args.enum_at)) c.shape.ensures.same
