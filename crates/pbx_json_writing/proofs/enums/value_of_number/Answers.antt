use Rattle.std.proofs.Common.{◌≡◌, List, None, Some, refl, sym, ap, ◌∙◌, to_z, of_z, rules}
use Rattle.std.specs.Int.{w128}
use Rattle.pbx_content.specs.declared.shape.EnumValueShape.{EnumValueShape}
use Rattle.pbx_json_meaning.specs.Canonical.{value_of_number}
use Rattle.pbx_json_writing.proofs.OfScalars.{values_of}
use Rattle.pbx_json_writing.proofs.enums.value_of_number.Goals as goal

pub returns-in-None : goal.returns-in-None
returns-in-None c = rw (values_of c.args.schema.now.enums c.args.place None c.in-None.ensures) refl

pub returns-in-Some : goal.returns-in-Some
returns-in-Some c =
    let same : to_z w128 (of_z w128 c.args.number) ≡ c.args.number = search rules in
    c.first_of_number.ensures
    ∙ ap (λ z. value_of_number z c.as_slice.result.now) same
    ∙ ap (λ (vs : List EnumValueShape). value_of_number c.args.number vs)
    (c.as_slice.ensures ∙ sym (values_of c.args.schema.now.enums c.args.place (Some c.in-Some.found.now) c.in-Some.ensures))
