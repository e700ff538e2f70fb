use Rattle.std.proofs.Common.{◌≡◌, List, None, Some, refl, sym, ap, ◌∙◌, to_z, of_z, rules}
use Rattle.std.specs.Int.{w128}
use Rattle.pbx_content.specs.declared.shape.EnumValueShape.{EnumValueShape}
use Rattle.pbx_json_meaning.specs.Canonical.{value_of_number}
use Rattle.pbx_json_writing.specs.Indexes.{value_at}
use Rattle.pbx_json_writing.proofs.OfEnums.{index_known}
use Rattle.pbx_json_writing.proofs.OfScalars.{values_of}
use Rattle.pbx_json_writing.proofs.enums.value_by_index.Goals as goal

pub returns-in_default-clause-value : goal.returns-in_default-clause-value
returns-in_default-clause-value c = rw (values_of c.args.schema.now.enums c.args.place None c.in_default.ensures) refl

pub returns-then-values-le-SHORT-clause-value : goal.returns-then-values-le-SHORT-clause-value
returns-then-values-le-SHORT-clause-value c =
    let same : to_z w128 (of_z w128 c.args.number) ≡ c.args.number = search rules in
    c.first_of_number.ensures
    ∙ ap (λ z. value_of_number z c.as_slice-values.result.now) same
    ∙ ap (λ (vs : List EnumValueShape). value_of_number c.args.number vs)
    (c.as_slice-values.ensures ∙ sym (values_of c.args.schema.now.enums c.args.place (Some c.in-Some.found.now) c.in-Some.ensures))

pub add_index-requires-clause-values : goal.add_index-requires-clause-values
add_index-requires-clause-values c =
    c.as_slice-values.ensures ∙ sym (values_of c.args.schema.now.enums c.args.place (Some c.in-Some.found.now) c.in-Some.ensures)

pub returns-in-Some-get-clause-value : goal.returns-in-Some-get-clause-value
returns-in-Some-get-clause-value c =
    let same : to_z w128 (of_z w128 c.args.number) ≡ c.args.number = search rules in
    c.value_at.ensures
    ∙ ap (λ z. value_at c.as_slice-values.result.now c.in-Some-get.index.now z) same
    ∙ ap (λ (vs : List EnumValueShape). value_at vs c.in-Some-get.index.now c.args.number)
    (c.as_slice-values.ensures ∙ sym (values_of c.args.schema.now.enums c.args.place (Some c.in-Some.found.now) c.in-Some.ensures))
    ∙ index_known c.args.schema.now c.add_index.new.indexes c.args.place c.in-Some-get.index.now c.add_index.ensures c.in-Some-get.ensures.value c.args.number
