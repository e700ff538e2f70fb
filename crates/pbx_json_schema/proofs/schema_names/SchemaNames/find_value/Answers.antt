use Rattle.std.proofs.Common.{◌≡◌, ◌∙◌, ap, sym, subst, Some, List, nat_cmp}
use Rattle.std.specs.BTreeMap.{get}
use Rattle.pbx_content.specs.declared.shape.EnumValueShape.{EnumValueShape}
use Rattle.pbx_json_meaning.specs.Scalars.{value_named}
use Rattle.pbx_json_schema.specs.Index.{AreNamesOf}
use Rattle.pbx_json_schema.proofs.schema_names.SchemaNames.find_value.Goals as goal

pub returns-in-Some-clause-value : goal.returns-in-Some-clause-value
returns-in-Some-clause-value c = λ are.
    let got : get nat_cmp c.prepare_enum.new.self.enums c.args.place ≡ Some c.in-Some.places.now = sym c.in-Some.ensures.value in
    let index = (c.prepare_enum.ensures are).enums c.args.place c.in-Some.places.now got in
    let own : AreNamesOf c.declared_values.result.now c.in-Some.places.now = subst (λ (vs : List EnumValueShape). AreNamesOf vs c.in-Some.places.now) (sym c.declared_values.ensures) index in
    c.find_value.ensures own ∙ ap (value_named c.args.name.now) c.declared_values.ensures
