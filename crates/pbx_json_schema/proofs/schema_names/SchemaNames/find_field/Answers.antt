use Rattle.std.proofs.Common.{◌≡◌, ◌∙◌, ap, sym, subst, Some, List, nat_cmp}
use Rattle.std.specs.BTreeMap.{get}
use Rattle.pbx_content.specs.declared.shape.FieldShape.{FieldShape}
use Rattle.pbx_json_meaning.specs.Names.{field_named}
use Rattle.pbx_json_schema.specs.Index.{IsIndexOf}
use Rattle.pbx_json_schema.proofs.schema_names.SchemaNames.find_field.Goals as goal

pub returns-in-Some-clause-field : goal.returns-in-Some-clause-field
returns-in-Some-clause-field c = λ are.
    let got : get nat_cmp c.prepare_type.new.self.types c.args.place ≡ Some c.in-Some.names.now = sym c.in-Some.ensures.value in
    let index = (c.prepare_type.ensures are).types c.args.place c.in-Some.names.now got in
    let own : IsIndexOf c.declared_fields.result.now c.in-Some.names.now = subst (λ (fs : List FieldShape). IsIndexOf fs c.in-Some.names.now) (sym c.declared_fields.ensures) index in
    c.find_key.ensures own ∙ ap (field_named c.args.key.now) c.declared_fields.ensures
