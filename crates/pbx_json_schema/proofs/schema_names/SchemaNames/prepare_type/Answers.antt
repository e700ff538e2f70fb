use Rattle.std.proofs.Common.{◌∙◌, sym, subst, List, nat_cmp}
use Rattle.std.specs.BTreeMap.{get}
use Rattle.pbx_content.specs.declared.shape.FieldShape.{FieldShape}
use Rattle.pbx_content.specs.Shape.{declared_of}
use Rattle.pbx_json_schema.specs.Index.{IsIndexOf}
use Rattle.pbx_json_schema.proofs.Adding.{kept_at, kept_by_entries}
use Rattle.pbx_json_schema.proofs.schema_names.SchemaNames.prepare_type.Goals as goal

pub returns-in-Ok : goal.returns-in-Ok
returns-in-Ok c = λ are. record {
  types = λ t own had.
      let made : IsIndexOf (declared_of c.args.schema.now c.args.place) c.in_ok-names.names
      = subst (λ (fs : List FieldShape). IsIndexOf fs c.in_ok-names.names) c.declared_fields.ensures c.in_ok-names.ensures in
      kept_at (λ s n. IsIndexOf (declared_of c.args.schema.now s) n) c.args.place t c.in_ok-names.names own (get nat_cmp c.args.self.now.types t) made (are.types t own)
      (sym (c.in-Ok.ensures.updates.0 t) ∙ had);
  enums = are.enums;
  urls = are.urls;
}

pub returns : goal.returns
returns c = λ are. record {
  types = λ t own had. are.types t own (kept_by_entries c.insert.new.self c.args.self.now.types t own c.in-Err.ensures.err had);
  enums = are.enums;
  urls = are.urls;
}
