use Rattle.std.proofs.Common.{◌∙◌, sym, subst, List, nat_cmp}
use Rattle.std.specs.BTreeMap.{get}
use Rattle.pbx_content.specs.declared.shape.EnumValueShape.{EnumValueShape}
use Rattle.pbx_content.specs.Shape.{enum_values_of}
use Rattle.pbx_json_schema.specs.Index.{AreNamesOf}
use Rattle.pbx_json_schema.proofs.Adding.{kept_at, kept_by_entries}
use Rattle.pbx_json_schema.proofs.schema_names.SchemaNames.prepare_enum.Goals as goal

pub returns-in-Ok : goal.returns-in-Ok
returns-in-Ok c = λ are. record {
  types = are.types;
  enums = λ t own had.
      let made : AreNamesOf (enum_values_of c.args.schema.now c.args.place) c.in_ok-places.places
      = subst (λ (vs : List EnumValueShape). AreNamesOf vs c.in_ok-places.places) c.declared_values.ensures c.in_ok-places.ensures in
      kept_at (λ s n. AreNamesOf (enum_values_of c.args.schema.now s) n) c.args.place t c.in_ok-places.places own (get nat_cmp c.args.self.now.enums t) made (are.enums t own)
      (sym (c.in-Ok.ensures.updates.0 t) ∙ had);
  urls = are.urls;
}

pub returns : goal.returns
returns c = λ are. record {
  types = are.types;
  enums = λ t own had. are.enums t own (kept_by_entries c.insert.new.self c.args.self.now.enums t own c.in-Err.ensures.err had);
  urls = are.urls;
}
