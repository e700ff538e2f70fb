use Rattle.std.proofs.Common.{◌≡◌, ◌∙◌, sym, nat_cmp}
use Rattle.std.specs.BTreeMap.{get}
use Rattle.pbx_wkt_types.specs.Shapes.{form_of}
use Rattle.pbx_json_schema.proofs.Adding.{kept_at, kept_by_entries}
use Rattle.pbx_json_schema.proofs.type_forms.TypeForms.find.Goals as goal

pub returns-in-Some-clause-form : goal.returns-in-Some-clause-form
returns-in-Some-clause-form c = λ are. are c.args.place c.in-Some.form.now (sym c.in-Some.ensures.value)

pub returns-in-Ok-clause-forms : goal.returns-in-Ok-clause-forms
returns-in-Ok-clause-forms c = λ are t own had.
    kept_at (λ s n. n ≡ form_of c.args.schema.now s) c.args.place t c.form_of-form.result own (get nat_cmp c.args.self.now.forms t) c.form_of-form.ensures (are t own)
    (sym (c.in-Ok.ensures.updates.0 t) ∙ had)

pub returns-in-Err-clause-forms : goal.returns-in-Err-clause-forms
returns-in-Err-clause-forms c = λ are t own had. are t own (kept_by_entries c.insert.new.self c.args.self.now.forms t own c.in-Err.ensures.err had)
