use Rattle.std.proofs.Common.{◌∙◌, ap, sym, nat_cmp}
use Rattle.std.specs.Map.{lookup}
use Rattle.std.specs.BTreeMap.{is_at}
use Rattle.pbx_json_schema.proofs.type_forms.TypeForms.new.Goals as goal

pub returns : goal.returns
returns c = λ t own had. absurd (let e = ap (lookup (is_at (nat_cmp t))) c.new.ensures.empty in cc (sym e ∙ had))
