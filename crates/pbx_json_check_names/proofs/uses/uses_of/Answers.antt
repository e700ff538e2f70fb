use Rattle.std.proofs.Common.{Some, cond, ap, ◌∙◌}
use Rattle.std.specs.BTreeMap.{get_by_text}
use Rattle.std.specs.Str.{bytes_eq}
use Rattle.pbx_json_check_names.specs.Uses.{with_use}
use Rattle.pbx_json_check_names.proofs.Keys.{used_more}
use Rattle.pbx_json_check_names.proofs.uses.uses_of.Goals as goal

pub loop-field-preserved : goal.loop-field-preserved
loop-field-preserved c =
    used_more c.args.fields.now c.loop-field.field-index c.field-item.result c.as_str-name.result.now (get_by_text c.loop-field.uses)
    (get_by_text c.set_use.new.uses) c.loop-field-test.true c.field-item.is c.as_str-name.ensures c.loop-field.invariant
    (λ q. c.in_ok-set_use.ensures q
    ∙ ap (λ u. cond (bytes_eq c.as_str-name.result.now q) (Some u) (get_by_text c.loop-field.uses q))
    (c.with_use-used.ensures ∙ ap (with_use c.field-item.result.is_extension c.field-item.result.number) c.use_of.ensures))
