use Rattle.std.specs.BTreeMap.{get_by_text}
use Rattle.pbx_json_check_names.proofs.Keys.{names_more}
use Rattle.pbx_json_check_names.proofs.uses.add_names.Goals as goal

pub loop-field-preserved : goal.loop-field-preserved
loop-field-preserved c =
    names_more c.args.fields.now c.loop-field.field-index c.field-item.result (get_by_text c.args.uses.now) (get_by_text c.loop-field.uses)
    (get_by_text c.add_name.new.uses) c.loop-field-test.true c.field-item.is c.loop-field.invariant c.in_ok-add_name.ensures
