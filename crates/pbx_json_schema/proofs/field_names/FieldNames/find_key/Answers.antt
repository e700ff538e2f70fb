use Rattle.std.proofs.Common.{◌∙◌}
use Rattle.pbx_json_schema.specs.Index.{IsIndexOf}
use Rattle.pbx_json_schema.proofs.field_names.FieldNames.find_key.Goals as goal

pub returns : goal.returns
unfolding IsIndexOf
returns c = λ index. c.item_under.ensures ∙ index.0 c.args.key.now
