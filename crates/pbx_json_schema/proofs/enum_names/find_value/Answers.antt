use Rattle.std.proofs.Common.{◌∙◌}
use Rattle.pbx_json_schema.specs.Index.{AreNamesOf}
use Rattle.pbx_json_schema.proofs.enum_names.find_value.Goals as goal

pub returns : goal.returns
unfolding AreNamesOf
returns c = λ are. c.item_under.ensures ∙ are c.args.name.now
