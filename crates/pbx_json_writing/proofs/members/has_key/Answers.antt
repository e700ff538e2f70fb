use Rattle.std.proofs.Common.{◌∙◌}
use Rattle.pbx_json_writing.proofs.Views.{found_key}
use Rattle.pbx_json_writing.proofs.members.has_key.Goals as goal

pub returns : goal.returns
returns c = c.contains_key.ensures ∙ found_key c.args.key.now c.args.map.now.entries
