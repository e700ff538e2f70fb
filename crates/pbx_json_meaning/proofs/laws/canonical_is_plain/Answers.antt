use Rattle.pbx_json_meaning.proofs.Plain.{canonical_is_plain}
use Rattle.pbx_json_meaning.proofs.laws.canonical_is_plain.Goals as goal

pub returns : goal.returns
returns c = canonical_is_plain
