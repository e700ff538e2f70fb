use Rattle.pbx_parse_translation.proofs.Indexes.{all_named}
use Rattle.pbx_parse_translation.proofs.laws.indexes_name_own_oneofs.Goals as goal

pub returns : goal.returns
returns c = all_named
