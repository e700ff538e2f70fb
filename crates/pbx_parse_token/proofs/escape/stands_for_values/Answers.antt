use Rattle.pbx_parse_token.proofs.Strings.{values}
use Rattle.pbx_parse_token.proofs.escape.stands_for_values.Goals as goal

pub returns : goal.returns
returns c = values
