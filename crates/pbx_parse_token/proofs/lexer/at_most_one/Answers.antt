use Rattle.pbx_parse_token.proofs.Laws.{one_list}
use Rattle.pbx_parse_token.proofs.lexer.at_most_one.Goals as goal

pub returns : goal.returns
returns c = one_list
