use Rattle.pbx_parse_token.proofs.Faults.{in_comment}
use Rattle.pbx_parse_token.proofs.piece.block.Goals as goal

pub returns-in-None-clause-fault : goal.returns-in-None-clause-fault
returns-in-None-clause-fault c = in_comment c.args.bytes.now c.requires
