use Rattle.pbx_desc_decodable.proofs.Packed.{text_is, no_text}
use Rattle.pbx_desc_decodable.proofs.numbers.is_text.Goals as goal

pub returns-in-Ok : goal.returns-in-Ok
returns-in-Ok c = text_is c.args.bytes.now (c.in-Ok.ensures.cases).1

pub returns-in-Err : goal.returns-in-Err
returns-in-Err c = no_text c.args.bytes.now (c.in-Err.ensures.cases).0
