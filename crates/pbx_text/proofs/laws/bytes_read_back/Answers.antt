use Rattle.pbx_text.proofs.Writing.{bytes_read}
use Rattle.pbx_text.proofs.laws.bytes_read_back.Goals as goal

pub returns : goal.returns
returns c = bytes_read
