use Rattle.pbx_text.proofs.Decimals.{signed_reads, unsigned_reads}
use Rattle.pbx_text.proofs.laws.numbers_read_back.Goals as goal

pub returns : goal.returns
returns c = (signed_reads, unsigned_reads)
