use Rattle.pbx_content.proofs.Alike.{sorted_alike, alike_sorted}
use Rattle.pbx_content.proofs.laws.sorted_records_are_alike.Goals as goal

pub returns : goal.returns
returns c rs ss = (alike_sorted rs ss, sorted_alike rs ss)
