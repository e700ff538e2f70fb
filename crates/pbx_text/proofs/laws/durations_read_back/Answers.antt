use Rattle.pbx_text.proofs.DurationsRead.{durations_read}
use Rattle.pbx_text.proofs.laws.durations_read_back.Goals as goal

pub returns : goal.returns
returns c = durations_read
