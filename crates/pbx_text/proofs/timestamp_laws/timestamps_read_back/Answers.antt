use Rattle.pbx_text.proofs.Timestamps.{timestamps_read}
use Rattle.pbx_text.proofs.timestamp_laws.timestamps_read_back.Goals as goal

pub returns : goal.returns
returns c = timestamps_read
