use Rattle.protox_lines_items.proofs.OneStream.{one_stream}
use Rattle.protox_lines_items.proofs.laws.streams_are_one.Goals as goal

pub returns : goal.returns
returns c = one_stream
