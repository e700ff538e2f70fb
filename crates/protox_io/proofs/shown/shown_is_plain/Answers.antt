use Rattle.protox_io.proofs.Plain.{shown_plain}
use Rattle.protox_io.proofs.shown.shown_is_plain.Goals as goal

pub returns : goal.returns
returns c = shown_plain
