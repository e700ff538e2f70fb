use Rattle.pbx_json_laws.proofs.FitSound.{stands_sound}
use Rattle.pbx_json_laws.proofs.laws.stands_sound.Goals as goal

pub returns : goal.returns
returns c = stands_sound
