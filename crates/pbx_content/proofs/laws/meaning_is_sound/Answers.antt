use Rattle.pbx_content.proofs.SoundLaw.{meaning_sound, parts_sound}
use Rattle.pbx_content.proofs.laws.meaning_is_sound.Goals as goal

pub returns-clause-whole : goal.returns-clause-whole
returns-clause-whole c = meaning_sound

pub returns-clause-parts : goal.returns-clause-parts
returns-clause-parts c = parts_sound
