use Rattle.pbx_content.proofs.OntoLaw.{onto_empty, judges_new}
use Rattle.pbx_content.proofs.OntoAppends.{onto_following}
use Rattle.pbx_content.proofs.OntoWritten.{merged_following, merged_where}
use Rattle.pbx_content.proofs.SoundLaw.{merged_sound, merged_shallow}
use Rattle.pbx_content.proofs.laws.onto_is_following.Goals as goal

pub returns-clause-empty : goal.returns-clause-empty
returns-clause-empty c = onto_empty

pub returns-clause-following : goal.returns-clause-following
returns-clause-following c = onto_following

pub returns-clause-judges : goal.returns-clause-judges
returns-clause-judges c = judges_new

pub returns-clause-merged : goal.returns-clause-merged
returns-clause-merged c = merged_following

pub returns-clause-merged_where : goal.returns-clause-merged_where
returns-clause-merged_where c = merged_where

pub returns-clause-sound : goal.returns-clause-sound
returns-clause-sound c = merged_sound

pub returns-clause-shallow : goal.returns-clause-shallow
returns-clause-shallow c = merged_shallow
