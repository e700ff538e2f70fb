use Rattle.pbx_content.proofs.OntoOne.{empty_is_stable, onto_is_stable, onto_nothing, onto_keeps_one, onto_reads_one}
use Rattle.pbx_content.proofs.OntoSound.{sound_is_stable}
use Rattle.pbx_content.proofs.laws.one_record.Goals as goal

pub returns-clause-empty : goal.returns-clause-empty
returns-clause-empty c = empty_is_stable

pub returns-clause-stable : goal.returns-clause-stable
returns-clause-stable c = onto_is_stable

pub returns-clause-kept : goal.returns-clause-kept
returns-clause-kept c = onto_keeps_one

pub returns-clause-read : goal.returns-clause-read
returns-clause-read c = onto_reads_one

pub returns-clause-sound : goal.returns-clause-sound
returns-clause-sound c = sound_is_stable

pub returns-clause-nothing : goal.returns-clause-nothing
returns-clause-nothing c = onto_nothing
