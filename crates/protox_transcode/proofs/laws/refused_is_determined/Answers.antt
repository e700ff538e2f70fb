use Rattle.protox_transcode.proofs.Refused.{kinds_broken, refused_once}
use Rattle.protox_transcode.proofs.Tries.{causes_told}
use Rattle.protox_transcode.proofs.laws.refused_is_determined.Goals as goal

pub returns-clause-once : goal.returns-clause-once
returns-clause-once c = refused_once c.opens_once.ensures.paths c.first_fault_is_one_place.ensures

pub returns-clause-kinds : goal.returns-clause-kinds
returns-clause-kinds c = kinds_broken c.opens_once.ensures.paths c.first_fault_is_one_place.ensures

pub returns-clause-told : goal.returns-clause-told
returns-clause-told c = causes_told
