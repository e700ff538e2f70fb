use Rattle.pbx_message_laws.proofs.Changed.{sound_ascends, set_is, set_is_got, cleared_is, cleared_is_gone, has_is_get, setting_keeps}
use Rattle.pbx_message_laws.proofs.laws.fields_are_as_set.Goals as goal

pub returns-clause-ascends : goal.returns-clause-ascends
returns-clause-ascends c = sound_ascends

pub returns-clause-set : goal.returns-clause-set
returns-clause-set c = set_is

pub returns-clause-got : goal.returns-clause-got
returns-clause-got c = set_is_got

pub returns-clause-cleared : goal.returns-clause-cleared
returns-clause-cleared c = cleared_is

pub returns-clause-gone : goal.returns-clause-gone
returns-clause-gone c = cleared_is_gone

pub returns-clause-has : goal.returns-clause-has
returns-clause-has c = has_is_get

pub returns-clause-kept : goal.returns-clause-kept
returns-clause-kept c = setting_keeps
