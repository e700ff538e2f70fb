use Rattle.pbx_message_laws.proofs.Typed.{place_has_type, referred_has_place, kind_has_type}
use Rattle.pbx_message_laws.proofs.laws.kinds_have_types.Goals as goal

pub returns-clause-place : goal.returns-clause-place
returns-clause-place c = place_has_type

pub returns-clause-referred : goal.returns-clause-referred
returns-clause-referred c = referred_has_place

pub returns-clause-kind : goal.returns-clause-kind
returns-clause-kind c = kind_has_type
