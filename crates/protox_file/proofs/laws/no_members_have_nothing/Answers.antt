use Rattle.protox_file.proofs.Joined.{none_has_nothing}
use Rattle.protox_file.proofs.laws.no_members_have_nothing.Goals as goal

pub returns : goal.returns
returns c = none_has_nothing
