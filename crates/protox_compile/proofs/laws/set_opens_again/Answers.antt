use Rattle.protox_compile.proofs.SetAgain.{set_opens_again}
use Rattle.protox_compile.proofs.laws.set_opens_again.Goals as goal

pub returns : goal.returns
returns c = set_opens_again c.sets_are_read_back.ensures c.closed_are_ordered.ensures c.closes_again.ensures
