use Rattle.protox_compile_walk.proofs.Rooted.{roots_named, known_root, accepted_ask_for}
use Rattle.protox_compile_walk.proofs.laws.roots_name_themselves.Goals as goal

pub returns-clause-roots : goal.returns-clause-roots
returns-clause-roots c = roots_named

pub returns-clause-known : goal.returns-clause-known
returns-clause-known c = known_root

pub returns-clause-asked : goal.returns-clause-asked
returns-clause-asked c = accepted_ask_for
