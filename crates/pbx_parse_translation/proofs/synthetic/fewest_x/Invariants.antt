use Rattle.std.proofs.Common.{ℕ, List}
use Rattle.pbx_parse_translation.specs.Scope.{Holds, AreTaken}
use Rattle.pbx_parse_translation.proofs.synthetic.fewest_x.Given as goal

abbrev pub invariant-tries : goal.invariant-tries
invariant-tries l = (names : List (List ℕ)) → Holds l.scope names → AreTaken names l.field l.first → AreTaken names l.field l.x_count
