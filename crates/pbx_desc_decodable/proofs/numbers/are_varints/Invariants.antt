use Rattle.std.proofs.Common.{length}
use Rattle.pbx_desc_decodable.proofs.Packed.{HaveRead}
use Rattle.pbx_desc_decodable.proofs.numbers.are_varints.Given as goal

abbrev pub invariant-loop-rest : goal.invariant-loop-rest
invariant-loop-rest l = HaveRead l.bytes l.rest

abbrev pub decreases-loop-rest : goal.decreases-loop-rest
decreases-loop-rest l = length l.rest
