use Rattle.std.proofs.Common.{map}
use Rattle.protox_file.proofs.Members.{AreUnspent}
use Rattle.protox_file.proofs.chain.ChainFileResolverFileResolver.spent.Given as goal

abbrev pub invariant-loop-member : goal.invariant-loop-member
invariant-loop-member g l =
    AreUnspent (map (λ b. (goal.FileResolver-dyn g (b.vtable, b.value)).count b.value) l.self.members.items) l.member-index
