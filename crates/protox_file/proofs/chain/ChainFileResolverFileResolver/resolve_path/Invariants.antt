use Rattle.std.proofs.Common.{map, IsTrue}
use Rattle.protox_file.specs.Chained.{chained}
use Rattle.protox_file.proofs.Members.{ResolveNot}
use Rattle.protox_file.proofs.chain.ChainFileResolverFileResolver.resolve_path.Given as goal

abbrev pub invariant-loop-member : goal.invariant-loop-member
invariant-loop-member g l =
    IsTrue (chained (map (λ b. (goal.FileResolver-dyn g (b.vtable, b.value)).library b.value) l.self.members.items)).tells
    → ResolveNot (map (λ b. (goal.FileResolver-dyn g (b.vtable, b.value)).library b.value) l.self.members.items) l.member-index l.path
