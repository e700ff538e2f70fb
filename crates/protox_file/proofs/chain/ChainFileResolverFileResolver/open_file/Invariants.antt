use Rattle.std.proofs.Common.{◌≡◌, IsTrue, map}
use Rattle.protox_io.specs.Count.{Later}
use Rattle.protox_file.specs.Chained.{chained, count_of_all}
use Rattle.protox_file.proofs.Members.{ArePassed}
use Rattle.protox_file.proofs.chain.ChainFileResolverFileResolver.open_file.Given as goal

abbrev pub invariant-loop-index : goal.invariant-loop-index
invariant-loop-index g l = record {
  keeps : map (λ b. (goal.FileResolver-dyn g (b.vtable, b.value)).library b.value) l.self.members.items
      ≡ map (λ b. (goal.FileResolver-dyn g (b.vtable, b.value)).library b.value) l.fn.self.members.items;
  later : Later
      (count_of_all (map (λ b. (goal.FileResolver-dyn g (b.vtable, b.value)).count b.value) l.fn.self.members.items))
      (count_of_all (map (λ b. (goal.FileResolver-dyn g (b.vtable, b.value)).count b.value) l.self.members.items));
  passed : IsTrue (chained (map (λ b. (goal.FileResolver-dyn g (b.vtable, b.value)).library b.value) l.fn.self.members.items)).tells
      → ArePassed (map (λ b. (goal.FileResolver-dyn g (b.vtable, b.value)).library b.value) l.fn.self.members.items) l.index l.name;
}
