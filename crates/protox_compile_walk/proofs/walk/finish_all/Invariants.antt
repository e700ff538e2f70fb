use Rattle.std.proofs.Common.{◌≡◌, ◌≤◌, ◌+◌, ◌-◌, ◌*◌, ◌^◌, ◌∷◌, [], IsTrue, length}
use Rattle.protox_io.specs.Count.{Later}
use Rattle.protox_compile_walk.specs.Refusals.{Grows}
use Rattle.protox_compile_walk.specs.Resume.{LeadsTo}
use Rattle.protox_compile_walk.proofs.Fresh.{Fresh}
use Rattle.protox_compile_walk.proofs.Measure.{work}
use Rattle.protox_compile_walk.proofs.walk.finish_all.Given as goal

abbrev pub invariant-walk : goal.invariant-walk
invariant-walk g l = record {
  keeps : g.R.FileResolver.library l.resolver ≡ g.R.FileResolver.library l.fn.resolver;
  later : Later (g.R.FileResolver.count l.fn.resolver) (g.R.FileResolver.count l.resolver);
  leads : IsTrue (g.R.FileResolver.library l.fn.resolver).tells → LeadsTo (g.R.FileResolver.library l.fn.resolver).files l.limit (l.fn.root ∷ []) l.fn.done (l.current ∷ l.parents) l.done;
  fresh : Fresh l.fn.root.name (l.current ∷ l.parents) l.done;
  grows : Grows l.fn.done l.done;
  room : length l.done + length l.parents + 1 ≤ l.limit;
}

abbrev pub decreases-walk : goal.decreases-walk
decreases-walk g l = (l.limit - (length l.done + length l.parents)) * 2 ^ 64 + work (l.current ∷ l.parents)
