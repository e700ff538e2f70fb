use Rattle.std.proofs.Common.{◌≡◌, ◌++◌, [], IsTrue, take, drop}
use Rattle.protox_compile_walk.specs.Opens.{OpensTimes}
use Rattle.protox_file_sources.specs.Told.{ByLookups}
use Rattle.protox_compile_walk.specs.Opening.{closure, Accepted}
use Rattle.protox_compile.specs.State.{KeepsSettings, most_files}
use Rattle.protox_compile.specs.Repeats.{repeats, repeats_behind}
use Rattle.protox_compile.proofs.compiling.open_each.Given as goal

abbrev pub invariant-loop-index : goal.invariant-loop-index
invariant-loop-index g l = record {
  keeps : KeepsSettings g.R.FileResolver.library g.R.FileResolver.count l.fn.compiler l.compiler;
  opens : OpensTimes l.index [] l.compiler.done;
  before : IsTrue (g.R.FileResolver.library l.fn.compiler.resolver).tells
      → ByLookups (g.R.FileResolver.library l.fn.compiler.resolver).files (λ lookups. closure lookups (g.R.FileResolver.library l.fn.compiler.resolver).resolves most_files (take l.index l.paths) [] ≡ (l.compiler.done, Accepted));
  noted : IsTrue (g.R.FileResolver.library l.fn.compiler.resolver).tells
      → l.repeated ++ repeats_behind (g.R.FileResolver.library l.fn.compiler.resolver).resolves (take l.index l.paths) (drop l.index l.paths) ≡ repeats (g.R.FileResolver.library l.fn.compiler.resolver).resolves l.paths;
}
