use Rattle.std.proofs.Common.{◌≡◌, IsTrue, take}
use Rattle.protox_file_sources.specs.Told.{ByLookups}
use Rattle.protox_compile_walk.specs.Opening.{closure, Accepted}
use Rattle.protox_compile_walk.specs.Opens.{OpensTimes}
use Rattle.protox_compile.specs.State.{KeepsSettings}
use Rattle.protox_compile.proofs.compiler.Compiler.open_files.Given as goal

abbrev pub invariant-loop-path : goal.invariant-loop-path
invariant-loop-path g l = record {
  keeps : KeepsSettings g.R.FileResolver.library g.R.FileResolver.count l.fn.self l.self;
  opens : OpensTimes l.path-index l.fn.self.done l.self.done;
  before : IsTrue (g.R.FileResolver.library l.fn.self.resolver).tells
      → ByLookups (g.R.FileResolver.library l.fn.self.resolver).files (λ lookups. closure lookups (g.R.FileResolver.library l.fn.self.resolver).resolves l.fn.self.limit (take l.path-index l.path-items) l.fn.self.done ≡ (l.self.done, Accepted));
}
