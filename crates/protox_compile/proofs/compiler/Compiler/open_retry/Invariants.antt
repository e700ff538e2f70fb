use Rattle.std.proofs.Common.{◌≡◌, ◌≤◌, ◌-◌, IsTrue, true, false}
use Rattle.protox_io.specs.Count.{RoseTimes}
use Rattle.protox_file_sources.specs.Told.{ByLookups}
use Rattle.protox_compile_walk.specs.Opening.{root_of}
use Rattle.protox_compile_walk.specs.Opens.{is_settled}
use Rattle.protox_compile_walk.specs.Refusals.{Grows}
use Rattle.protox_compile_laws.specs.Retry.{IsFront}
use Rattle.protox_compile.specs.State.{KeepsSettings}
use Rattle.protox_compile.proofs.compiler.Compiler.open_retry.Given as goal

abbrev pub invariant-loop-report : goal.invariant-loop-report
invariant-loop-report g l = record {
  keeps : KeepsSettings g.R.FileResolver.library g.R.FileResolver.count l.fn.self l.self;
  grows : Grows l.fn.self.done l.self.done;
  fits : l.left.left ≤ l.tries;
  rose : l.left.lacked ≡ false → RoseTimes (l.tries - l.left.left) (g.R.FileResolver.count l.fn.self.resolver) (g.R.FileResolver.count l.self.resolver);
  settled : IsTrue (g.R.FileResolver.library l.fn.self.resolver).tells
      → is_settled (root_of (g.R.FileResolver.library l.fn.self.resolver).resolves l.path) l.fn.self.done ≡ true → l.self.resolver ≡ l.fn.self.resolver;
  front : IsTrue (g.R.FileResolver.library l.fn.self.resolver).tells
      → ByLookups (g.R.FileResolver.library l.fn.self.resolver).files (λ some. IsFront some (g.R.FileResolver.library l.fn.self.resolver).resolves l.fn.self.limit l.path l.fn.self.done l.self.done);
}

abbrev pub decreases-loop-report : goal.decreases-loop-report
decreases-loop-report g l = l.left.left
