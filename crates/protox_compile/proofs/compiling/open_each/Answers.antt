use Rattle.std.proofs.Common.{◌≡◌, ◌+◌, ◌++◌, ◌∙◌, [], IsTrue, List, ℕ, ap, inr, sym, take, drop, rules}
use Rattle.std.proofs.lemmas.Result.{err_from_is_err_and}
use Rattle.protox_file_sources.specs.Causes.{FaultsCause}
use Rattle.protox_file_sources.specs.Told.{ByLookups}
use Rattle.protox_compile_walk.specs.Walk.{Done}
use Rattle.protox_compile_walk.specs.Opening.{Accepted, Ended}
use Rattle.protox_compile_walk.specs.Closures.{StopsAt}
use Rattle.protox_compile_walk.specs.Opens.{StopsAmong}
use Rattle.protox_compile_walk.proofs.Closures.{accepts_next, opens_next, stops_next}
use Rattle.protox_compile_walk.proofs.Right.{nothing, right_nothing}
use Rattle.protox_compile_walk.proofs.Openings.{cause_later}
use Rattle.protox_compile.specs.State.{most_files}
use Rattle.protox_compile.specs.Repeats.{repeats, repeats_behind}
use Rattle.protox_compile.specs.Compiling.{StopsCompiling, HasCompilingCause}
use Rattle.protox_compile.proofs.Kept.{settings_same, settings_join, err_is}
use Rattle.protox_compile.proofs.Repeats.{noted_next}
use Rattle.protox_compile.proofs.Among.{stops_among}
use Rattle.protox_compile.proofs.Tried.{faults_since, refused_once}
use Rattle.protox_compile.proofs.compiling.open_each.Goals as goal

pub loop-index-init : goal.loop-index-init
loop-index-init g c =
    let empty : c.args.compiler.now.done ≡ [] = ap (λ s. s.done) c.requires.empty in
    let end : List Done → List Done × Ended = λ d. (d, Accepted) in
    record {
      keeps = settings_same g.R.FileResolver.library g.R.FileResolver.count c.args.compiler.now;
      opens = empty;
      before = λ tells. (nothing, right_nothing (g.R.FileResolver.library c.args.compiler.now.resolver).files, ap end (sym empty));
      noted = λ tells. ap (λ (xs : List ℕ). xs ++ repeats (g.R.FileResolver.library c.args.compiler.now.resolver).resolves c.as_slice-paths.result.now) c.requires.none;
    }

pub loop-index-preserved : goal.loop-index-preserved
loop-index-preserved g c =
    let limit : c.loop-index.compiler.limit ≡ most_files = ap (λ s. s.limit) c.loop-index.invariant.keeps.settings ∙ ap (λ s. s.limit) c.requires.empty in
    record {
      opens = opens_next c.loop-index.index [] c.loop-index.compiler.done c.open_retry.new.self.done c.in_ok-report.report c.loop-index.invariant.opens c.in_ok-report.ensures.opens;
      keeps = settings_join g.R.FileResolver.library g.R.FileResolver.count c.args.compiler.now c.loop-index.compiler c.open_retry.new.self c.loop-index.invariant.keeps c.in_ok-report.ensures.keeps;
      before = λ tells.
          let told : IsTrue (g.R.FileResolver.library c.loop-index.compiler.resolver).tells = rw c.loop-index.invariant.keeps.files.keeps tells in
          accepts_next c.looked_up_once.ensures (g.R.FileResolver.library c.args.compiler.now.resolver).files (g.R.FileResolver.library c.args.compiler.now.resolver).resolves most_files c.as_slice-paths.result.now c.loop-index.index
          c.index-paths-index.result (search rules) c.index-paths-index.is [] c.loop-index.compiler.done (c.loop-index.invariant.before tells) _
          (rw (c.loop-index.invariant.keeps.files.keeps, limit, c.as_str.ensures) at (c.in_ok-report.ensures.ok told));
      noted = λ tells.
          let told : IsTrue (g.R.FileResolver.library c.loop-index.compiler.resolver).tells = rw c.loop-index.invariant.keeps.files.keeps tells in
          ap (λ (xs : List ℕ). xs ++ repeats_behind (g.R.FileResolver.library c.args.compiler.now.resolver).resolves (take (c.loop-index.index + 1) c.as_slice-paths.result.now) (drop (c.loop-index.index + 1) c.as_slice-paths.result.now)) c.in_ok-note.ensures
          ∙ noted_next (c.loop-index.invariant.before tells).0 most_files (g.R.FileResolver.library c.args.compiler.now.resolver).resolves c.as_slice-paths.result.now c.loop-index.index c.index-paths-index.result
          c.loop-index.repeated c.loop-index.compiler.done c.in_ok-report.report (search rules) c.index-paths-index.is (c.loop-index.invariant.before tells).2
          (rw (c.loop-index.invariant.keeps.files.keeps, c.as_str.ensures) at (c.in_ok-report.ensures.report told)) (c.loop-index.invariant.noted tells);
    }

pub returns-in_err-report-clause-err : goal.returns-in_err-report-clause-err
returns-in_err-report-clause-err g c tells =
    let limit : c.loop-index.compiler.limit ≡ most_files = ap (λ s. s.limit) c.loop-index.invariant.keeps.settings ∙ ap (λ s. s.limit) c.requires.empty in
    let told : IsTrue (g.R.FileResolver.library c.loop-index.compiler.resolver).tells = rw c.loop-index.invariant.keeps.files.keeps tells in
    let tried = rw (c.loop-index.invariant.keeps.files.keeps, limit, c.as_str.ensures) at (c.in_err-report.ensures.err told) in
    let once = refused_once tried.0 (g.R.FileResolver.library c.args.compiler.now.resolver).resolves most_files c.index-paths-index.result c.loop-index.compiler.done c.open_retry.new.self.done c.in_err-report.field-0.0 tried.2 in
    let stops : ByLookups (g.R.FileResolver.library c.args.compiler.now.resolver).files (λ lookups. StopsAt lookups (g.R.FileResolver.library c.args.compiler.now.resolver).resolves most_files c.as_slice-paths.result.now [] once.0 c.in_err-report.field-0.0)
    = stops_next c.looked_up_once.ensures (g.R.FileResolver.library c.args.compiler.now.resolver).files (g.R.FileResolver.library c.args.compiler.now.resolver).resolves most_files c.as_slice-paths.result.now c.loop-index.index
    c.index-paths-index.result (search rules) c.index-paths-index.is [] c.loop-index.compiler.done (c.loop-index.invariant.before tells) once.0 c.in_err-report.field-0.0
    (tried.0, tried.1, once.1) once.2 in
    let q = err_from_is_err_and c.from_residual.result c.from_residual.ensures.1 in
    err_is (StopsCompiling (g.R.FileResolver.library c.args.compiler.now.resolver) c.args.files.now) c.from_residual.result q.0 c.in_err-report.field-0.0 q.1 q.2
    (rw (← c.as_slice-paths.ensures) (inr (stops.0, stops.1, (once.0, stops.2))))

pub returns-in_err-report-clause-cause : goal.returns-in_err-report-clause-cause
returns-in_err-report-clause-cause g c =
    let limit : c.loop-index.compiler.limit ≡ most_files = ap (λ s. s.limit) c.loop-index.invariant.keeps.settings ∙ ap (λ s. s.limit) c.requires.empty in
    let known = c.in_err-report.ensures.cause in
    let since = faults_since (c.args.tries + 1) (g.R.FileResolver.library c.args.compiler.now.resolver) _ _ _ _ c.loop-index.invariant.keeps.files.keeps c.loop-index.invariant.keeps.files.later in
    let q = err_from_is_err_and c.from_residual.result c.from_residual.ensures.1 in
    let stops : StopsAmong most_files c.as_slice-paths.result.now [] c.open_retry.new.self.done
    (FaultsCause (c.args.tries + 1) (g.R.FileResolver.library c.args.compiler.now.resolver) (g.R.FileResolver.count c.args.compiler.now.resolver) (g.R.FileResolver.count c.open_retry.new.self.resolver)) c.in_err-report.field-0.0
    = stops_among most_files c.as_slice-paths.result.now c.loop-index.index c.index-paths-index.result (search rules) c.index-paths-index.is
    [] c.loop-index.compiler.done c.open_retry.new.self.done _ c.in_err-report.field-0.0 c.loop-index.invariant.opens c.in_err-report.ensures.grows
    (cause_later most_files c.index-paths-index.result _ _ _ c.in_err-report.field-0.0 since (rw (limit, c.as_str.ensures) at known)) in
    err_is (HasCompilingCause c.args.files.now (FaultsCause (c.args.tries + 1) (g.R.FileResolver.library c.args.compiler.now.resolver) (g.R.FileResolver.count c.args.compiler.now.resolver) (g.R.FileResolver.count c.open_retry.new.self.resolver)))
    c.from_residual.result q.0 c.in_err-report.field-0.0 q.1 q.2
    (rw (← c.as_slice-paths.ensures) (inr (c.open_retry.new.self.done, stops)))
