use Rattle.std.proofs.Common.{◌≡◌, IsTrue, refl, ap, rules}
use Rattle.protox_file_sources.specs.Told.{ByLookups}
use Rattle.protox_file_sources.specs.Causes.{FaultCause}
use Rattle.protox_compile_walk.specs.Closures.{StopsAt}
use Rattle.protox_compile_walk.specs.Opens.{StopsAmong}
use Rattle.protox_compile_walk.proofs.Closures.{accepts_next, stops_next, opens_next}
use Rattle.protox_compile_walk.proofs.Right.{nothing, right_nothing}
use Rattle.protox_compile_walk.proofs.Openings.{cause_later, fault_since}
use Rattle.protox_compile.proofs.Kept.{settings_same, settings_join}
use Rattle.protox_compile.proofs.Among.{stops_among}
use Rattle.protox_compile.proofs.compiler.Compiler.open_files.Goals as goal

pub returns-in-Err-clause-err : goal.returns-in-Err-clause-err
returns-in-Err-clause-err g c tells =
    let told : IsTrue (g.R.FileResolver.library c.loop-path.self.resolver).tells = rw c.loop-path.invariant.keeps.files.keeps tells in
    let limit : c.loop-path.self.limit ≡ c.args.self.now.limit = ap (λ s. s.limit) c.loop-path.invariant.keeps.settings in
    let stops : ByLookups (g.R.FileResolver.library c.args.self.now.resolver).files (λ lookups. StopsAt lookups (g.R.FileResolver.library c.args.self.now.resolver).resolves c.args.self.now.limit c.as_slice-path-items.result.now c.args.self.now.done c.open_file.new.self.done c.in-Err.error)
    = stops_next c.looked_up_once.ensures (g.R.FileResolver.library c.args.self.now.resolver).files (g.R.FileResolver.library c.args.self.now.resolver).resolves c.args.self.now.limit c.as_slice-path-items.result.now c.loop-path.path-index c.path-item.result (search rules) c.path-item.is
    c.args.self.now.done c.loop-path.self.done (c.loop-path.invariant.before tells) _ _
    (rw (c.loop-path.invariant.keeps.files.keeps, limit, c.as_str.ensures) at (c.in-Err.ensures.err told)) c.in-Err.ensures.grows in
    rw (← c.as_slice-path-items.ensures) stops

pub returns-in-Err-clause-stops : goal.returns-in-Err-clause-stops
returns-in-Err-clause-stops g c =
    let limit : c.loop-path.self.limit ≡ c.args.self.now.limit = ap (λ s. s.limit) c.loop-path.invariant.keeps.settings in
    let known = c.in-Err.ensures.cause in
    let since = fault_since (g.R.FileResolver.library c.args.self.now.resolver) _ _ _ _ c.loop-path.invariant.keeps.files.keeps c.loop-path.invariant.keeps.files.later in
    let stops : StopsAmong c.args.self.now.limit c.as_slice-path-items.result.now c.args.self.now.done c.open_file.new.self.done
    (FaultCause (g.R.FileResolver.library c.args.self.now.resolver) (g.R.FileResolver.count c.args.self.now.resolver) (g.R.FileResolver.count c.open_file.new.self.resolver)) c.in-Err.error
    = stops_among c.args.self.now.limit c.as_slice-path-items.result.now c.loop-path.path-index c.path-item.result (search rules) c.path-item.is
    c.args.self.now.done c.loop-path.self.done c.open_file.new.self.done _ c.in-Err.error c.loop-path.invariant.opens c.in-Err.ensures.grows
    (cause_later c.args.self.now.limit c.path-item.result _ _ _ c.in-Err.error since (rw (limit, c.as_str.ensures) at known)) in
    rw (← c.as_slice-path-items.ensures) stops

pub returns-in-Err-clause-keeps : goal.returns-in-Err-clause-keeps
returns-in-Err-clause-keeps g c = settings_join g.R.FileResolver.library g.R.FileResolver.count c.args.self.now c.loop-path.self c.open_file.new.self c.loop-path.invariant.keeps c.in-Err.ensures.keeps

pub loop-path-init : goal.loop-path-init
loop-path-init g c = record {
  keeps = settings_same g.R.FileResolver.library g.R.FileResolver.count c.args.self.now;
  opens = refl;
  before = λ tells. (nothing, right_nothing (g.R.FileResolver.library c.args.self.now.resolver).files, refl);
}

pub loop-path-preserved : goal.loop-path-preserved
loop-path-preserved g c = record {
  keeps = settings_join g.R.FileResolver.library g.R.FileResolver.count c.args.self.now c.loop-path.self c.open_file.new.self c.loop-path.invariant.keeps c.in-Ok.ensures.keeps;
  opens = opens_next c.loop-path.path-index c.args.self.now.done c.loop-path.self.done _ _ c.loop-path.invariant.opens c.in-Ok.ensures.opens;
  before = λ tells.
      let told : IsTrue (g.R.FileResolver.library c.loop-path.self.resolver).tells = rw c.loop-path.invariant.keeps.files.keeps tells in
      let limit : c.loop-path.self.limit ≡ c.args.self.now.limit = ap (λ s. s.limit) c.loop-path.invariant.keeps.settings in
      accepts_next c.looked_up_once.ensures (g.R.FileResolver.library c.args.self.now.resolver).files (g.R.FileResolver.library c.args.self.now.resolver).resolves c.args.self.now.limit c.as_slice-path-items.result.now c.loop-path.path-index c.path-item.result (search rules) c.path-item.is
      c.args.self.now.done c.loop-path.self.done (c.loop-path.invariant.before tells) _
      (rw (c.loop-path.invariant.keeps.files.keeps, limit, c.as_str.ensures) at (c.in-Ok.ensures.ok told));
}
