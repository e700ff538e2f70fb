use Rattle.std.proofs.Common.{◌≡◌, ◌≤◌, ◌-◌, ◌+◌, ◌∙◌, IsTrue, true, refl, ap, sym, subst, arith, length, map, drop}
use Rattle.std.specs.Prelude.{Some}
use Rattle.protox_file_error.specs.declared.error.ErrorKind.{ErrorKind}
use Rattle.protox_file_sources.specs.Causes.{FaultsCause}
use Rattle.protox_file_sources.specs.Told.{ByLookups}
use Rattle.protox_compile_walk.specs.Compiled.{metadata_of}
use Rattle.protox_compile_walk.specs.Opening.{report_of, root_of}
use Rattle.protox_compile_walk.specs.Opens.{is_settled}
use Rattle.protox_compile_walk.specs.Refusals.{HasOpeningCause}
use Rattle.protox_compile_walk.proofs.Extends.{grows_same}
use Rattle.protox_compile_walk.proofs.Right.{nothing, right_nothing}
use Rattle.protox_compile_laws.specs.Retry.{RefusesTries}
use Rattle.protox_compile.specs.Tries.{lacks_memory, told_before}
use Rattle.protox_compile.proofs.Kept.{settings_same, settings_join}
use Rattle.protox_compile.proofs.Tried.{fault_rose, grows_join, last_cause, neither, opened_longer, opens_before, report_kept, rose_next, rose_none, settled_later, tries_end}
use Rattle.protox_compile.proofs.compiler.Compiler.open_retry.Goals as goal

pub loop-report-init : goal.loop-report-init
loop-report-init g c = record {
  keeps = settings_same g.R.FileResolver.library g.R.FileResolver.count c.args.self.now;
  grows = grows_same c.args.self.now.done;
  fits = omega (arith, c.new-left.ensures.left);
  rose = λ memory. rose_none (c.args.tries - c.new-left.result.left) (g.R.FileResolver.count c.args.self.now.resolver) (omega (arith, c.new-left.ensures.left));
  settled = λ tells there. refl;
  front = λ tells.
      let files = (g.R.FileResolver.library c.args.self.now.resolver).files in
      (nothing, right_nothing files, c.tries_are_one.ensures.begins nothing (g.R.FileResolver.library c.args.self.now.resolver).resolves c.args.self.now.limit c.args.path.now c.args.self.now.done);
}

pub told_before-requires : goal.told_before-requires
told_before-requires g c =
    let longer : length c.args.self.now.done ≤ length c.open_file.new.self.done
    = opened_longer c.args.self.now.done c.loop-report.self.done c.open_file.new.self.done c.in-Ok.report c.loop-report.invariant.grows c.in-Ok.ensures.opens in
    omega (arith, longer, c.count-before.ensures)

pub returns-in-Ok-clause-ok : goal.returns-in-Ok-clause-ok
returns-in-Ok-clause-ok g c tells =
    let told : IsTrue (g.R.FileResolver.library c.loop-report.self.resolver).tells = rw c.loop-report.invariant.keeps.files.keeps tells in
    let limit : c.loop-report.self.limit ≡ c.args.self.now.limit = ap (λ s. s.limit) c.loop-report.invariant.keeps.settings in
    c.tries_are_one.ensures.accepted (g.R.FileResolver.library c.args.self.now.resolver).files (g.R.FileResolver.library c.args.self.now.resolver).resolves c.args.self.now.limit c.args.path.now
    c.args.self.now.done c.loop-report.self.done c.open_file.new.self.done (c.loop-report.invariant.front tells)
    (rw (c.loop-report.invariant.keeps.files.keeps, limit) at (c.in-Ok.ensures.ok told))

pub returns-in-Ok-clause-report : goal.returns-in-Ok-clause-report
returns-in-Ok-clause-report g c tells =
    let told : IsTrue (g.R.FileResolver.library c.loop-report.self.resolver).tells = rw c.loop-report.invariant.keeps.files.keeps tells in
    let limit : c.loop-report.self.limit ≡ c.args.self.now.limit = ap (λ s. s.limit) c.loop-report.invariant.keeps.settings in
    let front = c.loop-report.invariant.front tells in
    let accepted = c.tries_are_one.ensures.accepted (g.R.FileResolver.library c.args.self.now.resolver).files (g.R.FileResolver.library c.args.self.now.resolver).resolves c.args.self.now.limit c.args.path.now
    c.args.self.now.done c.loop-report.self.done c.open_file.new.self.done front (rw (c.loop-report.invariant.keeps.files.keeps, limit) at (c.in-Ok.ensures.ok told)) in
    let reported : report_of (g.R.FileResolver.library c.args.self.now.resolver).resolves c.args.path.now c.args.self.now.done ≡ Some c.in-Ok.report
    = c.tries_are_one.ensures.reported front.0 (g.R.FileResolver.library c.args.self.now.resolver).resolves c.args.self.now.limit c.args.path.now c.args.self.now.done c.loop-report.self.done c.in-Ok.report
    front.2 (rw c.loop-report.invariant.keeps.files.keeps at (c.in-Ok.ensures.report told)) in
    let kept : report_of (g.R.FileResolver.library c.args.self.now.resolver).resolves c.args.path.now c.args.self.now.done
    ≡ Some (told_before (drop (length c.args.self.now.done) (map metadata_of c.open_file.new.self.done)) c.in-Ok.report)
    = report_kept accepted.0 (g.R.FileResolver.library c.args.self.now.resolver).resolves c.args.self.now.limit c.args.path.now c.args.self.now.done c.open_file.new.self.done c.in-Ok.report accepted.2 reported in
    rw (c.told_before.ensures, c.count-before.ensures) kept

pub returns-in-Ok-clause-again : goal.returns-in-Ok-clause-again
returns-in-Ok-clause-again g c tells there =
    let told : IsTrue (g.R.FileResolver.library c.loop-report.self.resolver).tells = rw c.loop-report.invariant.keeps.files.keeps tells in
    let now : is_settled (root_of (g.R.FileResolver.library c.loop-report.self.resolver).resolves c.args.path.now) c.loop-report.self.done ≡ true
    = rw c.loop-report.invariant.keeps.files.keeps
    (settled_later (root_of (g.R.FileResolver.library c.args.self.now.resolver).resolves c.args.path.now) c.args.self.now.done c.loop-report.self.done c.loop-report.invariant.grows there) in
    c.in-Ok.ensures.again told now ∙ c.loop-report.invariant.settled tells there

pub returns-in-Ok-clause-opens : goal.returns-in-Ok-clause-opens
returns-in-Ok-clause-opens g c =
    rw (c.told_before.ensures, c.count-before.ensures)
    (opens_before c.args.self.now.done c.loop-report.self.done c.open_file.new.self.done c.in-Ok.report c.loop-report.invariant.grows c.in-Ok.ensures.opens)

pub returns-in-Err-next-clause-err : goal.returns-in-Err-next-clause-err
returns-in-Err-next-clause-err g c tells =
    let told : IsTrue (g.R.FileResolver.library c.loop-report.self.resolver).tells = rw c.loop-report.invariant.keeps.files.keeps tells in
    let limit : c.loop-report.self.limit ≡ c.args.self.now.limit = ap (λ s. s.limit) c.loop-report.invariant.keeps.settings in
    let refused = c.tries_are_one.ensures.refused (g.R.FileResolver.library c.args.self.now.resolver).files (g.R.FileResolver.library c.args.self.now.resolver).resolves c.args.self.now.limit c.args.path.now
    c.args.self.now.done c.loop-report.self.done c.open_file.new.self.done c.in-Err.error (c.loop-report.invariant.front tells) c.in-Err.ensures.grows
    (rw (c.loop-report.invariant.keeps.files.keeps, limit) at (c.in-Err.ensures.err told)) in
    let P : ErrorKind → Type 0 = λ error. ByLookups (g.R.FileResolver.library c.args.self.now.resolver).files
    (λ some. RefusesTries some (g.R.FileResolver.library c.args.self.now.resolver).resolves c.args.self.now.limit c.args.path.now c.args.self.now.done c.open_file.new.self.done error) in
    subst P (sym c.in-Err-next.ensures.ends.answer_is) (
      refused.0,
      refused.1,
      tries_end refused.0 (g.R.FileResolver.library c.args.self.now.resolver).resolves c.args.self.now.limit c.args.path.now c.args.self.now.done c.open_file.new.self.done c.loop-report.left.lacked c.in-Err.error refused.2,
    )

pub returns-in-Err-next-clause-again : goal.returns-in-Err-next-clause-again
returns-in-Err-next-clause-again g c tells there =
    let told : IsTrue (g.R.FileResolver.library c.loop-report.self.resolver).tells = rw c.loop-report.invariant.keeps.files.keeps tells in
    let now : is_settled (root_of (g.R.FileResolver.library c.loop-report.self.resolver).resolves c.args.path.now) c.loop-report.self.done ≡ true
    = rw c.loop-report.invariant.keeps.files.keeps
    (settled_later (root_of (g.R.FileResolver.library c.args.self.now.resolver).resolves c.args.path.now) c.args.self.now.done c.loop-report.self.done c.loop-report.invariant.grows there) in
    c.in-Err.ensures.again told now ∙ c.loop-report.invariant.settled tells there

pub returns-in-Err-next-clause-cause : goal.returns-in-Err-next-clause-cause
returns-in-Err-next-clause-cause g c =
    let limit : c.loop-report.self.limit ≡ c.args.self.now.limit = ap (λ s. s.limit) c.loop-report.invariant.keeps.settings in
    let known = rw (c.loop-report.invariant.keeps.files.keeps, limit) at c.in-Err.ensures.cause in
    let P : ErrorKind → Type 0 = λ error. HasOpeningCause c.args.self.now.limit c.args.path.now c.open_file.new.self.done
    (FaultsCause (c.args.tries + 1) (g.R.FileResolver.library c.args.self.now.resolver) (g.R.FileResolver.count c.args.self.now.resolver) (g.R.FileResolver.count c.open_file.new.self.resolver)) error in
    subst P (sym c.in-Err-next.ensures.ends.answer_is)
    (last_cause c.args.self.now.limit c.args.path.now c.open_file.new.self.done (g.R.FileResolver.library c.args.self.now.resolver) (g.R.FileResolver.count c.loop-report.self.resolver)
    (g.R.FileResolver.count c.open_file.new.self.resolver) (g.R.FileResolver.count c.args.self.now.resolver) c.args.tries c.loop-report.left.left c.loop-report.left.lacked c.in-Err.ensures.keeps.files.later
    c.loop-report.invariant.rose c.in-Err.error c.in-Err-next.ensures.ends.last known)

pub loop-report-preserved : goal.loop-report-preserved
loop-report-preserved g c = record {
  keeps = settings_join g.R.FileResolver.library g.R.FileResolver.count c.args.self.now c.loop-report.self c.open_file.new.self c.loop-report.invariant.keeps c.in-Err.ensures.keeps;
  grows = grows_join c.args.self.now.done c.loop-report.self.done c.open_file.new.self.done c.loop-report.invariant.grows c.in-Err.ensures.grows;
  fits = omega (arith, c.loop-report.invariant.fits, c.in_default.ensures.left);
  rose = λ memory.
      let none = neither c.loop-report.left.lacked (lacks_memory c.in-Err.error) (sym c.in_default.ensures.lacked ∙ memory) in
      let more : c.args.tries - c.next.new.self.left ≡ c.args.tries - c.loop-report.left.left + 1 = omega (arith, c.loop-report.invariant.fits, c.in_default.ensures.left) in
      rose_next (c.args.tries - c.loop-report.left.left) (c.args.tries - c.next.new.self.left) (g.R.FileResolver.count c.args.self.now.resolver) (g.R.FileResolver.count c.loop-report.self.resolver)
      (g.R.FileResolver.count c.open_file.new.self.resolver) more (c.loop-report.invariant.rose none.0) c.in-Err.ensures.keeps.files.later
      (fault_rose c.loop-report.self.limit c.args.path.now c.open_file.new.self.done (g.R.FileResolver.library c.loop-report.self.resolver) (g.R.FileResolver.count c.loop-report.self.resolver)
      (g.R.FileResolver.count c.open_file.new.self.resolver) c.in-Err.error c.in_default.ensures.passes none.1 c.in-Err.ensures.cause);
  settled = λ tells there.
      let told : IsTrue (g.R.FileResolver.library c.loop-report.self.resolver).tells = rw c.loop-report.invariant.keeps.files.keeps tells in
      let now : is_settled (root_of (g.R.FileResolver.library c.loop-report.self.resolver).resolves c.args.path.now) c.loop-report.self.done ≡ true
      = rw c.loop-report.invariant.keeps.files.keeps
      (settled_later (root_of (g.R.FileResolver.library c.args.self.now.resolver).resolves c.args.path.now) c.args.self.now.done c.loop-report.self.done c.loop-report.invariant.grows there) in
      c.in-Err.ensures.again told now ∙ c.loop-report.invariant.settled tells there;
  front = λ tells.
      let told : IsTrue (g.R.FileResolver.library c.loop-report.self.resolver).tells = rw c.loop-report.invariant.keeps.files.keeps tells in
      let limit : c.loop-report.self.limit ≡ c.args.self.now.limit = ap (λ s. s.limit) c.loop-report.invariant.keeps.settings in
      let refused = c.tries_are_one.ensures.refused (g.R.FileResolver.library c.args.self.now.resolver).files (g.R.FileResolver.library c.args.self.now.resolver).resolves c.args.self.now.limit c.args.path.now
      c.args.self.now.done c.loop-report.self.done c.open_file.new.self.done c.in-Err.error (c.loop-report.invariant.front tells) c.in-Err.ensures.grows
      (rw (c.loop-report.invariant.keeps.files.keeps, limit) at (c.in-Err.ensures.err told)) in
      (refused.0, refused.1, refused.2.left);
}
