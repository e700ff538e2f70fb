use Rattle.std.proofs.Common.{◌≡◌, ◌+◌, ◌∙◌, sym, ◌∷◌, ◌++◌, [], IsTrue, false, arith, rules, length, ap, refl}
use Rattle.std.proofs.lemmas.List.{length_push}
use Rattle.std.proofs.lemmas.Result.{err_from_is_err_and}
use Rattle.protox_io.proofs.Counts.{later_again}
use Rattle.protox_file_sources.specs.Library.{Library}
use Rattle.protox_file_sources.specs.Causes.{FaultCause}
use Rattle.protox_compile_walk.specs.Walk.{done_as, is_done}
use Rattle.protox_compile_walk.specs.Resume.{past, IsVisit}
use Rattle.protox_compile_walk.proofs.Fresh.{on_err, fresh_root, fresh_top, fresh_finish, fresh_visit, root_done}
use Rattle.protox_compile_walk.proofs.Extends.{grows_push}
use Rattle.protox_compile_walk.proofs.Steps.{finish_leads, ends_memory}
use Rattle.protox_compile_walk.proofs.Walks.{step_cause_later, advance_leads, to_visit, unlinked_ends, unlinked_cause, same_stack, fresh_next, ends_finished, ends_later, leads_later}
use Rattle.protox_compile_walk.proofs.walk.finish_all.Goals as goal

pub returns-in-Err-clause-root : goal.returns-in-Err-clause-root
returns-in-Err-clause-root g c = fresh_root _ c.walk.current _ _ c.walk.invariant.fresh

pub returns-in-Err-clause-cause : goal.returns-in-Err-clause-cause
returns-in-Err-clause-cause g c = step_cause_later c.args.limit c.walk.done (λ _. ⊥) (FaultCause (g.R.FileResolver.library c.args.resolver.now) (g.R.FileResolver.count c.args.resolver.now) (g.R.FileResolver.count c.walk.resolver)) c.in-Err.error (λ e no. absurd no) (c.in-Err.ensures.cause c.args.limit)

pub returns-in-Err-clause-err : goal.returns-in-Err-clause-err
returns-in-Err-clause-err g c tells = λ root walk follows. c.in-Err.ensures.err (g.R.FileResolver.library c.args.resolver.now).files c.args.limit root walk (c.walk.invariant.leads tells walk follows)

pub returns-in-Err-open_import-clause-root : goal.returns-in-Err-open_import-clause-root
returns-in-Err-open_import-clause-root g c = fresh_root _ c.walk.current _ _ c.walk.invariant.fresh

pub returns-in-Err-open_import-clause-err : goal.returns-in-Err-open_import-clause-err
returns-in-Err-open_import-clause-err g c tells =
    let told : IsTrue (g.R.FileResolver.library c.walk.resolver).tells = rw c.walk.invariant.keeps tells in
    λ root walk follows. ends_later (g.R.FileResolver.library c.args.resolver.now).files (g.R.FileResolver.library c.walk.resolver).files c.args.limit (c.walk.current ∷ c.walk.parents) c.walk.done c.walk.done _ (ap (λ (l : Library). l.files) c.walk.invariant.keeps) (c.in-Err-open_import.ensures.err told) root walk (c.walk.invariant.leads tells walk follows)

pub walk-preserved-in-Ok-Finished : goal.walk-preserved-in-Ok-Finished
walk-preserved-in-Ok-Finished g c =
    let next : c.advance.new.self ≡ past c.walk.current = c.advance.ensures in
    record {
      keeps = c.walk.invariant.keeps;
      later = c.walk.invariant.later;
      leads = λ tells walk follows.
          same_stack (g.R.FileResolver.library c.args.resolver.now).files walk c.args.limit (past c.walk.current ∷ c.walk.parents) (c.advance.new.self ∷ c.walk.parents) c.walk.done (ap (λ f. f ∷ c.walk.parents) (sym next))
          (advance_leads c.walk.current c.walk.parents c.walk.done c.in-Ok-Finished.field-0 (g.R.FileResolver.library c.args.resolver.now).files c.args.limit c.in-Ok-Finished.field-0-is c.in-Ok-Finished.ensures.ok walk (c.walk.invariant.leads tells walk follows));
      fresh = fresh_next c.args.root.name c.walk.current c.advance.new.self c.walk.parents c.walk.done next c.walk.invariant.fresh;
      grows = c.walk.invariant.grows;
      room = c.walk.invariant.room;
    }

pub walk-preserved-in-Ok-Visit : goal.walk-preserved-in-Ok-Visit
walk-preserved-in-Ok-Visit g c =
    let pushed : c.suspend.new.parents ≡ past c.walk.current ∷ c.walk.parents = search rules in
    let visit : IsVisit c.walk.current c.walk.parents c.walk.done c.in-Ok-Visit.name = to_visit c.walk.current c.walk.parents c.walk.done c.in-Ok-Visit.field-0 c.in-Ok-Visit.name c.in-Ok-Visit.field-0-is c.in-Ok-Visit.ensures.ok in
    let named : c.in-Ok.child.name ≡ c.in-Ok-Visit.name = c.in-Ok.ensures.fresh.0 ∙ c.as_str.ensures in
    let same : (IsTrue (g.R.FileResolver.library c.args.resolver.now).tells) → IsTrue (g.R.FileResolver.library c.walk.resolver).tells = λ tells. rw c.walk.invariant.keeps tells in
    record {
      keeps = c.in-Ok.ensures.keeps ∙ c.walk.invariant.keeps;
      later = later_again _ _ _ c.walk.invariant.later c.in-Ok.ensures.later;
      leads = λ tells walk follows.
          same_stack (g.R.FileResolver.library c.args.resolver.now).files walk c.args.limit (c.in-Ok.child ∷ past c.walk.current ∷ c.walk.parents) (c.in-Ok.child ∷ c.suspend.new.parents) c.walk.done (ap (λ fs. c.in-Ok.child ∷ fs) (sym pushed))
          (leads_later (g.R.FileResolver.library c.args.resolver.now).files (g.R.FileResolver.library c.walk.resolver).files c.args.limit (c.walk.current ∷ c.walk.parents) (c.in-Ok.child ∷ past c.walk.current ∷ c.walk.parents) c.walk.done c.walk.done (ap (λ (l : Library). l.files) c.walk.invariant.keeps) (c.in-Ok.ensures.child (same tells)) walk (c.walk.invariant.leads tells walk follows));
      fresh = fresh_visit _ c.in-Ok-Visit.name c.in-Ok.child c.walk.current c.walk.parents c.suspend.new.parents c.walk.done pushed named visit c.walk.invariant.fresh;
      grows = c.walk.invariant.grows;
      room = omega (arith, ap length pushed, c.in-Ok.ensures.room);
    }

pub walk-preserved : goal.walk-preserved
walk-preserved g c =
    let grown : c.finish.new.self ≡ c.walk.done ++ done_as c.walk.done c.walk.current.name c.walk.current.entry ∷ [] = c.in_ok-finish.ensures.ok in
    let popped : c.walk.parents ≡ c.in-Some.parent ∷ c.pop.new.self = c.in-Some.ensures in
    let longer : length (c.walk.done ++ done_as c.walk.done c.walk.current.name c.walk.current.entry ∷ []) ≡ length c.walk.done + 1 = length_push c.walk.done (done_as c.walk.done c.walk.current.name c.walk.current.entry) in
    record {
      keeps = c.walk.invariant.keeps;
      later = c.walk.invariant.later;
      leads = λ tells walk follows.
          same_stack (g.R.FileResolver.library c.args.resolver.now).files walk c.args.limit c.walk.parents (c.in-Some.parent ∷ c.pop.new.self) c.finish.new.self popped
          (finish_leads (g.R.FileResolver.library c.args.resolver.now).files c.args.limit c.walk.current c.walk.parents c.walk.done c.finish.new.self (sym c.has_next.ensures ∙ c.if-has_next.false) c.in_ok-finish.ensures.linked grown walk (c.walk.invariant.leads tells walk follows));
      fresh = fresh_finish _ c.walk.current c.in-Some.parent c.pop.new.self c.walk.parents c.walk.done _ popped grown c.walk.invariant.fresh;
      grows = grows_push c.args.done.now c.walk.done c.finish.new.self (done_as c.walk.done c.walk.current.name c.walk.current.entry) c.walk.invariant.grows grown refl;
      room = omega (arith, ap length grown, ap length popped, longer, c.walk.invariant.room);
    }

pub returns-then-is_err-clause-root : goal.returns-then-is_err-clause-root
returns-then-is_err-clause-root g c = fresh_root _ c.walk.current _ _ c.walk.invariant.fresh

pub returns-then-is_err-clause-err : goal.returns-then-is_err-clause-err
returns-then-is_err-clause-err g c tells root walk follows =
    rw c.from.ensures (ends_memory (g.R.FileResolver.library c.args.resolver.now).files c.args.limit (c.walk.current ∷ c.walk.parents) c.walk.done root walk (c.walk.invariant.leads tells walk follows))

pub returns-in_err-finish-clause-root : goal.returns-in_err-finish-clause-root
returns-in_err-finish-clause-root g c =
    let kept : is_done c.finish.new.self c.args.root.name ≡ false = rw c.in_err-finish.ensures.err (fresh_root _ c.walk.current _ _ c.walk.invariant.fresh) in
    on_err _ kept

pub returns-in_err-finish-clause-err : goal.returns-in_err-finish-clause-err
returns-in_err-finish-clause-err g c tells =
    let p = err_from_is_err_and c.from_residual.result c.from_residual.ensures.1 in
    rw (p.1, p.2, c.in_err-finish.ensures.err) (λ root walk follows. unlinked_ends (g.R.FileResolver.library c.args.resolver.now).files c.args.limit c.walk.current c.walk.parents c.walk.done _ (sym c.has_next.ensures ∙ c.if-has_next.false) c.in_err-finish.ensures.refused root walk (c.walk.invariant.leads tells walk follows))

pub returns-in_err-finish-clause-cause : goal.returns-in_err-finish-clause-cause
returns-in_err-finish-clause-cause g c =
    let p = err_from_is_err_and c.from_residual.result c.from_residual.ensures.1 in
    rw (p.1, p.2, c.in_err-finish.ensures.err)
    (unlinked_cause c.args.limit c.walk.done (FaultCause (g.R.FileResolver.library c.args.resolver.now) (g.R.FileResolver.count c.args.resolver.now) (g.R.FileResolver.count c.walk.resolver)) c.walk.current _ (fresh_top _ c.walk.current _ _ c.walk.invariant.fresh) c.in_err-finish.ensures.declared c.in_err-finish.ensures.refused)

pub returns-in-None-clause-grows : goal.returns-in-None-clause-grows
returns-in-None-clause-grows g c = grows_push c.args.done.now c.walk.done c.finish.new.self (done_as c.walk.done c.walk.current.name c.walk.current.entry) c.walk.invariant.grows c.in_ok-finish.ensures.ok refl

pub returns-in-None-clause-there : goal.returns-in-None-clause-there
returns-in-None-clause-there g c = root_done c.args.root.name c.walk.current c.walk.parents c.walk.done c.finish.new.self c.in-None.ensures.0 c.in_ok-finish.ensures.ok c.walk.invariant.fresh

pub returns-in-None-clause-ok : goal.returns-in-None-clause-ok
returns-in-None-clause-ok g c tells walk follows =
    let grown : c.finish.new.self ≡ c.walk.done ++ done_as c.walk.done c.walk.current.name c.walk.current.entry ∷ [] = c.in_ok-finish.ensures.ok in
    let e : c.walk.parents ≡ [] = c.in-None.ensures.0 in
    ends_finished (g.R.FileResolver.library c.args.resolver.now).files walk c.args.limit c.walk.parents c.finish.new.self e
    (finish_leads (g.R.FileResolver.library c.args.resolver.now).files c.args.limit c.walk.current c.walk.parents c.walk.done c.finish.new.self (sym c.has_next.ensures ∙ c.if-has_next.false) c.in_ok-finish.ensures.linked grown walk (c.walk.invariant.leads tells walk follows))
