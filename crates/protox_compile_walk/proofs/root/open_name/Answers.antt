use Rattle.std.proofs.Common.{◌∙◌, sym}
use Rattle.protox_file_sources.specs.Causes.{FaultCause}
use Rattle.std.specs.Option.{option_copied}
use Rattle.protox_compile_walk.proofs.Openings.{ok_again, err_again, ok_new, err_new, opening_cause, opens_again, opens_new, longer, report_again, report_new}
use Rattle.protox_compile_walk.proofs.Causes.{shadowed_cause}
use Rattle.protox_compile_walk.proofs.root.open_name.Goals as goal

pub returns-then-contains-clause-ok : goal.returns-then-contains-clause-ok
returns-then-contains-clause-ok g c tells =
    rw (← c.asked_path-asked.ensures) (ok_again (g.R.FileResolver.library c.args.resolver.now).files c.args.limit c.args.name.now (option_copied c.asked_path-asked.result) c.args.done.now _ c.open_again.result (sym c.contains.ensures ∙ c.if-contains.true) c.open_again.ensures.ok)

pub returns-then-contains-clause-err : goal.returns-then-contains-clause-err
returns-then-contains-clause-err g c tells =
    rw (← c.asked_path-asked.ensures) (err_again (g.R.FileResolver.library c.args.resolver.now).files c.args.limit c.args.name.now (option_copied c.asked_path-asked.result) c.args.done.now _ c.args.path.now c.open_again.result (sym c.contains.ensures ∙ c.if-contains.true) c.open_again.ensures.err c.open_again.ensures.refused)

pub returns-in-Ok-clause-ok : goal.returns-in-Ok-clause-ok
returns-in-Ok-clause-ok g c tells =
    rw (← c.asked_path-asked.ensures) (ok_new (g.R.FileResolver.library c.args.resolver.now).files c.args.limit c.args.name.now (option_copied c.asked_path-asked.result) c.args.done.now _ c.visit_root.new.done (sym c.contains.ensures ∙ c.if-contains.false) (c.in-Ok.ensures.ok tells) c.mark.ensures)

pub returns-in-Err-clause-err : goal.returns-in-Err-clause-err
returns-in-Err-clause-err g c tells =
    rw (← c.asked_path-asked.ensures) (err_new (g.R.FileResolver.library c.args.resolver.now).files c.args.limit c.args.name.now (option_copied c.asked_path-asked.result) c.args.done.now _ c.args.path.now c.in-Err.error _ (sym c.contains.ensures ∙ c.if-contains.false) (c.in-Err.ensures.err tells) c.root_error.ensures)

pub returns-in-Err-clause-cause : goal.returns-in-Err-clause-cause
returns-in-Err-clause-cause g c = opening_cause c.args.limit c.args.path.now c.args.resolved _ (FaultCause (g.R.FileResolver.library c.args.resolver.now) (g.R.FileResolver.count c.args.resolver.now) (g.R.FileResolver.count c.visit_root.new.resolver)) c.in-Err.error _ (rw c.asked_path-asked.ensures at c.in-Err.ensures.cause) c.root_error.ensures

pub returns-then-contains-clause-opens : goal.returns-then-contains-clause-opens
returns-then-contains-clause-opens g c = opens_again c.open_again.result c.args.name.now c.args.done.now _ c.requires (sym c.contains.ensures ∙ c.if-contains.true) c.open_again.ensures.marked c.open_again.ensures.report

pub returns-in-Ok-clause-opens : goal.returns-in-Ok-clause-opens
returns-in-Ok-clause-opens g c = opens_new c.args.name.now c.args.done.now c.visit_root.new.done _ c.requires c.visit_root.ensures.grows c.in-Ok.ensures.there c.mark.ensures (sym c.contains.ensures ∙ c.if-contains.false)

pub returns-in-Ok-clause-unread : goal.returns-in-Ok-clause-unread
returns-in-Ok-clause-unread g c same =
    absurd (longer c.args.name.now c.args.done.now c.visit_root.new.done _ (sym c.contains.ensures ∙ c.if-contains.false) c.visit_root.ensures.grows c.in-Ok.ensures.there c.mark.ensures same)

pub returns-then-contains-clause-cause : goal.returns-then-contains-clause-cause
returns-then-contains-clause-cause g c = shadowed_cause c.args.limit c.args.name.now c.args.path.now c.args.resolved _ _ (FaultCause (g.R.FileResolver.library c.args.resolver.now) (g.R.FileResolver.count c.args.resolver.now) (g.R.FileResolver.count c.args.resolver.now)) c.open_again.result (rw c.asked_path-asked.ensures at c.open_again.ensures.refused)

pub returns-then-contains-clause-report : goal.returns-then-contains-clause-report
returns-then-contains-clause-report g c = report_again c.args.name.now c.args.done.now c.open_again.result (sym c.contains.ensures ∙ c.if-contains.true) c.open_again.ensures.report

pub returns-in-Ok-clause-report : goal.returns-in-Ok-clause-report
returns-in-Ok-clause-report g c = report_new c.args.name.now c.args.done.now (sym c.contains.ensures ∙ c.if-contains.false)
