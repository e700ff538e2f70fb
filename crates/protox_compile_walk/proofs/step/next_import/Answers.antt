use Rattle.std.proofs.Common.{◌∙◌, sym, ◌∷◌}
use Rattle.protox_compile_walk.proofs.Causes.{escapes_cause}
use Rattle.protox_compile_walk.proofs.Steps.{ends_duplicate, ends_escapes, ends_circular, ends_memory, skip_leads}
use Rattle.protox_compile_walk.proofs.step.next_import.Goals as goal

pub returns-then-lists_before-clause-err : goal.returns-then-lists_before-clause-err
returns-then-lists_before-clause-err c files limit = ends_duplicate files limit c.args.current.now c.args.parents.now c.args.done.now c.import-name.result.now c.requires c.import-name.ensures _ (sym c.lists_before.ensures ∙ c.if-lists_before.true) c.duplicate.ensures

pub returns-then-escapes-clause-err : goal.returns-then-escapes-clause-err
returns-then-escapes-clause-err c files limit = ends_escapes files limit c.args.current.now c.args.parents.now c.args.done.now c.import-name.result.now c.requires c.import-name.ensures _ (sym c.lists_before.ensures ∙ c.if-lists_before.false) (sym c.escapes.ensures ∙ c.if-escapes.true) c.escaping.ensures

pub returns-then-escapes-clause-cause : goal.returns-then-escapes-clause-cause
returns-then-escapes-clause-cause c limit = escapes_cause limit c.args.done.now (λ _. ⊥) _ _ _ c.import-name.result.now c.escaping.result (sym c.escapes.ensures ∙ c.if-escapes.true) c.escaping.ensures

pub returns-then-is_open-clause-err : goal.returns-then-is_open-clause-err
returns-then-is_open-clause-err c files limit = ends_circular files limit c.args.current.now c.args.parents.now c.args.done.now c.import-name.result.now c.requires c.import-name.ensures _ (sym c.lists_before.ensures ∙ c.if-lists_before.false) (sym c.escapes.ensures ∙ c.if-escapes.false) (sym c.is_open.ensures ∙ c.if-is_open.true) c.circular.ensures

pub returns-then-contains-clause-ok : goal.returns-then-contains-clause-ok
returns-then-contains-clause-ok c files limit = skip_leads files limit c.args.current.now c.args.parents.now c.args.done.now c.import-name.result.now c.requires c.import-name.ensures (sym c.lists_before.ensures ∙ c.if-lists_before.false) (sym c.escapes.ensures ∙ c.if-escapes.false) (sym c.is_open.ensures ∙ c.if-is_open.false) (sym c.contains.ensures ∙ c.if-contains.true)

pub returns-in-Err-clause-err : goal.returns-in-Err-clause-err
returns-in-Err-clause-err c files limit = rw c.from.ensures (ends_memory files limit (c.args.current.now ∷ c.args.parents.now) c.args.done.now)
