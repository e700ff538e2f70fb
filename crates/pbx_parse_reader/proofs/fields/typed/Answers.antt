use Rattle.std.proofs.Common.{◌∙◌, refl, ap}
use Rattle.std.proofs.lemmas.Result.{err_from_is_err_and}
use Rattle.pbx_parse_tree.specs.Tree.{Kind, Tail}
use Rattle.pbx_parse_tree.specs.Grammar.{tail_then}
use Rattle.pbx_parse_tree.specs.Conditions.{tail_fits, field_setting_fits}
use Rattle.pbx_parse_tree.specs.View.{tail_of}
use Rattle.pbx_parse_reader.proofs.fields.typed.Goals as goal

pub returns-in_err-tail-clause-only : goal.returns-in_err-tail-clause-only
returns-in_err-tail-clause-only c = λ k t rest fit fits e.
    let q = err_from_is_err_and c.from_residual-in_err-tail.result c.from_residual-in_err-tail.ensures.1 in
    let r = c.in_ok-kind.ensures.only k (tail_then t rest) fit refl e in
    rw (q.1, q.2) (c.in_err-tail.ensures.only t rest (ap (λ (x : Kind). tail_fits (field_setting_fits x) t) r.0 ∙ fits) r.1)

pub returns-clause-only : goal.returns-clause-only
returns-clause-only c = λ k t rest fit fits e.
    let r = c.in_ok-kind.ensures.only k (tail_then t rest) fit refl e in
    let n = c.in_ok-tail.ensures.only t rest (ap (λ (x : Kind). tail_fits (field_setting_fits x) t) r.0 ∙ fits) r.1 in
    let made : Kind → Tail → Kind × Tail = λ x y. (x, y) in
    (ap (λ (x : Kind). made x (tail_of c.in_ok-tail.tail)) r.0 ∙ ap (made k) n.0, n.1)
