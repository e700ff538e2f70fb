use Rattle.std.proofs.Common.{◌∙◌, ◌&&◌, Option, ap}
use Rattle.std.proofs.lemmas.Result.{err_from_is_err_and}
use Rattle.pbx_parse_token.specs.declared.token.Span.{Span}
use Rattle.pbx_parse_tree.specs.declared.tree.Label.{Label}
use Rattle.pbx_parse_tree.specs.Tree.{Kind, Tail, Field}
use Rattle.pbx_parse_tree.specs.Grammar.{kind_then, tail_then}
use Rattle.pbx_parse_tree.specs.Conditions.{label_fits, kind_fits, tail_fits, field_setting_fits}
use Rattle.pbx_parse_tree.specs.View.{kind_of, tail_of}
use Rattle.pbx_parse_reader.proofs.Lists.{both}
use Rattle.pbx_parse_reader.proofs.Begin.{field_begins}
use Rattle.pbx_parse_reader.proofs.fields.field.Goals as goal

pub returns-in_err-kind-clause-only : goal.returns-in_err-kind-clause-only
returns-in_err-kind-clause-only c = λ f rest fit begin e.
    let q = err_from_is_err_and c.from_residual-in_err-kind.result c.from_residual-in_err-kind.ensures.1 in
    let a = both (label_fits c.args.version f.label && kind_fits f.kind) (tail_fits (field_setting_fits f.kind) f.tail) fit in
    let b = both (label_fits c.args.version f.label) (kind_fits f.kind) a.0 in
    let l = c.in_ok-label.ensures.only f.label (kind_then f.kind (tail_then f.tail rest)) b.0 (field_begins f (tail_then f.tail rest) begin) e in
    rw (q.1, q.2) (c.in_err-kind.ensures.only f.kind f.tail rest b.1 a.1 l.1)

pub returns-clause-only : goal.returns-clause-only
returns-clause-only c = λ f rest fit begin e.
    let a = both (label_fits c.args.version f.label && kind_fits f.kind) (tail_fits (field_setting_fits f.kind) f.tail) fit in
    let b = both (label_fits c.args.version f.label) (kind_fits f.kind) a.0 in
    let l = c.in_ok-label.ensures.only f.label (kind_then f.kind (tail_then f.tail rest)) b.0 (field_begins f (tail_then f.tail rest) begin) e in
    let r = c.in_ok-kind.ensures.only f.kind f.tail rest b.1 a.1 l.1 in
    let made : Option (Label × Span) → Kind → Tail → Field = λ x y z. record { label = x; kind = y; tail = z } in
    (ap (λ (x : Option (Label × Span)). made x (kind_of c.in_ok-kind.kind) (tail_of c.in_ok-kind.tail)) l.0 ∙ ap (λ (p : Kind × Tail). made f.label p.0 p.1) r.0, r.1)

pub returns-in_err-label-clause-only : goal.returns-in_err-label-clause-only
returns-in_err-label-clause-only c = λ f rest fit begin e.
    let q = err_from_is_err_and c.from_residual.result c.from_residual.ensures.1 in
    let a = both (label_fits c.args.version f.label && kind_fits f.kind) (tail_fits (field_setting_fits f.kind) f.tail) fit in
    let b = both (label_fits c.args.version f.label) (kind_fits f.kind) a.0 in
    rw (q.1, q.2) (c.in_err-label.ensures.only f.label (kind_then f.kind (tail_then f.tail rest)) b.0 (field_begins f (tail_then f.tail rest) begin) e)
