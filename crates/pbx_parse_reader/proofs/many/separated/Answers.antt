use Rattle.std.proofs.Common.{◌∙◌, List, map, sym, ap}
use Rattle.std.proofs.lemmas.Result.{err_from_is_err_and}
use Rattle.std.proofs.lemmas.List.Folds.{list_all-map}
use Rattle.std.specs.List.{list_all}
use Rattle.pbx_parse_token.specs.declared.token.Span.{Span}
use Rattle.pbx_parse_tree.specs.Tree.{Separated}
use Rattle.pbx_parse_tree.specs.Grammar.{list_then, next_then}
use Rattle.pbx_parse_tree.specs.View.{next_of}
use Rattle.pbx_parse_reader.proofs.Lists.{both, followed, and_true}
use Rattle.pbx_parse_reader.proofs.many.separated.Goals as goal

pub returns-in_err-first-clause-only : goal.returns-in_err-first-clause-only
returns-in_err-first-clause-only g c = λ free t rest fit f stops e.
    let p = g.P.Production in
    let q = err_from_is_err_and c.from_residual.result c.from_residual.ensures.1 in
    let h = both (p.fits c.args.version t.first) (list_all (p.fits c.args.version) (map (λ x. x.1) t.more)) fit in
    let after = list_then (next_then c.args.mark p.spelled) t.more rest in
    rw (q.1, q.2) (c.in_err-first.ensures.only t.first after h.0 (followed c.args.mark p.spelled p.follows free t.more rest f) e)

pub returns-in_err-more-clause-only : goal.returns-in_err-more-clause-only
returns-in_err-more-clause-only g c = λ free t rest fit f stops e.
    let p = g.P.Production in
    let q = err_from_is_err_and c.from_residual-in_err-more.result c.from_residual-in_err-more.ensures.1 in
    let h = both (p.fits c.args.version t.first) (list_all (p.fits c.args.version) (map (λ x. x.1) t.more)) fit in
    let after = list_then (next_then c.args.mark p.spelled) t.more rest in
    let r = c.in_ok-first.ensures.only t.first after h.0 (followed c.args.mark p.spelled p.follows free t.more rest f) e in
    rw (q.1, q.2) (c.in_err-more.ensures.only free t.more rest (sym (list_all-map (p.fits c.args.version) (λ x. x.1) t.more) ∙ h.1) f stops r.1)

pub returns-clause-fit : goal.returns-clause-fit
returns-clause-fit g c =
    let p = g.P.Production in
    let more = map (next_of p.view) c.in_ok-more.more.items in
    and_true c.in_ok-first.ensures.fit (list_all-map (p.fits c.args.version) (λ x. x.1) more ∙ c.in_ok-more.ensures.fit)

pub returns-clause-only : goal.returns-clause-only
returns-clause-only g c = λ free t rest fit f stops e.
    let p = g.P.Production in
    let h = both (p.fits c.args.version t.first) (list_all (p.fits c.args.version) (map (λ x. x.1) t.more)) fit in
    let after = list_then (next_then c.args.mark p.spelled) t.more rest in
    let r = c.in_ok-first.ensures.only t.first after h.0 (followed c.args.mark p.spelled p.follows free t.more rest f) e in
    let n = c.in_ok-more.ensures.only free t.more rest (sym (list_all-map (p.fits c.args.version) (λ x. x.1) t.more) ∙ h.1) f stops r.1 in
    let more = map (next_of p.view) c.in_ok-more.more.items in
    let made : p.Tree → List (Span × p.Tree) → Separated p.Tree = λ first others. record { first = first; more = others } in
    (ap (λ (x : p.Tree). made x more) r.0 ∙ ap (made t.first) n.0, n.1)
