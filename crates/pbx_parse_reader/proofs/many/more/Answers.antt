use Rattle.std.proofs.Common.{◌≡◌, ◌∙◌, ◌++◌, ◌∷◌, [], List, Bool, map, not, true, false, sym, ap, append_assoc, arith}
use Rattle.std.proofs.lemmas.Result.{err_from_is_err_and}
use Rattle.std.proofs.lemmas.List.{map_push, append-nil}
use Rattle.std.specs.List.{list_all}
use Rattle.pbx_parse_token.specs.declared.token.Span.{Span}
use Rattle.pbx_parse_token.specs.Tokens.{Token}
use Rattle.pbx_parse_tree.specs.Grammar.{list_then, next_then}
use Rattle.pbx_parse_tree.specs.View.{next_of}
use Rattle.pbx_parse_reader.specs.View.{left, sees_mark, next_fits}
use Rattle.pbx_parse_reader.proofs.Lists.{none_then, one_more, one_more_fits, begins, ended, followed, goes_on}
use Rattle.pbx_parse_reader.proofs.many.more.Goals as goal

pub each-init : goal.each-init
each-init g c =
    let p = g.P.Production in
    let fits = next_fits p.fits c.args.version in
    let spelled = next_then c.args.mark p.spelled in
    let now = left c.args.cursor.now in
    let empty : map (next_of p.view) c.new-items.result.items ≡ [] = ap (map (next_of p.view)) c.new-items.ensures.items in
    record {
      found = none_then spelled fits (λ _. true) now ∙ ap (λ (xs : List (Span × p.Tree)). list_then spelled xs now) (sym empty);
      fit = ap (list_all fits) empty;
      only = λ free ts rest fit f stops e. (ts, ap (λ (xs : List (Span × p.Tree)). xs ++ ts) (sym empty), fit, e);
      shorter = omega arith;
    }

pub returns-in_err-next-clause-only : goal.returns-in_err-next-clause-only
returns-in_err-next-clause-only g c = λ free ts rest fit f stops e.
    let p = g.P.Production in
    let fits = next_fits p.fits c.args.version in
    let spelled = next_then c.args.mark p.spelled in
    let stop : List Token → Bool = λ ts. not (sees_mark c.args.mark ts) in
    let q = err_from_is_err_and c.from_residual.result c.from_residual.ensures.1 in
    let o = c.each.invariant.only free ts rest fit f stops e in
    let going : sees_mark c.args.mark (left c.each.cursor) ≡ true = cc in
    let b = begins spelled fits stop o.0 rest (left c.each.cursor) o.2 (ap not stops) (ap not going) o.3 in
    let after = list_then spelled b.others rest in
    rw (q.1, q.2) (c.in_err-next.ensures.only b.first after b.fit (followed c.args.mark p.spelled p.follows free b.others rest f) b.parts)

pub each-preserved : goal.each-preserved
each-preserved g c =
    let p = g.P.Production in
    let fits = next_fits p.fits c.args.version in
    let spelled = next_then c.args.mark p.spelled in
    let stop : List Token → Bool = λ ts. not (sees_mark c.args.mark ts) in
    let front = map (next_of p.view) c.each.items.items in
    let x = next_of p.view c.in_ok-next.field-0 in
    let after = left c.next.new.cursor in
    let now : map (next_of p.view) c.push.new.self.items ≡ front ++ x ∷ [] = rw c.in_ok-push.ensures.items (map_push _ c.each.items.items c.in_ok-next.field-0) in
    let one = c.in_ok-next.ensures in
    record {
      found = c.each.invariant.found ∙ ap (list_then spelled front) one.found ∙ sym (one_more spelled fits stop front x after) ∙ ap (λ (xs : List (Span × p.Tree)). list_then spelled xs after) (sym now);
      fit = ap (list_all fits) now ∙ one_more_fits spelled fits stop front x c.each.invariant.fit one.fit;
      only = λ free ts rest fit f stops e.
          let o = c.each.invariant.only free ts rest fit f stops e in
          let going : sees_mark c.args.mark (left c.each.cursor) ≡ true = cc in
          let b = begins spelled fits stop o.0 rest (left c.each.cursor) o.2 (ap not stops) (ap not going) o.3 in
          let r = one.only b.first (list_then spelled b.others rest) b.fit (followed c.args.mark p.spelled p.follows free b.others rest f) b.parts in
          let first : o.0 ≡ x ∷ b.others = b.is ∙ ap (λ (y : Span × p.Tree). y ∷ b.others) (sym r.0) in
          (b.others, o.1 ∙ ap (λ (ys : List (Span × p.Tree)). front ++ ys) first ∙ sym (append_assoc front (x ∷ []) b.others) ∙ ap (λ (ys : List (Span × p.Tree)). ys ++ b.others) (sym now), b.others_fit, r.1);
      shorter = omega (arith, c.each.invariant.shorter, one.shorter);
    }

pub returns-clause-only : goal.returns-clause-only
returns-clause-only g c = λ free ts rest fit f stops e.
    let p = g.P.Production in
    let fits = next_fits p.fits c.args.version in
    let spelled = next_then c.args.mark p.spelled in
    let stop : List Token → Bool = λ ts. not (sees_mark c.args.mark ts) in
    let o = c.each.invariant.only free ts rest fit f stops e in
    let over : sees_mark c.args.mark (left c.each.cursor) ≡ false = cc in
    let n = ended spelled fits stop (goes_on c.args.mark p.spelled p.follows) o.0 rest (left c.each.cursor) (ap not over) o.3 in
    let front = map (next_of p.view) c.each.items.items in
    (ap (map (next_of p.view)) c.shrink_to_fit.ensures.items ∙ sym (o.1 ∙ ap (λ (ys : List (Span × p.Tree)). front ++ ys) n.0 ∙ append-nil front), n.1)
