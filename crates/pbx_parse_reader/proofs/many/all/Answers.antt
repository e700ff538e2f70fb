use Rattle.std.proofs.Common.{◌≡◌, ◌∙◌, ◌++◌, ◌∷◌, [], List, map, true, false, sym, ap, append_assoc, arith}
use Rattle.std.proofs.lemmas.Result.{err_from_is_err_and}
use Rattle.std.proofs.lemmas.List.{map_push, append-nil}
use Rattle.std.specs.List.{list_all}
use Rattle.pbx_parse_tree.specs.Grammar.{list_then}
use Rattle.pbx_parse_reader.specs.View.{left}
use Rattle.pbx_parse_reader.proofs.Lists.{none_then, one_more, one_more_fits, begins, ended}
use Rattle.pbx_parse_reader.proofs.many.all.Goals as goal

pub each-init : goal.each-init
each-init g c =
    let p = g.P.Production in
    let fits = p.fits c.args.version in
    let stop = g.P.ListItem.stop in
    let now = left c.args.cursor.now in
    let empty : map p.view c.new-items.result.items ≡ [] = ap (map p.view) c.new-items.ensures.items in
    record {
      found = none_then p.spelled fits stop now ∙ ap (λ (xs : List p.Tree). list_then p.spelled xs now) (sym empty);
      fit = ap (list_all fits) empty;
      only = λ free ts rest fit stops e. (ts, ap (λ (xs : List p.Tree). xs ++ ts) (sym empty), fit, e);
      shorter = omega arith;
    }

pub returns-in_err-read-clause-only : goal.returns-in_err-read-clause-only
returns-in_err-read-clause-only g c = λ free ts rest fit stops e.
    let p = g.P.Production in
    let fits = p.fits c.args.version in
    let stop = g.P.ListItem.stop in
    let q = err_from_is_err_and c.from_residual.result c.from_residual.ensures.1 in
    let o = c.each.invariant.only free ts rest fit stops e in
    let going : stop (left c.each.cursor) ≡ false = cc in
    let b = begins p.spelled fits stop o.0 rest (left c.each.cursor) o.2 stops going o.3 in
    let after = list_then p.spelled b.others rest in
    rw (q.1, q.2) (c.in_err-read.ensures.only b.first after b.fit (free after) b.parts)

pub each-preserved : goal.each-preserved
each-preserved g c =
    let p = g.P.Production in
    let fits = p.fits c.args.version in
    let stop = g.P.ListItem.stop in
    let front = map p.view c.each.items.items in
    let x = p.view c.in_ok-read.field-0 in
    let after = left c.read.new.cursor in
    let now : map p.view c.push.new.self.items ≡ front ++ x ∷ [] = rw c.in_ok-push.ensures.items (map_push _ c.each.items.items c.in_ok-read.field-0) in
    let one = c.in_ok-read.ensures in
    record {
      found = c.each.invariant.found ∙ ap (list_then p.spelled front) one.found ∙ sym (one_more p.spelled fits stop front x after) ∙ ap (λ (xs : List p.Tree). list_then p.spelled xs after) (sym now);
      fit = ap (list_all fits) now ∙ one_more_fits p.spelled fits stop front x c.each.invariant.fit one.fit;
      only = λ free ts rest fit stops e.
          let o = c.each.invariant.only free ts rest fit stops e in
          let going : stop (left c.each.cursor) ≡ false = cc in
          let b = begins p.spelled fits stop o.0 rest (left c.each.cursor) o.2 stops going o.3 in
          let then = list_then p.spelled b.others rest in
          let r = one.only b.first then b.fit (free then) b.parts in
          let first : o.0 ≡ x ∷ b.others = b.is ∙ ap (λ (y : p.Tree). y ∷ b.others) (sym r.0) in
          (b.others, o.1 ∙ ap (λ (ys : List p.Tree). front ++ ys) first ∙ sym (append_assoc front (x ∷ []) b.others) ∙ ap (λ (ys : List p.Tree). ys ++ b.others) (sym now), b.others_fit, r.1);
      shorter = omega (arith, c.each.invariant.shorter, one.shorter);
    }

pub returns-clause-only : goal.returns-clause-only
returns-clause-only g c = λ free ts rest fit stops e.
    let p = g.P.Production in
    let fits = p.fits c.args.version in
    let stop = g.P.ListItem.stop in
    let o = c.each.invariant.only free ts rest fit stops e in
    let over : stop (left c.each.cursor) ≡ true = cc in
    let n = ended p.spelled fits stop c.each-test.ensures.goes o.0 rest (left c.each.cursor) over o.3 in
    let front = map p.view c.each.items.items in
    (ap (map p.view) c.shrink_to_fit.ensures.items ∙ sym (o.1 ∙ ap (λ (ys : List p.Tree). front ++ ys) n.0 ∙ append-nil front), n.1)
