use Rattle.std.proofs.Common.{◌≡◌, ◌∙◌, ◌++◌, ◌∷◌, [], List, Bool, map, true, false, sym, ap, append_assoc, arith}
use Rattle.std.proofs.lemmas.Result.{err_from_is_err_and}
use Rattle.std.proofs.lemmas.List.{map_push, append-nil}
use Rattle.pbx_parse_tree.specs.declared.tree.Setting.{Setting}
use Rattle.pbx_parse_tree.specs.View.{setting_of}
use Rattle.pbx_parse_tree.specs.Grammar.{list_then}
use Rattle.pbx_parse_reader.specs.Blocks.{Before, nothing, before_of, all_behind}
use Rattle.pbx_parse_reader.specs.View.{left}
use Rattle.pbx_parse_reader.proofs.Lists.{none_then, one_more, ended}
use Rattle.pbx_parse_reader.proofs.Behind.{none_behind, one_behind, begins}
use Rattle.pbx_parse_reader.proofs.blocks.block.Goals as goal

pub each-init : goal.each-init
each-init g c =
    let p = g.P.BlockItem in
    let now = left c.args.cursor.now in
    let empty : map p.view c.new-items.result.items ≡ [] = ap (map p.view) c.new-items.ensures.items in
    let fresh : before_of (record { settings = c.new.result; named = false }) ≡ nothing = ap (λ (xs : List Setting). record { settings = map setting_of xs; named = false }) c.new.ensures.items in
    let whole : List p.Tree → Before → Bool = λ us b. all_behind (p.behind c.args.version) p.after b us in
    record {
      found = none_then p.spelled (λ _. true) p.stop now ∙ ap (λ (xs : List p.Tree). list_then p.spelled xs now) (sym empty);
      fit = λ us e. ap (λ (xs : List p.Tree). whole (xs ++ us) nothing) empty ∙ sym (ap (whole us) fresh) ∙ e;
      only = λ ts rest fit stops e. (ts, ap (λ (xs : List p.Tree). xs ++ ts) (sym empty), ap (whole ts) fresh ∙ fit, e);
      shorter = omega arith;
    }

pub returns-in_err-item-clause-only : goal.returns-in_err-item-clause-only
returns-in_err-item-clause-only g c = λ ts rest fit stops e.
    let p = g.P.BlockItem in
    let q = err_from_is_err_and c.from_residual.result c.from_residual.ensures.1 in
    let o = c.each.invariant.only ts rest fit stops e in
    let going : p.stop (left c.each.cursor) ≡ false = cc in
    let b = begins (p.behind c.args.version) p.after p.spelled p.stop (before_of c.each.seen) o.0 rest (left c.each.cursor) o.2 stops going o.3 in
    rw (q.1, q.2) (c.in_err-item.ensures.only b.first (list_then p.spelled b.others rest) b.fit b.parts)

pub each-preserved : goal.each-preserved
each-preserved g c =
    let p = g.P.BlockItem in
    let front = map p.view c.each.items.items in
    let x = p.view c.in_ok-item.item in
    let after = left c.read_behind.new.cursor in
    let now : map p.view c.add.new.items.items ≡ front ++ x ∷ [] = rw c.in_ok-add.ensures.ok (map_push _ c.each.items.items c.in_ok-item.item) in
    let one = c.in_ok-item.ensures in
    let seen : before_of c.note.new.seen ≡ p.after (before_of c.each.seen) x = c.in_ok-note.ensures.ok in
    let whole : List p.Tree → Before → Bool = λ us b. all_behind (p.behind c.args.version) p.after b us in
    let joined : (us : List p.Tree) → map p.view c.add.new.items.items ++ us ≡ front ++ x ∷ us = λ us. ap (λ (xs : List p.Tree). xs ++ us) now ∙ append_assoc front (x ∷ []) us in
    record {
      found = c.each.invariant.found ∙ ap (list_then p.spelled front) one.found ∙ sym (one_more p.spelled (λ _. true) p.stop front x after) ∙ ap (λ (xs : List p.Tree). list_then p.spelled xs after) (sym now);
      fit = λ us e.
          ap (λ (xs : List p.Tree). whole xs nothing) (joined us)
          ∙ c.each.invariant.fit (x ∷ us) (one_behind (p.behind c.args.version) p.after (before_of c.each.seen) x us one.fit (sym (ap (whole us) seen) ∙ e));
      only = λ ts rest fit stops e.
          let o = c.each.invariant.only ts rest fit stops e in
          let going : p.stop (left c.each.cursor) ≡ false = cc in
          let b = begins (p.behind c.args.version) p.after p.spelled p.stop (before_of c.each.seen) o.0 rest (left c.each.cursor) o.2 stops going o.3 in
          let r = one.only b.first (list_then p.spelled b.others rest) b.fit b.parts in
          let first : o.0 ≡ x ∷ b.others = b.is ∙ ap (λ (y : p.Tree). y ∷ b.others) (sym r.0) in
          let fits : whole b.others (before_of c.note.new.seen) ≡ true = ap (whole b.others) (seen ∙ ap (p.after (before_of c.each.seen)) r.0) ∙ b.others_fit in
          (b.others, o.1 ∙ ap (λ (ys : List p.Tree). front ++ ys) first ∙ sym (joined b.others), fits, r.1);
      shorter = omega (arith, c.each.invariant.shorter, one.shorter);
    }

pub returns-clause-fit : goal.returns-clause-fit
returns-clause-fit g c =
    let p = g.P.BlockItem in
    let front = map p.view c.each.items.items in
    let whole : List p.Tree → Bool = λ us. all_behind (p.behind c.args.version) p.after nothing us in
    ap (λ (xs : List g.row.P.Denot). whole (map p.view xs)) c.shrink_to_fit.ensures.items
    ∙ sym (ap whole (append-nil front))
    ∙ c.each.invariant.fit [] (none_behind (p.behind c.args.version) p.after (before_of c.each.seen))

pub returns-clause-only : goal.returns-clause-only
returns-clause-only g c = λ ts rest fit stops e.
    let p = g.P.BlockItem in
    let o = c.each.invariant.only ts rest fit stops e in
    let over : p.stop (left c.each.cursor) ≡ true = cc in
    let n = ended p.spelled (λ _. true) p.stop c.each-test.ensures.goes o.0 rest (left c.each.cursor) over o.3 in
    let front = map p.view c.each.items.items in
    (ap (map p.view) c.shrink_to_fit.ensures.items ∙ sym (o.1 ∙ ap (λ (ys : List p.Tree). front ++ ys) n.0 ∙ append-nil front), n.1)
