use Rattle.std.proofs.Common.{◌≡◌, ◌∙◌, ◌++◌, ◌∷◌, [], List, Bool, map, not, true, false, sym, ap, append_assoc, arith}
use Rattle.std.proofs.lemmas.Result.{err_from_is_err_and}
use Rattle.std.proofs.lemmas.List.{map_push, append-nil}
use Rattle.pbx_parse_token.specs.declared.token.Span.{Span}
use Rattle.pbx_parse_token.specs.Tokens.{Token}
use Rattle.pbx_parse_tree.specs.Tree.{Setting}
use Rattle.pbx_parse_tree.specs.Conditions.{all_fit}
use Rattle.pbx_parse_tree.specs.Fits.{allowed as allowed_of}
use Rattle.pbx_parse_tree.specs.Grammar.{list_then, next_then, setting_then}
use Rattle.pbx_parse_tree.specs.View.{setting_of, next_of}
use Rattle.pbx_parse_tree.specs.declared.tree.Setting as code_setting
use Rattle.pbx_parse_reader.specs.View.{left, sees_mark}
use Rattle.pbx_parse_reader.proofs.Begin.{all_names}
use Rattle.pbx_parse_reader.proofs.Lists.{none_then, one_more, begins, ended, goes_on}
use Rattle.pbx_parse_reader.proofs.Bracketed.{listed, first_fits, one_more_listed, one_more_set, next_may_follow}
use Rattle.pbx_parse_reader.proofs.parts.more_settings.Goals as goal

abbrev spelled : Span × Setting → List Token → List Token
spelled = next_then 44 setting_then

abbrev any : Span × Setting → Bool
any x = true

abbrev stop : List Token → Bool
stop ts = not (sees_mark 44 ts)

pub each-init : goal.each-init
each-init c =
    let now = left c.args.cursor.now in
    let first = setting_of c.args.first in
    let empty : map (next_of setting_of) c.new-more.result.items ≡ [] = ap (map (next_of setting_of)) c.new-more.ensures.items in
    let one : listed first (map (next_of setting_of) c.new-more.result.items) ≡ first ∷ [] = ap (listed first) empty in
    record {
      found = none_then spelled any stop now ∙ ap (λ (xs : List (Span × Setting)). list_then spelled xs now) (sym empty);
      seen = ap (λ (xs : List code_setting.Setting). map setting_of xs ++ first ∷ []) c.new-seen.ensures.items ∙ sym one;
      fit = ap (all_fit (allowed_of c.args.allowed)) one ∙ first_fits (allowed_of c.args.allowed) first c.requires;
      only = λ xs rest fit stops e. (xs, ap (λ (ys : List (Span × Setting)). ys ++ xs) (sym empty), e);
      shorter = omega arith;
    }

pub each-preserved : goal.each-preserved
each-preserved c =
    let allowed = allowed_of c.args.allowed in
    let first = setting_of c.args.first in
    let front = map (next_of setting_of) c.each.more.items in
    let x = next_of setting_of c.in_ok-next.next in
    let after = left c.next_setting.new.cursor in
    let now : map (next_of setting_of) c.add-in-each.new.items.items ≡ front ++ x ∷ [] = rw c.in_ok-add-2.ensures.ok (map_push _ c.each.more.items c.in_ok-next.next) in
    let pushed : map setting_of c.add.new.items.items ≡ listed first front = rw c.in_ok-add.ensures.ok (map_push _ c.each.seen.items c.each.last) ∙ c.each.invariant.seen in
    let seen : map setting_of c.as_slice.result.now ≡ listed first front = ap (map setting_of) c.as_slice.ensures.value ∙ pushed in
    let one = c.in_ok-next.ensures in
    record {
      found = c.each.invariant.found ∙ ap (list_then spelled front) one.found ∙ sym (one_more spelled any stop front x after) ∙ ap (λ (xs : List (Span × Setting)). list_then spelled xs after) (sym now);
      seen = ap (λ (ss : List Setting). ss ++ x.1 ∷ []) pushed ∙ sym (ap (listed first) now ∙ one_more_listed first front x);
      fit = ap (λ (xs : List (Span × Setting)). all_fit allowed (listed first xs)) now ∙ one_more_set allowed first front x (map setting_of c.as_slice.result.now) seen c.each.invariant.fit one.fits;
      only = λ xs rest fit stops e.
          let o = c.each.invariant.only xs rest fit stops e in
          let going : sees_mark 44 (left c.each.cursor) ≡ true = cc in
          let b = begins spelled any stop o.0 rest (left c.each.cursor) (all_names o.0) (ap not stops) (ap not going) o.2 in
          let parts : xs ≡ front ++ b.first ∷ b.others = o.1 ∙ ap (λ (ys : List (Span × Setting)). front ++ ys) b.is in
          let r = one.only b.first (list_then spelled b.others rest) (next_may_follow allowed first front b.first b.others xs (map setting_of c.as_slice.result.now) parts fit seen) b.parts in
          let same : front ++ b.first ∷ b.others ≡ front ++ x ∷ b.others = ap (λ (y : Span × Setting). front ++ y ∷ b.others) (sym r.0) in
          (b.others, parts ∙ same ∙ sym (append_assoc front (x ∷ []) b.others) ∙ ap (λ (ys : List (Span × Setting)). ys ++ b.others) (sym now), r.1);
      shorter = omega (arith, c.each.invariant.shorter, one.shorter);
    }

pub returns-in_err-next-clause-only : goal.returns-in_err-next-clause-only
returns-in_err-next-clause-only c = λ xs rest fit stops e.
    let allowed = allowed_of c.args.allowed in
    let first = setting_of c.args.first in
    let front = map (next_of setting_of) c.each.more.items in
    let q = err_from_is_err_and c.from_residual-in_err-next.result c.from_residual-in_err-next.ensures.1 in
    let pushed : map setting_of c.add.new.items.items ≡ listed first front = rw c.in_ok-add.ensures.ok (map_push _ c.each.seen.items c.each.last) ∙ c.each.invariant.seen in
    let seen : map setting_of c.as_slice.result.now ≡ listed first front = ap (map setting_of) c.as_slice.ensures.value ∙ pushed in
    let o = c.each.invariant.only xs rest fit stops e in
    let going : sees_mark 44 (left c.each.cursor) ≡ true = cc in
    let b = begins spelled any stop o.0 rest (left c.each.cursor) (all_names o.0) (ap not stops) (ap not going) o.2 in
    let parts : xs ≡ front ++ b.first ∷ b.others = o.1 ∙ ap (λ (ys : List (Span × Setting)). front ++ ys) b.is in
    rw (q.1, q.2) (c.in_err-next.ensures.only b.first (list_then spelled b.others rest) (next_may_follow allowed first front b.first b.others xs (map setting_of c.as_slice.result.now) parts fit seen) b.parts)

pub returns-clause-only : goal.returns-clause-only
returns-clause-only c = λ xs rest fit stops e.
    let front = map (next_of setting_of) c.each.more.items in
    let o = c.each.invariant.only xs rest fit stops e in
    let over : sees_mark 44 (left c.each.cursor) ≡ false = cc in
    let n = ended spelled any stop (goes_on 44 setting_then stop) o.0 rest (left c.each.cursor) (ap not over) o.2 in
    (ap (map (next_of setting_of)) c.shrink_to_fit.ensures.items ∙ sym (o.1 ∙ ap (λ (ys : List (Span × Setting)). front ++ ys) n.0 ∙ append-nil front), n.1)
