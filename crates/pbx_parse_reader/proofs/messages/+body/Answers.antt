use Rattle.std.proofs.Common.{◌≡◌, ◌∙◌, ◌++◌, ◌∷◌, [], List, ℕ, Bool, Option, Some, None, Result, Ok, Err, IfOk, map, true, false, codes, refl, sym, ap, arith}
use Rattle.std.proofs.lemmas.Result.{err_from_is_err_and}
use Rattle.std.proofs.lemmas.List.{map_push}
use Rattle.pbx_parse_token.specs.declared.token.Span.{Span}
use Rattle.pbx_parse_token.specs.Tokens.{Token}
use Rattle.pbx_parse_tree.specs.declared.tree.Version.{Version}
use Rattle.pbx_parse_tree.specs.declared.tree.Setting as code_setting
use Rattle.pbx_parse_tree.specs.Tree.{Setting, Head, Body, end, Top, empty_top, top_package, top_import, top_message, top_enum, top_extend, top_service, top_option}
use Rattle.pbx_parse_tree.specs.Grammar.{body_then}
use Rattle.pbx_parse_tree.specs.declared.options.OptionPlace.TheVariants as places
use Rattle.pbx_parse_tree.specs.Conditions.{option_fits, all_fit}
use Rattle.pbx_parse_tree.specs.View.{setting_of, BodyItem, plain, nested, item_of, add, all_before, body_of, body_item_setting}
use Rattle.pbx_parse_reader.specs.Blocks.{settings_after}
use Rattle.pbx_parse_reader.specs.Bodies.{body_item_then, body_item_behind, message_fits}
use Rattle.pbx_parse_reader.specs.View.{left, sees_word, ends_block}
use Rattle.pbx_parse_reader.proofs.BodyItems.{body_item_of_message}
use Rattle.pbx_parse_reader.proofs.Steps.{body_behind, before_push, add_then, add_behind, end_then, end_behind, item_sets, begins, ended, nested_fits}
use Rattle.pbx_parse_tree.proofs.AllFit.{none_fit}
use Rattle.pbx_parse_reader.proofs.Judged.{grown as settings_grown}
use Rattle.pbx_parse_reader.proofs.ItemForms.{other, plain_goes}
use Rattle.pbx_parse_reader.proofs.messages.+body.Goals as goal

pub items-each-init : goal.items-each-init
items-each-init t c =
    let behind : List Setting → Body → Bool = λ ss b. body_behind c.args.version c.args.levels ss b in
    let front : map item_of c.new-items.result.items ≡ [] = ap (map item_of) c.new-items.ensures.items in
    let seen : map setting_of c.new-seen.result.items ≡ [] = ap (map setting_of) c.new-seen.ensures.items in
    record {
      found = λ b rest e. e ∙ ap (λ (ps : List BodyItem). body_then (all_before ps b) rest) (sym front);
      fits = λ b f. ap (λ (ps : List BodyItem). message_fits c.args.version c.args.levels (all_before ps b)) front ∙ sym (ap (λ (ss : List Setting). behind ss b) seen) ∙ f;
      set = ap (all_fit (option_fits places.Message)) seen ∙ none_fit (option_fits places.Message);
      only = λ b rest fits stops e. (b, ap (λ (ps : List BodyItem). all_before ps b) (sym front), ap (λ (ss : List Setting). behind ss b) seen ∙ fits, e);
      shorter = omega arith;
    }

pub items-returns-in_err-item-clause-only : goal.items-returns-in_err-item-clause-only
items-returns-in_err-item-clause-only t c = λ b rest fits stops e.
    let q = err_from_is_err_and c.from_residual.result c.from_residual.ensures.1 in
    let o = c.each.invariant.only b rest fits stops e in
    let going : ends_block (left c.each.cursor) ≡ false = cc in
    let before = map setting_of c.as_slice.result.now in
    let behind = ap (λ (xs : List code_setting.Setting). body_behind c.args.version c.args.levels (map setting_of xs) o.0) c.as_slice.ensures.value ∙ o.2 in
    let g = begins c.args.version c.args.levels before o.0 rest (left c.each.cursor) behind stops going o.3 in
    rw (q.1, q.2) (c.in_err-item.ensures.only g.body_item (body_then g.others rest) g.fits g.parts)

pub items-each-preserved : goal.items-each-preserved
items-each-preserved t c =
    let front = map item_of c.each.items.items in
    let i = item_of c.in_ok-item.item in
    let now : map item_of c.add_item.new.items.items ≡ front ++ i ∷ [] = rw c.in_ok-add_item.ensures.item (map_push _ c.each.items.items c.in_ok-item.item) in
    let grown : (b : Body) → all_before (map item_of c.add_item.new.items.items) b ≡ all_before front (add i b) = λ b. ap (λ (ps : List BodyItem). all_before ps b) now ∙ before_push front i b in
    let one = c.in_ok-item.ensures in
    let before = map setting_of c.as_slice.result.now in
    let slice : before ≡ map setting_of c.each.seen.items = ap (map setting_of) c.as_slice.ensures.value in
    let behind : List Setting → Body → Bool = λ ss b. body_behind c.args.version c.args.levels ss b in
    let seen : map setting_of c.add_item.new.seen.items ≡ settings_after before (body_item_setting i) = c.in_ok-add_item.ensures.seen ∙ ap (λ (ss : List Setting). settings_after ss (body_item_setting i)) (sym slice) in
    record {
      found = λ b rest e. c.each.invariant.found (add i b) rest (one.found ∙ ap (body_item_then i) e ∙ sym (add_then i b rest)) ∙ ap (λ (x : Body). body_then x rest) (sym (grown b));
      fits = λ b f.
          ap (message_fits c.args.version c.args.levels) (grown b)
          ∙ c.each.invariant.fits (add i b) (sym (ap (λ (ss : List Setting). behind ss (add i b)) slice) ∙ add_behind c.args.version c.args.levels before i b one.fits (sym (ap (λ (ss : List Setting). behind ss b) seen) ∙ f));
      set = ap (all_fit (option_fits places.Message)) seen
          ∙ settings_grown (option_fits places.Message) before (body_item_setting i) (ap (all_fit (option_fits places.Message)) slice ∙ c.each.invariant.set) (item_sets c.args.version c.args.levels before i one.fits);
      only = λ b rest fits stops e.
          let o = c.each.invariant.only b rest fits stops e in
          let going : ends_block (left c.each.cursor) ≡ false = cc in
          let g = begins c.args.version c.args.levels before o.0 rest (left c.each.cursor) (ap (λ (ss : List Setting). behind ss o.0) slice ∙ o.2) stops going o.3 in
          let r = one.only g.body_item (body_then g.others rest) g.fits g.parts in
          let set : map setting_of c.add_item.new.seen.items ≡ settings_after before (body_item_setting g.body_item) = seen ∙ ap (λ (q : BodyItem). settings_after before (body_item_setting q)) r.0 in
          let others = ap (λ (ss : List Setting). behind ss g.others) set ∙ g.others_fit in
          (g.others, o.1 ∙ ap (all_before front) (g.is ∙ ap (λ (q : BodyItem). add q g.others) (sym r.0)) ∙ sym (grown g.others), others, r.1);
      shorter = omega (arith, c.each.invariant.shorter, one.shorter);
    }

pub items-returns-clause-found : goal.items-returns-clause-found
items-returns-clause-found t c = rw c.shrink_to_fit.ensures.items (c.each.invariant.found end (left c.each.cursor) (end_then (left c.each.cursor)))

pub items-returns-clause-fits : goal.items-returns-clause-fits
items-returns-clause-fits t c = rw c.shrink_to_fit.ensures.items (c.each.invariant.fits end (end_behind c.args.version c.args.levels (map setting_of c.each.seen.items) c.each.invariant.set))

pub items-returns-clause-only : goal.items-returns-clause-only
items-returns-clause-only t c = λ b rest fits stops e.
    let o = c.each.invariant.only b rest fits stops e in
    let over : ends_block (left c.each.cursor) ≡ true = cc in
    let n = ended o.0 rest (left c.each.cursor) over o.3 in
    (ap body_of c.shrink_to_fit.ensures.items ∙ sym (o.1 ∙ ap (all_before (map item_of c.each.items.items)) n.0), n.1)

ok_at : {T E : Type 0} (r : Result T E) (P : T → ℕ → Type 0) (n : ℕ) → IfOk r (λ x. (m : ℕ) → P x m) → IfOk r (λ x. P x n)
ok_at (Ok x) P n h = h n
ok_at (Err e) P n h = h

pub one_item-returns-then-not-sees_word-clause-fits : goal.one_item-returns-then-not-sees_word-clause-fits
one_item-returns-then-not-sees_word-clause-fits t c =
    ok_at c.plain_item.result (λ i n. body_item_behind c.args.version n (map setting_of c.args.seen.now) (item_of i) ≡ true) c.args.levels c.plain_item.ensures.fits

-- a message at the top, as one in a message
as_nested : Top → Option BodyItem
as_nested (empty_top s) = None
as_nested (top_package p) = None
as_nested (top_import i) = None
as_nested (top_message h b close) = Some (nested h b close)
as_nested (top_enum e) = None
as_nested (top_extend e) = None
as_nested (top_service s) = None
as_nested (top_option s) = None

same_nested : (h k : Head) (a b : Body) (s z : Span) → top_message h a s ≡ top_message k b z → nested h a s ≡ nested k b z
unfolding as_nested
same_nested h k a b s z e = let some : Some (nested h a s) ≡ Some (nested k b z) = ap as_nested e in cc

-- what begins as a message and fits is one
nested_at : (v : Version) (levels : ℕ) (before : List Setting) (p : BodyItem) (rest ts : List Token) → sees_word (codes "message") ts ≡ true → body_item_behind v levels before p ≡ true → ts ≡ body_item_then p rest → (x : Head × Body × Span) × (p ≡ nested x.0 x.1 x.2)
nested_at v levels before (plain i) rest ts h fits e = absurd (other (sees_word (codes "message")) ts _ h e (plain_goes v before i rest fits))
nested_at v levels before (nested k b close) rest ts h fits e = ((k, b, close), refl)

pub one_item-returns-in-Ok-clause-only : goal.one_item-returns-in-Ok-clause-only
one_item-returns-in-Ok-clause-only t c = λ p rest fit e.
    let seen : sees_word (codes "message") (left c.args.cursor.now) ≡ true = cc in
    let before = map setting_of c.args.seen.now in
    let x = nested_at c.args.version c.args.levels before p rest (left c.args.cursor.now) seen fit e in
    let fits = sym (nested_fits c.args.version c.args.levels before x.0.0 x.0.1 x.0.2 c.if-levels-eq0.false) ∙ sym (ap (body_item_behind c.args.version c.args.levels before) x.1) ∙ fit in
    let m = c.in-Ok.message in
    let r = c.in-Ok.ensures.only x.0.0 x.0.1 x.0.2 rest fits (e ∙ ap (λ (y : BodyItem). body_item_then y rest) x.1) in
    (body_item_of_message m.head m.items m.close ∙ same_nested _ _ _ _ _ _ r.0 ∙ sym x.1, r.1)
