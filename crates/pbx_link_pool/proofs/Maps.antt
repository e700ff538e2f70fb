-- Maps before and after items are added under new names, and taken out again.
use Rattle.std.proofs.Common.{◌≡◌, ◌∙◌, ℕ, Bool, true, false, cond, not, ◌||◌, List, [], ◌∷◌, refl, ap, sym, subst}
use Rattle.std.specs.Prelude.{filter, Option, Some, None, Result, Ok, Err, OnOk, OnErr, is_some}
use Rattle.std.specs.List.{list_any}
use Rattle.std.specs.Option.{option_or}
use Rattle.std.specs.Str.{bytes_eq}
use Rattle.std.specs.Cmp.Lexicographic.{bytes_decides}
use Rattle.pbx_link_names.specs.Names.{under, first_under, without_items}
use Rattle.pbx_link_names.specs.declared.name_map.NameMap.{NameMap}
use Rattle.pbx_link_pool.specs.Items.{new_items}
use Rattle.pbx_link_pool.specs.Index.{HasAdded, AreAlikeBut, HasForgotten, FindTheSame}

-- an item has this name
abbrev pub is_named_in : {V : Type 0} → List ℕ → List (List ℕ × V) → Bool
is_named_in q items = list_any (λ x. bytes_eq q x.0) items

-- where an item that is new has the name, nothing is under it
none_at : {V : Type 0} (f : List ℕ → Option V) (q : List ℕ) (items : List (List ℕ × V)) → is_named_in q (filter (λ x. not (is_some (f x.0))) items) ≡ true → f q ≡ None
none_at f q [] h = absurd (cc)
none_at {V} f q (x ∷ xs) h = by_new (f x.0) refl h (none_at f q xs)
  where
    rest : List (List ℕ × V)
    rest = filter (λ y. not (is_some (f y.0))) xs

    by_name : (b : Bool) → bytes_eq q x.0 ≡ b → f x.0 ≡ None → (b || is_named_in q (filter (λ y. not (is_some (f y.0))) xs)) ≡ true
        → (is_named_in q (filter (λ y. not (is_some (f y.0))) xs) ≡ true → f q ≡ None) → f q ≡ None
    by_name true e none h ih = subst (λ (p : List ℕ). f p ≡ None) (sym ((bytes_decides q x.0).0 e)) none
    by_name false e none h ih = ih h

    by_new : (o : Option V) → f x.0 ≡ o → is_named_in q (cond (not (is_some o)) (x ∷ filter (λ y. not (is_some (f y.0))) xs) (filter (λ y. not (is_some (f y.0))) xs)) ≡ true
        → (is_named_in q (filter (λ y. not (is_some (f y.0))) xs) ≡ true → f q ≡ None) → f q ≡ None
    by_new None w h ih = by_name (bytes_eq q x.0) refl w h ih
    by_new (Some v) w h ih = ih h

-- where nothing is under the name, the first item of this name is new
first_new : {V : Type 0} (f : List ℕ → Option V) (q : List ℕ) (items : List (List ℕ × V)) → f q ≡ None → first_under q (filter (λ x. not (is_some (f x.0))) items) ≡ first_under q items
first_new f q [] none = refl
first_new {V} f q (x ∷ xs) none = by_name (bytes_eq q x.0) refl (first_new f q xs none)
  where
    by_new : (o : Option V) → f x.0 ≡ o → bytes_eq q x.0 ≡ false → first_under q (filter (λ y. not (is_some (f y.0))) xs) ≡ first_under q xs
        → first_under q (cond (not (is_some o)) (x ∷ filter (λ y. not (is_some (f y.0))) xs) (filter (λ y. not (is_some (f y.0))) xs)) ≡ first_under q xs
    by_new None w e ih = ap (λ (b : Bool). cond b (Some x.1) (first_under q (filter (λ y. not (is_some (f y.0))) xs))) e ∙ ih
    by_new (Some v) w e ih = ih

    by_name : (b : Bool) → bytes_eq q x.0 ≡ b → first_under q (filter (λ y. not (is_some (f y.0))) xs) ≡ first_under q xs
        → first_under q (cond (not (is_some (f x.0))) (x ∷ filter (λ y. not (is_some (f y.0))) xs) (filter (λ y. not (is_some (f y.0))) xs)) ≡ cond b (Some x.1) (first_under q xs)
    by_name true e ih =
        let here : f x.0 ≡ None = subst (λ (p : List ℕ). f p ≡ None) ((bytes_decides q x.0).0 e) none in
        ap (λ (o : Option V). first_under q (cond (not (is_some o)) (x ∷ filter (λ y. not (is_some (f y.0))) xs) (filter (λ y. not (is_some (f y.0))) xs))) here
        ∙ ap (λ (b : Bool). cond b (Some x.1) (first_under q (filter (λ y. not (is_some (f y.0))) xs))) e
    by_name false e ih = by_new (f x.0) refl e ih

first_at : {V : Type 0} (f : List ℕ → Option V) (q : List ℕ) (items : List (List ℕ × V)) (o : Option V) → f q ≡ o → option_or o (first_under q (filter (λ x. not (is_some (f x.0))) items)) ≡ option_or o (first_under q items)
first_at f q items None w = first_new f q items w
first_at f q items (Some v) w = refl

-- adding those that are new adds all
pub added_new : {V : Type 0} (items : List (List ℕ × V)) (old new : NameMap V) → HasAdded (new_items old items) old new → HasAdded items old new
added_new items old new added q = added q ∙ first_at (λ p. under p old) q items (under q old) refl

not_named : {V : Type 0} (q : List ℕ) (items : List (List ℕ × V)) → is_named_in q items ≡ false → first_under q items ≡ None
not_named q [] h = refl
not_named {V} q (x ∷ xs) h = by_name (bytes_eq q x.0) h (not_named q xs)
  where
    by_name : (b : Bool) → (b || is_named_in q xs) ≡ false → (is_named_in q xs ≡ false → first_under q xs ≡ None) → cond b (Some x.1) (first_under q xs) ≡ None
    by_name true h ih = absurd (cc)
    by_name false h ih = ih h

or_none : {V : Type 0} (o : Option V) → option_or o None ≡ o
or_none None = refl
or_none (Some v) = refl

-- other names keep what is under them, whether the items were added or refused
alike : {U E V : Type 0} (r : Result U E) (items : List (List ℕ × V)) (old new : NameMap V) → OnOk r (HasAdded items old new) → OnErr r (FindTheSame old new) → AreAlikeBut items old new
alike {U} {E} {V} (Ok u) items old new added same q =
    ap (without_items q items) (added q) ∙ by_name (is_named_in q items) refl
  where
    by_name : (b : Bool) → is_named_in q items ≡ b → cond b None (option_or (under q old) (first_under q items)) ≡ cond b None (under q old)
    by_name true e = refl
    by_name false e = ap (option_or (under q old)) (not_named q items e) ∙ or_none (under q old)
alike (Err e) items old new added same q = ap (without_items q items) (same q)

pub alike_after : {U E V : Type 0} (r : Result U E) (items slice : List (List ℕ × V)) (old new : NameMap V) → slice ≡ items → OnOk r (HasAdded slice old new) → OnErr r (FindTheSame old new)
    → AreAlikeBut items old new
alike_after {U} {E} {V} r items slice old new is added same = subst (λ (xs : List (List ℕ × V)). AreAlikeBut xs old new) is (alike r slice old new added same)

-- with what is new taken out again, all is as it was
pub set_back : {V : Type 0} (items : List (List ℕ × V)) (old some new : NameMap V) → AreAlikeBut (new_items old items) old some → HasForgotten (new_items old items) some new → FindTheSame old new
set_back {V} items old some new alike forgotten q = forgotten q ∙ alike q ∙ by_name (is_named_in q (new_items old items)) refl
  where
    by_name : (b : Bool) → is_named_in q (new_items old items) ≡ b → cond b None (under q old) ≡ under q old
    by_name true e = sym (none_at (λ p. under p old) q items e)
    by_name false e = refl
