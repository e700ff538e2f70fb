-- What items give, one after the other, and what is seen of it.
use Rattle.std.proofs.Common.{◌≡◌, ℕ, ◌+◌, ◌<◌, ◌≤◌, List, [], ◌∷◌, ◌++◌, length, map, drop, get_or, refl, sym, ap, ◌∙◌, append_assoc, append-nil, add-one, drop-cons}
use Rattle.std.specs.List.{flat_map}
use Rattle.std.proofs.Math.ListN.{drop_of_length-le}
use Rattle.pbx_parse_token.specs.declared.token.Span.{Span}
use Rattle.pbx_parse_tree.specs.declared.tree.Separated.{Separated}
use Rattle.pbx_parse_tree.specs.Tree.{end, all_of}
use Rattle.pbx_parse_tree.specs.View.{next_of, separated_of, BodyItem, plain, nested, all_before}
use Rattle.pbx_parse_translation.specs.Passes.{listed}
use Rattle.pbx_parse_translation.specs.Messages.{body_items}

-- of the views
pub flat_seen : {A B C : Type 0} (f : B → List C) (view : A → B) (xs : List A) → flat_map (λ x. f (view x)) xs ≡ flat_map f (map view xs)
flat_seen f view [] = refl
flat_seen f view (x ∷ xs) = ap (λ ys. f (view x) ++ ys) (flat_seen f view xs)

more_seen : {A B C : Type 0} (f : B → C) (view : A → B) (xs : List (Span × A)) → map (λ x. f (view x)) (map (λ x. x.1) xs) ≡ map f (map (λ x. x.1) (map (next_of view) xs))
more_seen f view [] = refl
more_seen f view (x ∷ xs) = ap (λ ys. f (view x.1) ∷ ys) (more_seen f view xs)

-- of those that stand after marks
pub listed_seen : {A B C : Type 0} (f : B → C) (view : A → B) (s : Separated A) → map (λ x. f (view x)) (listed s) ≡ map f (all_of (separated_of view s))
listed_seen f view s = ap (λ ys. f (view s.first) ∷ ys) (more_seen f view s.more.items)

-- the body of these items has these items
pub body_items_seen : (ps : List BodyItem) → body_items (all_before ps end) ≡ ps
unfolding body_items
body_items_seen [] = refl
body_items_seen (plain i ∷ ps) = ap (λ qs. plain i ∷ qs) (body_items_seen ps)
body_items_seen (nested h inner close ∷ ps) = ap (λ qs. nested h inner close ∷ qs) (body_items_seen ps)

module _ {X Y : Type 0} (f : X → List Y) (xs : List X) (i : ℕ) where
  -- one more item
  pub goes_on : (x : X) (before after total : List Y) → i < length xs → x ≡ get_or xs i x → before ++ flat_map f (drop i xs) ≡ total → after ≡ before ++ f x → after ++ flat_map f (drop (i + 1) xs) ≡ total
  goes_on x before after total below is so_far e =
      let rest = flat_map f (drop (i + 1) xs) in
      let first : flat_map f (drop i xs) ≡ f x ++ rest =
      ap (flat_map f) (drop-cons xs i x below) ∙ ap (λ (k : ℕ). f (get_or xs i x) ++ flat_map f (drop k xs)) (sym (add-one i)) ∙ ap (λ (y : X). f y ++ rest) (sym is) in
      ap (λ ys. ys ++ rest) e ∙ append_assoc before (f x) rest ∙ ap (λ ys. before ++ ys) (sym first) ∙ so_far

  -- no item is left
  pub none_left : (all total : List Y) → length xs ≤ i → all ++ flat_map f (drop i xs) ≡ total → all ≡ total
  none_left all total past so_far = sym (append-nil all) ∙ ap (λ ys. all ++ flat_map f ys) (sym (drop_of_length-le xs past)) ∙ so_far

-- the record of the first item
pub begins : {A R : Type 0} (g : A → R) (s : Separated A) (before after : List R) (r : R) → r ≡ g s.first → after ≡ before ++ r ∷ [] → after ++ map (λ (x : Span × A). g x.1) s.more.items ≡ before ++ map g (listed s)
begins {A} {R} g s before after r e f =
    ap (λ ys. ys ++ map (λ (x : Span × A). g x.1) s.more.items) f
    ∙ append_assoc before (r ∷ []) (map (λ (x : Span × A). g x.1) s.more.items)
    ∙ ap (λ (y : R). before ++ y ∷ map (λ (x : Span × A). g x.1) s.more.items) e
    ∙ ap (λ ys. before ++ g s.first ∷ ys) (mapped s.more.items)
  where
    mapped : (xs : List (Span × A)) → map (λ (x : Span × A). g x.1) xs ≡ map g (map (λ x. x.1) xs)
    mapped [] = refl
    mapped (x ∷ xs) = ap (λ ys. g x.1 ∷ ys) (mapped xs)
