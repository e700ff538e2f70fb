-- Names of synthetic oneofs are free, and no two are the same.
use Rattle.std.proofs.Common.{◌≡◌, ◌≢◌, ℕ, ◌<◌, List, [], ◌∷◌, ◌++◌, Bool, true, false, ◌||◌, refl, sym, ap, ◌∙◌}
use Rattle.std.specs.List.{AllByRecursion, All, AllPairs, Contains, IsDistinct, list_any}
use Rattle.std.specs.Str.{bytes_eq}
use Rattle.std.proofs.lemmas.Bool.{false_from_ne_true, false≢true}
use Rattle.std.proofs.lemmas.Cmp.{nat_list_eq_equiv}
use Rattle.std.proofs.lemmas.Map.Keys.{IsDistinct-cons}
use Rattle.std.proofs.lemmas.Map.Made.{AllPairs-from_IsDistinct}
use Rattle.std.proofs.lemmas.Map.Views.{All-from_any, list_any-from_Contains, Contains-from_any}
use Rattle.std.proofs.lemmas.Slice.Eq.{bytes_eq-Decides}
use Rattle.pbx_parse_translation.specs.Synthetic.{is_among, name_with, fewest_x, free_name, synthetic_names}
use Rattle.pbx_parse_translation.proofs.Free.{fewest_taken, fewest_free, more_taken, last_taken}

-- a name that is taken is none of them
none_taken : (taken fields : List (List ℕ)) (q : List ℕ) → is_among taken q ≡ true → is_among (synthetic_names taken fields) q ≡ true → ⊥
unfolding synthetic_names
none_taken taken [] q t e = false≢true e
none_taken taken (field ∷ fields) q t e = at (none_taken (taken ++ free_name taken field ∷ []) fields q (more_taken taken (free_name taken field) q t)) (bytes_eq q (free_name taken field)) refl e
  where
    at : (is_among (synthetic_names (taken ++ free_name taken field ∷ []) fields) q ≡ true → ⊥) → (b : Bool) → bytes_eq q (free_name taken field) ≡ b → (b || is_among (synthetic_names (taken ++ free_name taken field ∷ []) fields) q) ≡ true → ⊥
    at later true same h = false≢true (sym (fewest_free taken field) ∙ ap (is_among taken) (sym ((bytes_eq-Decides q (free_name taken field)).0 same)) ∙ t)
    at later false other h = later h

each_other : (p : List ℕ → Bool) (xs : List (List ℕ)) → list_any p xs ≡ false → AllByRecursion (λ y. p y ≡ false) xs
each_other p [] e = tt
each_other p (x ∷ xs) e = at (each_other p xs) (p x) refl e
  where
    at : (list_any p xs ≡ false → AllByRecursion (λ y. p y ≡ false) xs) → (b : Bool) → p x ≡ b → (b || list_any p xs) ≡ false → AllByRecursion (λ y. p y ≡ false) (x ∷ xs)
    at later true is h = absurd (false≢true (sym h))
    at later false is h = (is, later h)

are_distinct : (taken fields : List (List ℕ)) → IsDistinct bytes_eq (synthetic_names taken fields)
unfolding synthetic_names IsDistinct
are_distinct taken [] = tt
are_distinct taken (field ∷ fields) =
    let name = free_name taken field in
    let now = taken ++ name ∷ [] in
    let other = false_from_ne_true _ (λ e. none_taken now fields name (last_taken taken name) e) in
    IsDistinct-cons bytes_eq name (synthetic_names now fields) (each_other (bytes_eq name) (synthetic_names now fields) other) (are_distinct now fields)

pub are_free : (taken fields : List (List ℕ)) → All (λ name. Contains taken name → ⊥) (synthetic_names taken fields)
are_free taken fields = All-from_any nat_list_eq_equiv (λ name. Contains taken name → ⊥) (synthetic_names taken fields) (λ q among has. none_taken taken fields q (list_any-from_Contains nat_list_eq_equiv q taken has) among)

pub are_apart : (taken fields : List (List ℕ)) → AllPairs (λ a b. a ≢ b) (synthetic_names taken fields)
are_apart taken fields = AllPairs-from_IsDistinct bytes_eq-Decides (synthetic_names taken fields) (are_distinct taken fields)

pub fewer_taken : (names : List (List ℕ)) (field : List ℕ) (k : ℕ) → k < fewest_x names field → Contains names (name_with k field)
fewer_taken names field k below = Contains-from_any (λ x y. (bytes_eq-Decides x y).0) (name_with k field) names (fewest_taken names field k below)
