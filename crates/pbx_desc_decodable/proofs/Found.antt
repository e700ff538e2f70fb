-- What is found among elements, and its place.
use Rattle.std.proofs.Common.{◌≡◌, ◌∙◌, ◌+◌, ◌<◌, ◌≤◌, ℕ, List, [], ◌∷◌, Bool, true, false, cond, not, nat_lt, length, Some, None, find, position, slice_get, refl, ap, sym, arith, lt-ltb, le-ltb, ltb-false}
use Rattle.std.specs.List.{position_or_len}
use Rattle.std.proofs.lemmas.List.Folds.{find_at}
use Rattle.std.proofs.lemmas.Option.{slice_get_past}

within : {X : Type 0} (p : X → Bool) (xs : List X) (d : X) → find p xs ≡ Some d → position_or_len p xs < length xs
within p [] d e = absurd (cc)
within p (x ∷ xs) d e = at (p x) e (within p xs d)
  where
    at : (b : Bool) → cond b (Some x) (find p xs) ≡ Some d → (find p xs ≡ Some d → position_or_len p xs < length xs)
        → cond (not b) (1 + position_or_len p xs) 0 < length (x ∷ xs)
    at true k more = omega arith
    at false k more = let rest = more k in omega (arith, rest)

-- what is found has a place
pub has_place : {X : Type 0} (p : X → Bool) (xs : List X) (d : X) → find p xs ≡ Some d → (t : ℕ) × (position p xs ≡ Some t)
has_place p xs d e = let here = within p xs d e in (position_or_len p xs, rw (lt-ltb _ _ here) refl)

-- without a place nothing is found
pub none_found : {X : Type 0} (p : X → Bool) (xs : List X) → position p xs ≡ None → find p xs ≡ None
none_found p xs e = at (nat_lt (position_or_len p xs) (length xs)) refl e
  where
    at : (b : Bool) → nat_lt (position_or_len p xs) (length xs) ≡ b → cond b (Some (position_or_len p xs)) None ≡ None → find p xs ≡ None
    at true h k = absurd (cc)
    at false h k = find_at p xs ∙ slice_get_past xs _ (ltb-false _ _ h)

-- at its place stands what is found
pub found_at : {X : Type 0} (p : X → Bool) (xs : List X) (i : ℕ) → position p xs ≡ Some i → slice_get xs i ≡ find p xs
found_at p xs i e = at (nat_lt (position_or_len p xs) (length xs)) e
  where
    at : (b : Bool) → cond b (Some (position_or_len p xs)) None ≡ Some i → slice_get xs i ≡ find p xs
    at true k = (let same : i ≡ position_or_len p xs = cc in ap (slice_get xs) same ∙ sym (find_at p xs))
    at false k = absurd (cc)

passed : {X : Type 0} (p : X → Bool) (xs : List X) → find p xs ≡ None → length xs ≤ position_or_len p xs
passed p [] e = omega arith
passed p (x ∷ xs) e = at (p x) e (passed p xs)
  where
    at : (b : Bool) → cond b (Some x) (find p xs) ≡ None → (find p xs ≡ None → length xs ≤ position_or_len p xs)
        → length (x ∷ xs) ≤ cond (not b) (1 + position_or_len p xs) 0
    at true k more = absurd (cc)
    at false k more = let rest = more k in omega (arith, rest)

-- what is not found has no place
pub no_place : {X : Type 0} (p : X → Bool) (xs : List X) → find p xs ≡ None → position p xs ≡ None
no_place p xs e = let past = passed p xs e in rw (le-ltb _ _ past) refl
