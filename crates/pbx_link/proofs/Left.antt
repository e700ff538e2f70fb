-- The next item of a list that passes a test, from a place on.
use Rattle.std.proofs.Common.{◌≡◌, ◌∙◌, ℕ, zero, suc, ◌+◌, ◌<◌, ◌≤◌, nat_lt, cond, not, List, [], ◌∷◌, map, drop, length, get_or, Bool, true, false}
use Rattle.std.proofs.Common.{Option, Some, None, refl, ap, sym, arith}
use Rattle.std.specs.Prelude.{filter, position}
use Rattle.std.specs.List.{position_or_len}
use Rattle.std.proofs.lemmas.Bool.Decides.{nat_tests}
use Rattle.std.proofs.Math.Seq.{drop-nil}
use Rattle.std.proofs.lemmas.List.{get_or-drop, drop-map, length-map, length-drop}
use Rattle.pbx_link.proofs.Sole.{at_first, none_first}

drop_twice : {X : Type 0} (i n : ℕ) (xs : List X) → drop n (drop i xs) ≡ drop (i + n) xs
drop_twice {X} zero n xs = let same : n ≡ 0 + n = omega arith in ap (λ (m : ℕ). drop m xs) same
drop_twice (suc i) n [] = drop-nil n ∙ sym (drop-nil (suc i + n))
drop_twice {X} (suc i) n (x ∷ xs) =
    let same : suc (i + n) ≡ suc i + n = omega arith in
    drop_twice i n xs ∙ ap (λ (m : ℕ). drop m (x ∷ xs)) same

-- what a search among a list finds
found_at : {X : Type 0} (p : X → Bool) (xs : List X) (b : Bool) → nat_lt (position_or_len p xs) (length xs) ≡ b
    → (k : ℕ) → Some k ≡ cond b (Some (position_or_len p xs)) None → (k ≡ position_or_len p xs) × (position_or_len p xs < length xs)
found_at p xs true w k e = (cc, grind (arith, nat_tests, w))
found_at p xs false w k e = absurd (cc)

missed_at : {X : Type 0} (p : X → Bool) (xs : List X) (b : Bool) → nat_lt (position_or_len p xs) (length xs) ≡ b
    → None ≡ cond b (Some (position_or_len p xs)) None → length xs ≤ position_or_len p xs
missed_at p xs true w e = absurd (cc)
missed_at p xs false w e = grind (arith, nat_tests, w)

told_by : {X : Type 0} (p : X → Bool) (xs : List X) → position_or_len p xs ≡ position_or_len (λ b. b) (map p xs)
told_by p [] = refl
told_by p (x ∷ xs) = ap (λ (n : ℕ). cond (not (p x)) (1 + n) 0) (told_by p xs)

-- two lists whose items pass in the same places
module _ {X Y : Type 0} (p : X → Bool) (q : Y → Bool) (xs : List X) (ys : List Y) (alike : map q ys ≡ map p xs) where
  alike_from : (i : ℕ) → map q (drop i ys) ≡ map p (drop i xs)
  alike_from i = sym (drop-map q i ys) ∙ ap (drop i) alike ∙ drop-map p i xs

  position_from : (i : ℕ) → position_or_len q (drop i ys) ≡ position_or_len p (drop i xs)
  position_from i = told_by q (drop i ys) ∙ ap (position_or_len (λ b. b)) (alike_from i) ∙ sym (told_by p (drop i xs))

  length_from : (i : ℕ) → length (drop i ys) ≡ length (drop i xs)
  length_from i = sym (length-map (drop i ys) q) ∙ ap length (alike_from i) ∙ length-map (drop i xs) p

  pub next_within : (i k : ℕ) (o : Option ℕ) → o ≡ position p (drop i xs) → o ≡ Some k → i + k < length ys
  next_within i k o is some =
      let at = found_at p (drop i xs) (nat_lt (position_or_len p (drop i xs)) (length (drop i xs))) refl k (sym some ∙ is) in
      omega (arith, at.0, at.1, length_from i, length-drop i ys)

  pub next_passing : (i k : ℕ) (o : Option ℕ) (d : Y) → o ≡ position p (drop i xs) → o ≡ Some k
      → filter q (drop i ys) ≡ get_or ys (i + k) d ∷ filter q (drop (i + k + 1) ys)
  next_passing i k o d is some =
      let at = found_at p (drop i xs) (nat_lt (position_or_len p (drop i xs)) (length (drop i xs))) refl k (sym some ∙ is) in
      let here : position_or_len q (drop i ys) ≡ k = position_from i ∙ sym at.0 in
      let behind : i + (k + 1) ≡ i + k + 1 = omega arith in
      at_first q (drop i ys) d (omega (arith, here, at.0, at.1, length_from i))
      ∙ ap (λ (n : ℕ). get_or (drop i ys) n d ∷ filter q (drop (n + 1) (drop i ys))) here
      ∙ ap (λ (y : Y). y ∷ filter q (drop (k + 1) (drop i ys))) (get_or-drop i ys k d)
      ∙ ap (λ (zs : List Y). get_or ys (i + k) d ∷ filter q zs) (drop_twice i (k + 1) ys ∙ ap (λ (n : ℕ). drop n ys) behind)

  pub none_passing : (i : ℕ) (o : Option ℕ) → o ≡ position p (drop i xs) → o ≡ None → filter q (drop i ys) ≡ []
  none_passing i o is none =
      let at = missed_at p (drop i xs) (nat_lt (position_or_len p (drop i xs)) (length (drop i xs))) refl (sym none ∙ is) in
      none_first q (drop i ys) (omega (arith, at, position_from i, length_from i))
