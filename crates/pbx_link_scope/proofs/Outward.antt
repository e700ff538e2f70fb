-- Scopes from the innermost outward.
use Rattle.std.proofs.Common.{◌≡◌, ◌≢◌, ◌∙◌, ℕ, zero, suc, ◌<◌, ◌||◌, List, [], ◌∷◌, ◌++◌, map, length, take, get_or, Bool, true, false, if◌then◌else◌, refl, ap, sym, arith}
use Rattle.std.specs.Prelude.{reverse, ◌==◌}
use Rattle.std.proofs.lemmas.List.{map-append, reverse-append}
use Rattle.std.proofs.lemmas.Bool.Decides.{nat_tests}
use Rattle.pbx_link_definitions.specs.Names.{has_dot, prefixes, outward}
use Rattle.pbx_link_scope.specs.Scope.{outer}

-- ---- dots

pub no_dot : (s : List ℕ) → ((i : ℕ) → i < length s → get_or s i 0 ≢ 46) → has_dot s ≡ false
no_dot [] h = refl
no_dot (b ∷ bs) h = by_test (b == 46) refl (no_dot bs (λ i lt. h (suc i) (omega (arith, lt))))
  where
    by_test : (c : Bool) → b == 46 ≡ c → has_dot bs ≡ false → (c || has_dot bs) ≡ false
    by_test true w rest = absurd (h 0 (omega arith) (grind (arith, nat_tests, w)))
    by_test false w rest = rest

dot_at : (s : List ℕ) (k : ℕ) → k < length s → get_or s k 0 ≡ 46 → has_dot s ≡ true
dot_at [] k lt e = absurd (omega (arith, lt))
dot_at (b ∷ bs) zero lt e = rw e refl
dot_at (b ∷ bs) (suc k) lt e = by_test (b == 46) (dot_at bs k (omega (arith, lt)) e)
  where
    by_test : (c : Bool) → has_dot bs ≡ true → (c || has_dot bs) ≡ true
    by_test true rest = refl
    by_test false rest = rest

pub outer_none : (s : List ℕ) → has_dot s ≡ false → outer s ≡ []
unfolding outer
outer_none [] h = refl
outer_none (b ∷ bs) h = by_test (b == 46) (has_dot bs) h
  where
    by_test : (c d : Bool) → (c || d) ≡ false → (if d then b ∷ outer bs else []) ≡ []
    by_test true d e = absurd (cc)
    by_test false true e = absurd (cc)
    by_test false false e = refl

-- the outer scope is what stands before the last dot
pub outer_at : (s : List ℕ) (k : ℕ) → k < length s → get_or s k 0 ≡ 46 → ((i : ℕ) → k < i → i < length s → get_or s i 0 ≢ 46) → take k s ≡ outer s
unfolding outer
outer_at [] k lt e h = absurd (omega (arith, lt))
outer_at (b ∷ bs) zero lt e h = rw (no_dot bs (λ i at. h (suc i) (omega arith) (omega (arith, at)))) refl
outer_at (b ∷ bs) (suc k) lt e h =
    rw (dot_at bs k (omega (arith, lt)) e) (ap (λ (t : List ℕ). b ∷ t) (outer_at bs k (omega (arith, lt)) e (λ i after at. h (suc i) (omega (arith, after)) (omega (arith, at)))))

pub outer_shorter : (s : List ℕ) → 0 < length s → length (outer s) < length s
unfolding outer
outer_shorter [] h = absurd (omega (arith, h))
outer_shorter (b ∷ []) h = omega arith
outer_shorter (b ∷ c ∷ cs) h = by_test (has_dot (c ∷ cs)) (outer_shorter (c ∷ cs) (omega arith))
  where
    by_test : (d : Bool) → length (outer (c ∷ cs)) < length (c ∷ cs) → length (if d then b ∷ outer (c ∷ cs) else []) < length (b ∷ c ∷ cs)
    by_test true less = omega (arith, less)
    by_test false less = omega arith

-- ---- what a scope's name begins with

-- a scope without a dot is the only name that it begins with
one_prefix : (s : List ℕ) → has_dot s ≡ false → prefixes s ≡ s ∷ []
unfolding prefixes
one_prefix [] h = refl
one_prefix (b ∷ bs) h = by_dots (b == 46) (has_dot bs) refl h (one_prefix bs)
  where
    by_dots : (c d : Bool) → has_dot bs ≡ d → (c || d) ≡ false → (has_dot bs ≡ false → prefixes bs ≡ bs ∷ [])
        → (if c then [] ∷ map (λ p. b ∷ p) (prefixes bs) else map (λ p. b ∷ p) (prefixes bs)) ≡ (b ∷ bs) ∷ []
    by_dots false false q e ih = ap (map (λ (p : List ℕ). b ∷ p)) (ih q)
    by_dots true d q e ih = absurd (cc)
    by_dots false true q e ih = absurd (cc)

-- any other begins with what its outer scope begins with, and with itself
more_prefixes : (s : List ℕ) → has_dot s ≡ true → prefixes s ≡ prefixes (outer s) ++ s ∷ []
unfolding prefixes outer
more_prefixes [] h = absurd (cc)
more_prefixes (b ∷ bs) h = by_dots (b == 46) (has_dot bs) refl refl h (more_prefixes bs)
  where
    longer : List (List ℕ) → List (List ℕ)
    longer ps = map (λ p. b ∷ p) ps

    by_dots : (c d : Bool) → b == 46 ≡ c → has_dot bs ≡ d → (c || d) ≡ true → (has_dot bs ≡ true → prefixes bs ≡ prefixes (outer bs) ++ bs ∷ [])
        → (if c then [] ∷ map (λ p. b ∷ p) (prefixes bs) else map (λ p. b ∷ p) (prefixes bs)) ≡ prefixes (if d then b ∷ outer bs else []) ++ (b ∷ bs) ∷ []
    by_dots true true w q e ih =
        rw w (ap (λ (ps : List (List ℕ)). [] ∷ map (λ p. b ∷ p) ps) (ih q) ∙ ap (λ (ps : List (List ℕ)). [] ∷ ps) (map-append (λ (p : List ℕ). b ∷ p) (prefixes (outer bs)) (bs ∷ [])))
    by_dots true false w q e ih = ap (λ (ps : List (List ℕ)). [] ∷ map (λ p. b ∷ p) ps) (one_prefix bs q)
    by_dots false true w q e ih =
        rw w (ap (λ (ps : List (List ℕ)). map (λ p. b ∷ p) ps) (ih q) ∙ map-append (λ (p : List ℕ). b ∷ p) (prefixes (outer bs)) (bs ∷ []))
    by_dots false false w q e ih = absurd (cc)

-- ---- from a scope to its outer one

-- what is told of scopes, one after another, where a second root tells nothing new
module _ {X : Type 0} (F : List (List ℕ) → X) (step : List ℕ → X → X) (out : (s : List ℕ) (ss : List (List ℕ)) → F (s ∷ ss) ≡ step s (F ss)) (twice : F ([] ∷ [] ∷ []) ≡ F ([] ∷ [])) where
  to_root : (o : List ℕ) → F (reverse ([] ∷ prefixes o)) ≡ F (outward o)
  unfolding prefixes
  to_root [] = twice
  to_root (c ∷ cs) = refl

  pub steps_outward : (s : List ℕ) → 0 < length s → F (outward s) ≡ step s (F (outward (outer s)))
  steps_outward [] h = absurd (omega (arith, h))
  steps_outward (b ∷ bs) h = by_dots (has_dot (b ∷ bs)) refl
    where
      by_dots : (d : Bool) → has_dot (b ∷ bs) ≡ d → F (outward (b ∷ bs)) ≡ step (b ∷ bs) (F (outward (outer (b ∷ bs))))
      by_dots true q =
          ap (λ (ps : List (List ℕ)). F (reverse ([] ∷ ps))) (more_prefixes (b ∷ bs) q) ∙ ap F (reverse-append ([] ∷ prefixes (outer (b ∷ bs))) ((b ∷ bs) ∷ []))
          ∙ out (b ∷ bs) (reverse ([] ∷ prefixes (outer (b ∷ bs)))) ∙ ap (step (b ∷ bs)) (to_root (outer (b ∷ bs)))
      by_dots false q =
          ap (λ (ps : List (List ℕ)). F (reverse ([] ∷ ps))) (one_prefix (b ∷ bs) q) ∙ out (b ∷ bs) ([] ∷ [])
          ∙ ap (λ (o : List ℕ). step (b ∷ bs) (F (outward o))) (sym (outer_none (b ∷ bs) q))
