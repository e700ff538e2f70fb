-- The names that a name of several parts begins with.
use Rattle.std.proofs.Common.{◌≡◌, ◌≢◌, ◌∙◌, ℕ, zero, suc, ◌<◌, ◌&&◌, ◌||◌, List, [], ◌∷◌}
use Rattle.std.proofs.Common.{◌++◌, map, length, take, get_or, Bool, true, false, if◌then◌else◌, refl, ap, sym, arith}
use Rattle.std.specs.Prelude.{◌==◌}
use Rattle.std.specs.List.{list_any}
use Rattle.std.specs.Str.{bytes_eq}
use Rattle.std.proofs.lemmas.Bool.Decides.{nat_tests}
use Rattle.std.proofs.lemmas.List.{map-append}
use Rattle.std.proofs.lemmas.List.Folds.{list_any-append}
use Rattle.pbx_link_definitions.specs.Names.{among, prefixes}
use Rattle.pbx_link_rules.specs.Parts.{ends_part}

-- ---- from a name to what stands before its last dot

-- a name without dots begins with itself alone
one_prefix : (s : List ℕ) → ((i : ℕ) → i < length s → get_or s i 0 ≢ 46) → prefixes s ≡ s ∷ []
unfolding prefixes
one_prefix [] h = refl
one_prefix (b ∷ bs) h = by_test (b == 46) refl (one_prefix bs (λ i lt. h (suc i) (omega (arith, lt))))
  where
    by_test : (c : Bool) → b == 46 ≡ c → prefixes bs ≡ bs ∷ []
        → (if c then [] ∷ map (λ p. b ∷ p) (prefixes bs) else map (λ p. b ∷ p) (prefixes bs)) ≡ (b ∷ bs) ∷ []
    by_test true w ih = absurd (h 0 (omega arith) (grind (arith, nat_tests, w)))
    by_test false w ih = ap (map (λ (p : List ℕ). b ∷ p)) ih

-- any other begins with what the text before its last dot begins with, and with itself
more_prefixes : (s : List ℕ) (k : ℕ) → k < length s → get_or s k 0 ≡ 46 → ((i : ℕ) → k < i → i < length s → get_or s i 0 ≢ 46)
    → prefixes s ≡ prefixes (take k s) ++ s ∷ []
unfolding prefixes
more_prefixes [] k lt dot last = absurd (omega (arith, lt))
more_prefixes (b ∷ bs) zero lt dot last =
    rw dot (ap (λ (ps : List (List ℕ)). [] ∷ map (λ (p : List ℕ). 46 ∷ p) ps) (one_prefix bs (λ i at. last (suc i) (omega arith) (omega (arith, at)))))
more_prefixes (b ∷ bs) (suc k) lt dot last =
    by_test (b == 46) (more_prefixes bs k (omega (arith, lt)) dot (λ i after at. last (suc i) (omega (arith, after)) (omega (arith, at))))
  where
    longer : prefixes bs ≡ prefixes (take k bs) ++ bs ∷ []
        → map (λ (p : List ℕ). b ∷ p) (prefixes bs) ≡ map (λ (p : List ℕ). b ∷ p) (prefixes (take k bs)) ++ (b ∷ bs) ∷ []
    longer ih = ap (map (λ (p : List ℕ). b ∷ p)) ih ∙ map-append (λ (p : List ℕ). b ∷ p) (prefixes (take k bs)) (bs ∷ [])

    by_test : (c : Bool) → prefixes bs ≡ prefixes (take k bs) ++ bs ∷ []
        → (if c then [] ∷ map (λ p. b ∷ p) (prefixes bs) else map (λ p. b ∷ p) (prefixes bs))
        ≡ (if c then [] ∷ map (λ p. b ∷ p) (prefixes (take k bs)) else map (λ p. b ∷ p) (prefixes (take k bs))) ++ (b ∷ bs) ∷ []
    by_test true ih = ap (λ (ps : List (List ℕ)). [] ∷ ps) (longer ih)
    by_test false ih = longer ih

or_false : (b : Bool) → (b || false) ≡ b
or_false true = refl
or_false false = refl

or_true : (b : Bool) → (b || true) ≡ true
or_true true = refl
or_true false = refl

-- whether one of the names passes a test
module _ (test : List ℕ → Bool) (s : List ℕ) where
  pub any_last : ((i : ℕ) → i < length s → get_or s i 0 ≢ 46) → test s ≡ list_any test (prefixes s)
  any_last h = sym (ap (λ (ps : List (List ℕ)). list_any test ps) (one_prefix s h) ∙ or_false (test s))

  module _ (k : ℕ) (lt : k < length s) (dot : get_or s k 0 ≡ 46) (last : (i : ℕ) → k < i → i < length s → get_or s i 0 ≢ 46) where
    any_step : list_any test (prefixes s) ≡ (list_any test (prefixes (take k s)) || test s)
    any_step =
        ap (λ (ps : List (List ℕ)). list_any test ps) (more_prefixes s k lt dot last) ∙ list_any-append test (prefixes (take k s)) (s ∷ [])
        ∙ ap (λ (b : Bool). list_any test (prefixes (take k s)) || b) (or_false (test s))

    pub any_here : true ≡ test s → true ≡ list_any test (prefixes s)
    any_here h = sym (any_step ∙ ap (λ (b : Bool). list_any test (prefixes (take k s)) || b) (sym h) ∙ or_true _)

    pub any_before : false ≡ test s → list_any test (prefixes (take k s)) ≡ list_any test (prefixes s)
    any_before h = sym (any_step ∙ ap (λ (b : Bool). list_any test (prefixes (take k s)) || b) (sym h) ∙ or_false _)

-- ---- whether a name begins with another

and_false : (b : Bool) → (b && false) ≡ false
and_false true = refl
and_false false = refl

either_part : (a b c : Bool) → ((a && b) || (a && c)) ≡ (a && (b || c))
either_part true b c = refl
either_part false b c = refl

among_longer : (b c : ℕ) (cs : List ℕ) (ps : List (List ℕ)) → among (map (λ p. b ∷ p) ps) (c ∷ cs) ≡ (b == c && among ps cs)
among_longer b c cs [] = sym (and_false (b == c))
among_longer b c cs (p ∷ ps) =
    ap (λ (d : Bool). bytes_eq (b ∷ p) (c ∷ cs) || d) (among_longer b c cs ps) ∙ either_part (b == c) (bytes_eq p cs) (among ps cs)

none_empty : (b : ℕ) (ps : List (List ℕ)) → among (map (λ p. b ∷ p) ps) [] ≡ false
none_empty b [] = refl
none_empty b (p ∷ ps) = none_empty b ps

-- the first byte of both
among_next : (b c : ℕ) (bs cs : List ℕ) → among (prefixes (b ∷ bs)) (c ∷ cs) ≡ (b == c && among (prefixes bs) cs)
unfolding prefixes
among_next b c bs cs = by_test (b == 46)
  where
    by_test : (d : Bool)
        → among (if d then [] ∷ map (λ p. b ∷ p) (prefixes bs) else map (λ p. b ∷ p) (prefixes bs)) (c ∷ cs) ≡ (b == c && among (prefixes bs) cs)
    by_test true = among_longer b c cs (prefixes bs)
    by_test false = among_longer b c cs (prefixes bs)

same_byte : (c : ℕ) → (c == c) ≡ true
same_byte c = grind (arith, nat_tests)

begins : (name rest : List ℕ) → among (prefixes (name ++ rest)) name ≡ ends_part rest
unfolding prefixes
begins [] [] = refl
begins [] (b ∷ bs) = by_test (b == 46)
  where
    by_test : (d : Bool) → among (if d then [] ∷ map (λ p. b ∷ p) (prefixes bs) else map (λ p. b ∷ p) (prefixes bs)) [] ≡ d
    by_test true = refl
    by_test false = none_empty b (prefixes bs)
begins (c ∷ cs) rest = among_next c c (cs ++ rest) cs ∙ ap (λ (d : Bool). d && among (prefixes (cs ++ rest)) cs) (same_byte c) ∙ begins cs rest

pub prefix_ends : (whole name rest : List ℕ) → whole ≡ name ++ rest → ends_part rest ≡ among (prefixes whole) name
prefix_ends whole name rest e = sym (ap (λ (s : List ℕ). among (prefixes s) name) e ∙ begins name rest)

pub no_prefix : (whole name : List ℕ) → ((rest : List ℕ) → whole ≢ name ++ rest) → false ≡ among (prefixes whole) name
unfolding prefixes
no_prefix whole [] h = absurd (h whole refl)
no_prefix [] (c ∷ cs) h = refl
no_prefix (b ∷ bs) (c ∷ cs) h = by_test (b == c) refl (λ g. no_prefix bs cs g) ∙ sym (among_next b c bs cs)
  where
    by_test : (d : Bool) → b == c ≡ d → (((rest : List ℕ) → bs ≢ cs ++ rest) → false ≡ among (prefixes bs) cs) → false ≡ (d && among (prefixes bs) cs)
    by_test true w ih =
        let same : b ≡ c = grind (arith, nat_tests, w) in
        ih (λ rest e. h rest (ap (λ (x : ℕ). x ∷ bs) same ∙ ap (λ (s : List ℕ). c ∷ s) e))
    by_test false w ih = refl
