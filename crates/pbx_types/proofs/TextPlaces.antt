-- Pairs by their places.
use Rattle.std.proofs.Common.{◌≡◌, ℕ, zero, suc, ◌+◌, ◌<◌, ◌≤◌, Bool, true, false, if◌then◌else◌, List, [], ◌∷◌, ◌++◌, length, get_or, take, drop}
use Rattle.std.proofs.Common.{refl, sym, ap, ◌∙◌, subst, arith, slice_set}
use Rattle.std.specs.Prelude.{Result, Ok, Err, MatchResult}
use Rattle.std.specs.List.{insert}
use Rattle.std.proofs.lemmas.List.{take_more, take-append-drop}
use Rattle.pbx_content.specs.Content.{bytes_before}
use Rattle.pbx_types.specs.Texts.{IsBeforeAll, IsInOrder, with_entry, place_of, StandsAt, IsGapAt}
use Rattle.pbx_types.proofs.TextOrder.{follows, not_both, equal}

-- ---- places

pub place_within : {T : Type 0} (k : List ℕ) (es : List (List ℕ × T)) → place_of k es ≤ length es
place_within k [] = omega arith
place_within k (e ∷ es) = at (bytes_before e.0 k) (place_within k es)
  where
    at : (b : Bool) → place_of k es ≤ length es → (if b then suc (place_of k es) else 0) ≤ suc (length es)
    at true ih = omega (arith, ih)
    at false ih = omega arith

-- a key before the first is before each
above_first : {T : Type 0} (k : List ℕ) (es : List (List ℕ × T)) (i : ℕ) (d : List ℕ × T) → IsBeforeAll k es → IsInOrder es → i < length es
    → bytes_before k (get_or es i d).0 ≡ true
above_first k [] i d b o lt = absurd (omega arith)
above_first k (e ∷ es) zero d b o lt = b
above_first k (e ∷ es) (suc i) d b o lt =
    follows k e.0 (get_or es i d).0 b (above_first e.0 es i d o.0 o.1 (omega arith))

pub lesser_there : {T : Type 0} (k : List ℕ) (es : List (List ℕ × T)) (i : ℕ) (d : List ℕ × T) → IsInOrder es → i < length es
    → bytes_before (get_or es i d).0 k ≡ true → i < place_of k es
lesser_there k [] i d o lt less = absurd (omega arith)
lesser_there k (e ∷ es) zero d o lt less = rw less (omega arith)
lesser_there k (e ∷ es) (suc i) d o lt less =
    let behind = lesser_there k es i d o.1 (omega arith) less in
    let yes : bytes_before e.0 k ≡ true = follows e.0 (get_or es i d).0 k (above_first e.0 es i d o.0 o.1 (omega arith)) less in
    rw yes (omega (arith, behind))

pub greater_there : {T : Type 0} (k : List ℕ) (es : List (List ℕ × T)) (i : ℕ) (d : List ℕ × T) → i < length es
    → bytes_before (get_or es i d).0 k ≡ false → place_of k es ≤ i
greater_there k [] i d lt le = absurd (omega arith)
greater_there k (e ∷ es) zero d lt le = rw le (omega arith)
greater_there k (e ∷ es) (suc i) d lt le = at (bytes_before e.0 k) (greater_there k es i d (omega arith) le)
  where
    at : (b : Bool) → place_of k es ≤ i → (if b then suc (place_of k es) else 0) ≤ suc i
    at true ih = omega (arith, ih)
    at false ih = omega arith

-- ---- found

pub stands : {T : Type 0} (k : List ℕ) (at : ℕ) (es : List (List ℕ × T)) (d : List ℕ × T) → at ≡ place_of k es → at < length es
    → bytes_before k (get_or es at d).0 ≡ false → StandsAt k at es
stands k at [] d p lt e = absurd (omega arith)
stands {T} k at (x ∷ es) d p lt e = by (bytes_before x.0 k) at refl p lt e (λ i. stands k i es d)
  where
    by : (b : Bool) (i : ℕ) → bytes_before x.0 k ≡ b → i ≡ (if b then suc (place_of k es) else 0) → i < suc (length es) → bytes_before k (get_or (x ∷ es) i d).0 ≡ false
        → ((j : ℕ) → j ≡ place_of k es → j < length es → bytes_before k (get_or es j d).0 ≡ false → StandsAt k j es) → StandsAt k i (x ∷ es)
    by true zero y p lt e ih = absurd (omega (arith, p))
    by true (suc i) y p lt e ih = (not_both x.0 k y, y, ih i (omega (arith, p)) (omega arith) e)
    by false zero y p lt e ih = (e, y)
    by false (suc i) y p lt e ih = absurd (omega (arith, p))

pub gap : {T : Type 0} (k : List ℕ) (at : ℕ) (es : List (List ℕ × T)) (d : List ℕ × T) → at ≡ place_of k es
    → (at < length es → bytes_before k (get_or es at d).0 ≡ true) → IsGapAt k at es
gap k zero [] d p ne = tt
gap k (suc i) [] d p ne = absurd (omega (arith, p))
gap {T} k at (x ∷ es) d p ne = by (bytes_before x.0 k) at refl p ne (λ i. gap k i es d)
  where
    by : (b : Bool) (i : ℕ) → bytes_before x.0 k ≡ b → i ≡ (if b then suc (place_of k es) else 0) → (i < suc (length es) → bytes_before k (get_or (x ∷ es) i d).0 ≡ true)
        → ((j : ℕ) → j ≡ place_of k es → (j < length es → bytes_before k (get_or es j d).0 ≡ true) → IsGapAt k j es) → IsGapAt k i (x ∷ es)
    by true zero y p ne ih = absurd (omega (arith, p))
    by true (suc i) y p ne ih = (not_both x.0 k y, y, ih i (omega (arith, p)) (λ lt. ne (omega (arith, lt))))
    by false zero y p ne ih = ne (omega arith)
    by false (suc i) y p ne ih = absurd (omega (arith, p))

pub gap_past : {T : Type 0} (k : List ℕ) (at : ℕ) (es : List (List ℕ × T)) → at ≡ place_of k es → length es ≤ at → IsGapAt k at es
gap_past k zero [] p le = tt
gap_past k (suc i) [] p le = absurd (omega (arith, p))
gap_past k at (x ∷ es) p le = gap k at (x ∷ es) x p (λ lt. absurd (omega (arith, lt, le)))

pub found_within : {T : Type 0} (k : List ℕ) (at : ℕ) (es : List (List ℕ × T)) → StandsAt k at es → at < length es
found_within k at [] s = absurd s
found_within k zero (x ∷ es) s = omega arith
found_within k (suc i) (x ∷ es) s = omega (arith, found_within k i es s.2)

pub gap_within : {T : Type 0} (k : List ℕ) (at : ℕ) (es : List (List ℕ × T)) → IsGapAt k at es → at ≤ length es
gap_within k zero es g = omega arith
gap_within k (suc i) [] g = absurd g
gap_within k (suc i) (x ∷ es) g = omega (arith, gap_within k i es g.2)

-- ---- put in

pub gap_filled : {T : Type 0} (k : List ℕ) (at : ℕ) (v : T) (es : List (List ℕ × T)) → IsGapAt k at es → with_entry k v es ≡ insert es at (k, v)
gap_filled k zero v [] g = refl
gap_filled k zero v (x ∷ es) g = rw g refl
gap_filled k (suc i) v [] g = absurd g
gap_filled {T} k (suc i) v (x ∷ es) g = rw (g.0, g.1) (ap (λ (u : List (List ℕ × T)). x ∷ u) (gap_filled k i v es g.2))

pub found_set : {T : Type 0} (k : List ℕ) (at : ℕ) (v : T) (es : List (List ℕ × T)) → StandsAt k at es → slice_set es at (k, v) ≡ with_entry k v es
found_set k at v [] s = absurd s
found_set k zero v (x ∷ es) s = rw (s.0, s.1) refl
found_set {T} k (suc i) v (x ∷ es) s = rw (s.0, s.1) (ap (λ (u : List (List ℕ × T)). x ∷ u) (found_set k i v es s.2))

before_with : {T : Type 0} (m k : List ℕ) (v : T) (es : List (List ℕ × T)) → bytes_before m k ≡ true → IsBeforeAll m es → IsBeforeAll m (with_entry k v es)
before_with m k v [] l b = l
before_with {T} m k v (x ∷ es) l b = at (bytes_before k x.0) (bytes_before x.0 k)
  where
    at : (c d : Bool) → IsBeforeAll m (if c then (k, v) ∷ x ∷ es else (if d then x ∷ with_entry k v es else (k, v) ∷ es))
    at true d = l
    at false true = b
    at false false = l

pub ordered_with : {T : Type 0} (k : List ℕ) (v : T) (es : List (List ℕ × T)) → IsInOrder es → IsInOrder (with_entry k v es)
ordered_with k v [] o = (tt, tt)
ordered_with {T} k v (x ∷ es) o =
    at (bytes_before k x.0) (bytes_before x.0 k) refl refl (λ l. before_with x.0 k v es l o.0) (ordered_with k v es o.1)
  where
    at : (c d : Bool) → bytes_before k x.0 ≡ c → bytes_before x.0 k ≡ d → (bytes_before x.0 k ≡ true → IsBeforeAll x.0 (with_entry k v es)) → IsInOrder (with_entry k v es)
        → IsInOrder (if c then (k, v) ∷ x ∷ es else (if d then x ∷ with_entry k v es else (k, v) ∷ es))
    at true d l m below ih = (l, o)
    at false true l m below ih = (below m, ih)
    at false false l m below ih = (subst (λ (n : List ℕ). IsBeforeAll n es) (sym (equal k x.0 l m)) o.0, o.1)

-- ---- in code

pub place_above : {T : Type 0} (k : List ℕ) (es : List (List ℕ × T)) (i high : ℕ) (d : List ℕ × T) → IsInOrder es → i < length es
    → bytes_before (get_or es i d).0 k ≡ true → place_of k es ≤ high → high ≤ length es → (i + 1 ≤ place_of k es) × (place_of k es ≤ high) × (high ≤ length es)
place_above k es i high d o lt less le all = let there = lesser_there k es i d o lt less in (omega (arith, there), le, all)

pub place_below : {T : Type 0} (k : List ℕ) (es : List (List ℕ × T)) (low i : ℕ) (d : List ℕ × T) → i < length es → bytes_before (get_or es i d).0 k ≡ false
    → low ≤ place_of k es → (low ≤ place_of k es) × (place_of k es ≤ i) × (i ≤ length es)
place_below k es low i d lt le above = (above, greater_there k es i d lt le, omega arith)

-- all keys are less
pub all_less : {T : Type 0} (k : List ℕ) (last : ℕ) (es : List (List ℕ × T)) (d : List ℕ × T) → IsInOrder es → suc last ≡ length es
    → bytes_before (get_or es last d).0 k ≡ true → length es ≡ place_of k es
all_less k last es d o at less =
    let there = lesser_there k es last d o (omega (arith, at)) less in
    omega (arith, at, there, place_within k es)

pub ordered_put : {T E : Type 0} (k : List ℕ) (at : ℕ) (v : T) (old new : List (List ℕ × T)) (P : E → Type 0) (r : Result (Unit {0}) E) → IsGapAt k at old → IsInOrder old
    → MatchResult r (λ _. new ≡ insert old at (k, v)) (λ back. P back × (new ≡ old)) → IsInOrder new
ordered_put {T} k at v old new P (Ok u) g o is =
    subst (λ (es : List (List ℕ × T)). IsInOrder es) (gap_filled k at v old g ∙ sym is) (ordered_with k v old o)
ordered_put {T} k at v old new P (Err e) g o is = subst (λ (es : List (List ℕ × T)). IsInOrder es) (sym is.1) o

-- ---- pairs that are put in by ascending text

-- each text of the first stands before one behind them
all_before : {T : Type 0} (x : List ℕ × T) (es : List (List ℕ × T)) (k : List ℕ) (v : T) → IsBeforeAll x.0 (es ++ (k, v) ∷ []) → IsInOrder (es ++ (k, v) ∷ []) → bytes_before x.0 k ≡ true
all_before x [] k v b o = b
all_before x (e ∷ es) k v b o = follows x.0 e.0 k b (all_before e es k v o.0 o.1)

pub with_last : {T : Type 0} (k : List ℕ) (v : T) (es : List (List ℕ × T)) → IsInOrder (es ++ (k, v) ∷ []) → with_entry k v es ≡ es ++ (k, v) ∷ []
with_last k v [] o = refl
with_last {T} k v (x ∷ es) o =
    let less = all_before x es k v o.0 o.1 in
    rw (not_both x.0 k less, less) (ap (λ (u : List (List ℕ × T)). x ∷ u) (with_last k v es o.1))

before_front : {T : Type 0} (k : List ℕ) (es fs : List (List ℕ × T)) → IsBeforeAll k (es ++ fs) → IsBeforeAll k es
before_front k [] fs b = tt
before_front k (e ∷ es) fs b = b

pub front_in_order : {T : Type 0} (es fs : List (List ℕ × T)) → IsInOrder (es ++ fs) → IsInOrder es
front_in_order [] fs o = tt
front_in_order (e ∷ es) fs o = (before_front e.0 es fs o.0, front_in_order es fs o.1)

-- one pair more of those in order
pub with_next : {T : Type 0} (es : List (List ℕ × T)) (i : ℕ) (e : List ℕ × T) → IsInOrder es → i < length es → e ≡ get_or es i e → with_entry e.0 e.1 (take i es) ≡ take (i + 1) es
with_next {T} es i e o lt is =
    let next : take (i + 1) es ≡ take i es ++ e ∷ [] = take_more es i e lt ∙ ap (λ (x : List ℕ × T). take i es ++ x ∷ []) (sym is) in
    let whole : take (i + 1) es ++ drop (i + 1) es ≡ es = take-append-drop (i + 1) es in
    let front = front_in_order (take (i + 1) es) (drop (i + 1) es) (subst (λ (xs : List (List ℕ × T)). IsInOrder xs) (sym whole) o) in
    with_last e.0 e.1 (take i es) (subst (λ (xs : List (List ℕ × T)). IsInOrder xs) next front) ∙ sym next
