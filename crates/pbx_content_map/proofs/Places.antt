-- Pairs by their places.
use Rattle.std.proofs.Common.{◌≡◌, ℕ, zero, suc, ◌+◌, ◌<◌, ◌≤◌, Bool, true, false, if◌then◌else◌, nat_lt, List, [], ◌∷◌, ◌++◌, length, get_or, Some, None}
use Rattle.std.proofs.Common.{refl, sym, ap, ◌∙◌, subst, arith, slice_set, append_assoc, append-nil}
use Rattle.std.specs.Prelude.{◌≢◌, ◌==◌, Result, Ok, Err, OnOk, OnErr}
use Rattle.std.specs.List.{insert, remove}
use Rattle.std.proofs.lemmas.Bool.Decides.{nat_tests}
use Rattle.pbx_content_map.specs.Entries.{IsBelow, IsAscending, value_under, without, with_entry, with_entries, place_of, StandsAt, IsGapAt}

pub place_within : {T : Type 0} (n : ℕ) (es : List (ℕ × T)) → place_of n es ≤ length es
place_within n [] = omega arith
place_within n (e ∷ es) = at (nat_lt e.0 n) (place_within n es)
  where
    at : (b : Bool) → place_of n es ≤ length es → (if b then suc (place_of n es) else 0) ≤ suc (length es)
    at true ih = omega (arith, ih)
    at false ih = omega arith

-- each number is above one that is below the first
above_first : {T : Type 0} (m : ℕ) (es : List (ℕ × T)) (i : ℕ) (d : ℕ × T) → IsBelow m es → IsAscending es → i < length es → m < (get_or es i d).0
above_first m [] i d b o lt = absurd (omega arith)
above_first m (e ∷ es) zero d b o lt = grind (arith, nat_tests)
above_first m (e ∷ es) (suc i) d b o lt =
    let behind = above_first e.0 es i d o.0 o.1 (omega arith) in
    let first : m < e.0 = grind (arith, nat_tests) in
    omega (arith, behind, first)

pub lesser_there : {T : Type 0} (n : ℕ) (es : List (ℕ × T)) (i : ℕ) (d : ℕ × T) → IsAscending es → i < length es → (get_or es i d).0 < n → i < place_of n es
lesser_there n [] i d o lt less = absurd (omega arith)
lesser_there n (e ∷ es) zero d o lt less = let yes : nat_lt e.0 n ≡ true = grind (arith, nat_tests) in rw yes (omega arith)
lesser_there n (e ∷ es) (suc i) d o lt less =
    let behind = lesser_there n es i d o.1 (omega arith) less in
    let first = above_first e.0 es i d o.0 o.1 (omega arith) in
    let yes : nat_lt e.0 n ≡ true = grind (arith, nat_tests) in
    rw yes (omega (arith, behind))

pub greater_there : {T : Type 0} (n : ℕ) (es : List (ℕ × T)) (i : ℕ) (d : ℕ × T) → i < length es → n ≤ (get_or es i d).0 → place_of n es ≤ i
greater_there n [] i d lt le = absurd (omega arith)
greater_there n (e ∷ es) zero d lt le = let stop : nat_lt e.0 n ≡ false = grind (arith, nat_tests) in rw stop (omega arith)
greater_there n (e ∷ es) (suc i) d lt le = at (nat_lt e.0 n) (greater_there n es i d (omega arith) le)
  where
    at : (b : Bool) → place_of n es ≤ i → (if b then suc (place_of n es) else 0) ≤ suc i
    at true ih = omega (arith, ih)
    at false ih = omega arith

-- ---- found

pub stands : {T : Type 0} (n at : ℕ) (es : List (ℕ × T)) (d : ℕ × T) → at ≡ place_of n es → at < length es → (get_or es at d).0 ≡ n → StandsAt n at es
stands n at [] d p lt e = absurd (omega arith)
stands n at (x ∷ es) d p lt e = by (nat_lt x.0 n) at refl p lt e (λ i. stands n i es d)
  where
    by : (b : Bool) (i : ℕ) → nat_lt x.0 n ≡ b → i ≡ (if b then suc (place_of n es) else 0) → i < suc (length es) → (get_or (x ∷ es) i d).0 ≡ n
        → ((j : ℕ) → j ≡ place_of n es → j < length es → (get_or es j d).0 ≡ n → StandsAt n j es) → StandsAt n i (x ∷ es)
    by true zero y p lt e ih = absurd (omega (arith, p))
    by true (suc i) y p lt e ih = (y, ih i (omega (arith, p)) (omega arith) e)
    by false zero y p lt e ih = sym e
    by false (suc i) y p lt e ih = absurd (omega (arith, p))

pub gap : {T : Type 0} (n at : ℕ) (es : List (ℕ × T)) (d : ℕ × T) → at ≡ place_of n es → (at < length es → (get_or es at d).0 ≢ n) → IsGapAt n at es
gap n zero [] d p ne = tt
gap n (suc i) [] d p ne = absurd (omega (arith, p))
gap n at (x ∷ es) d p ne = by (nat_lt x.0 n) at refl p ne (λ i. gap n i es d)
  where
    by : (b : Bool) (i : ℕ) → nat_lt x.0 n ≡ b → i ≡ (if b then suc (place_of n es) else 0) → (i < suc (length es) → (get_or (x ∷ es) i d).0 ≢ n)
        → ((j : ℕ) → j ≡ place_of n es → (j < length es → (get_or es j d).0 ≢ n) → IsGapAt n j es) → IsGapAt n i (x ∷ es)
    by true zero y p ne ih = absurd (omega (arith, p))
    by true (suc i) y p ne ih = (y, ih i (omega (arith, p)) (λ lt. ne (omega (arith, lt))))
    by false zero y p ne ih = let other : x.0 ≢ n = ne (omega arith) in grind (arith, nat_tests, other)
    by false (suc i) y p ne ih = absurd (omega (arith, p))

pub gap_past : {T : Type 0} (n at : ℕ) (es : List (ℕ × T)) → at ≡ place_of n es → length es ≤ at → IsGapAt n at es
gap_past n zero [] p le = tt
gap_past n (suc i) [] p le = absurd (omega (arith, p))
gap_past n at (x ∷ es) p le = gap n at (x ∷ es) x p (λ lt. absurd (omega (arith, lt, le)))

-- ---- what is found

pub found_within : {T : Type 0} (n at : ℕ) (es : List (ℕ × T)) → StandsAt n at es → at < length es
found_within n at [] s = absurd s
found_within n zero (x ∷ es) s = omega arith
found_within n (suc i) (x ∷ es) s = omega (arith, found_within n i es s.1)

pub gap_within : {T : Type 0} (n at : ℕ) (es : List (ℕ × T)) → IsGapAt n at es → at ≤ length es
gap_within n zero es g = omega arith
gap_within n (suc i) [] g = absurd g
gap_within n (suc i) (x ∷ es) g = omega (arith, gap_within n i es g.1)

pub found_value : {T : Type 0} (n at : ℕ) (es : List (ℕ × T)) (d : ℕ × T) → StandsAt n at es → value_under n es ≡ Some (get_or es at d).1
found_value n at [] d s = absurd s
found_value n zero (x ∷ es) d s = let here : (n == x.0) ≡ true = grind (arith, nat_tests) in rw here refl
found_value n (suc i) (x ∷ es) d s = let other : (n == x.0) ≡ false = grind (arith, nat_tests, s.0) in rw other (found_value n i es d s.1)

pub found_rest : {T : Type 0} (n at : ℕ) (es : List (ℕ × T)) → StandsAt n at es → without n es ≡ remove es at
found_rest n at [] s = absurd s
found_rest n zero (x ∷ es) s = let here : (n == x.0) ≡ true = grind (arith, nat_tests) in rw here refl
found_rest {T} n (suc i) (x ∷ es) s =
    let other : (n == x.0) ≡ false = grind (arith, nat_tests, s.0) in rw other (ap (λ (t : List (ℕ × T)). x ∷ t) (found_rest n i es s.1))

-- not below the first means at none
none_below : {T : Type 0} (n : ℕ) (es : List (ℕ × T)) → IsBelow n es → IsAscending es → (value_under n es ≡ None) × (without n es ≡ es)
none_below n [] b o = (refl, refl)
none_below {T} n (x ∷ es) b o =
    let other : (n == x.0) ≡ false = grind (arith, nat_tests) in
    let t = none_below n es (lower es b o.0) o.1 in
    rw other (t.0, ap (λ (u : List (ℕ × T)). x ∷ u) t.1)
  where
    lower : (fs : List (ℕ × T)) → nat_lt n x.0 ≡ true → IsBelow x.0 fs → IsBelow n fs
    lower [] b o = tt
    lower (f ∷ fs) b o = grind (arith, nat_tests)

pub gap_none : {T : Type 0} (n at : ℕ) (es : List (ℕ × T)) → IsAscending es → IsGapAt n at es → (value_under n es ≡ None) × (without n es ≡ es)
gap_none n zero [] o g = (refl, refl)
gap_none n zero (x ∷ es) o g = none_below n (x ∷ es) g o
gap_none n (suc i) [] o g = absurd g
gap_none {T} n (suc i) (x ∷ es) o g =
    let other : (n == x.0) ≡ false = grind (arith, nat_tests, g.0) in
    let t = gap_none n i es o.1 g.1 in
    rw other (t.0, ap (λ (u : List (ℕ × T)). x ∷ u) t.1)

pub gap_filled : {T : Type 0} (n at : ℕ) (v : T) (es : List (ℕ × T)) → IsGapAt n at es → with_entry n v es ≡ insert es at (n, v)
gap_filled n zero v [] g = refl
gap_filled n zero v (x ∷ es) g = rw g refl
gap_filled n (suc i) v [] g = absurd g
gap_filled {T} n (suc i) v (x ∷ es) g =
    let no : nat_lt n x.0 ≡ false = grind (arith, nat_tests, g.0) in
    rw (no, g.0) (ap (λ (u : List (ℕ × T)). x ∷ u) (gap_filled n i v es g.1))

-- ---- the order stays

below_without : {T : Type 0} (m n : ℕ) (es : List (ℕ × T)) → IsBelow m es → IsAscending es → IsBelow m (without n es)
below_without m n [] b o = tt
below_without {T} m n (x ∷ es) b o = at (n == x.0)
  where
    lower : (fs : List (ℕ × T)) → nat_lt m x.0 ≡ true → IsBelow x.0 fs → IsBelow m fs
    lower [] b o = tt
    lower (f ∷ fs) b o = grind (arith, nat_tests)

    at : (c : Bool) → IsBelow m (if c then es else x ∷ without n es)
    at true = lower es b o.0
    at false = b

pub ascending-without : {T : Type 0} (n : ℕ) (es : List (ℕ × T)) → IsAscending es → IsAscending (without n es)
ascending-without n [] o = tt
ascending-without n (x ∷ es) o = at (n == x.0) (below_without x.0 n es o.0 o.1) (ascending-without n es o.1)
  where
    at : (c : Bool) → IsBelow x.0 (without n es) → IsAscending (without n es) → IsAscending (if c then es else x ∷ without n es)
    at true b ih = o.1
    at false b ih = (b, ih)

below_with : {T : Type 0} (m n : ℕ) (v : T) (es : List (ℕ × T)) → nat_lt m n ≡ true → IsBelow m es → IsBelow m (with_entry n v es)
below_with m n v [] l b = l
below_with m n v (x ∷ es) l b = at (nat_lt n x.0) (nat_lt x.0 n)
  where
    at : (c d : Bool) → IsBelow m (if c then (n, v) ∷ x ∷ es else (if d then x ∷ with_entry n v es else (n, v) ∷ es))
    at true d = l
    at false true = b
    at false false = l

pub ascending-with : {T : Type 0} (n : ℕ) (v : T) (es : List (ℕ × T)) → IsAscending es → IsAscending (with_entry n v es)
ascending-with n v [] o = (tt, tt)
ascending-with {T} n v (x ∷ es) o = at (nat_lt n x.0) (nat_lt x.0 n) refl refl (λ l. below_with x.0 n v es l o.0) (ascending-with n v es o.1)
  where
    equal : (fs : List (ℕ × T)) → n ≡ x.0 → IsBelow x.0 fs → IsBelow n fs
    equal [] e b = tt
    equal (f ∷ fs) e b = rw e b

    at : (c d : Bool) → nat_lt n x.0 ≡ c → nat_lt x.0 n ≡ d → (nat_lt x.0 n ≡ true → IsBelow x.0 (with_entry n v es)) → IsAscending (with_entry n v es)
        → IsAscending (if c then (n, v) ∷ x ∷ es else (if d then x ∷ with_entry n v es else (n, v) ∷ es))
    at true d l m below ih = (l, o)
    at false true l m below ih = (below m, ih)
    at false false l m below ih = (equal es (grind (arith, nat_tests)) o.0, o.1)

-- ---- in code

pub place_above : {T : Type 0} (n : ℕ) (es : List (ℕ × T)) (i high : ℕ) (d : ℕ × T) → IsAscending es → i < length es → (get_or es i d).0 < n
    → place_of n es ≤ high → high ≤ length es → (i + 1 ≤ place_of n es) × (place_of n es ≤ high) × (high ≤ length es)
place_above n es i high d o lt less le all = let there = lesser_there n es i d o lt less in (omega (arith, there), le, all)

pub place_below : {T : Type 0} (n : ℕ) (es : List (ℕ × T)) (low i : ℕ) (d : ℕ × T) → i < length es → n ≤ (get_or es i d).0
    → low ≤ place_of n es → (low ≤ place_of n es) × (place_of n es ≤ i) × (i ≤ length es)
place_below n es low i d lt le above = (above, greater_there n es i d lt le, omega arith)

pub found_set : {T : Type 0} (n at : ℕ) (v : T) (es : List (ℕ × T)) → StandsAt n at es → slice_set es at (n, v) ≡ with_entry n v es
found_set n at v [] s = absurd s
found_set n zero v (x ∷ es) s =
    let above : nat_lt n x.0 ≡ false = grind (arith, nat_tests) in
    let below : nat_lt x.0 n ≡ false = grind (arith, nat_tests) in
    rw (above, below) refl
found_set {T} n (suc i) v (x ∷ es) s =
    let above : nat_lt n x.0 ≡ false = grind (arith, nat_tests, s.0) in
    rw (above, s.0) (ap (λ (u : List (ℕ × T)). x ∷ u) (found_set n i v es s.1))

pub ascending-put : {T E : Type 0} (n at : ℕ) (v : T) (old new : List (ℕ × T)) (r : Result (Unit {0}) E) → IsGapAt n at old → IsAscending old
    → OnOk r (new ≡ insert old at (n, v)) → OnErr r (new ≡ old) → IsAscending new
ascending-put {T} n at v old new (Ok u) g o ok err =
    subst (λ (es : List (ℕ × T)). IsAscending es) (gap_filled n at v old g ∙ sym ok) (ascending-with n v old o)
ascending-put {T} n at v old new (Err e) g o ok err = subst (λ (es : List (ℕ × T)). IsAscending es) (sym err) o

-- the value that the vector gives of what it takes out
pub taken_value : {T : Type 0} (n at : ℕ) (es : List (ℕ × T)) (x : ℕ × T) → StandsAt n at es → x ≡ get_or es at x → Some x.1 ≡ value_under n es
taken_value {T} n at es x s e = ap (λ (y : ℕ × T). Some y.1) e ∙ sym (found_value n at es x s)

-- all numbers are less
pub all_less : {T : Type 0} (n last : ℕ) (es : List (ℕ × T)) (d : ℕ × T) → IsAscending es → suc last ≡ length es → (get_or es last d).0 < n
    → length es ≡ place_of n es
all_less n last es d o at less =
    let there = lesser_there n es last d o (omega (arith, at)) less in
    omega (arith, at, there, place_within n es)

-- ---- pairs by ascending number put in

pub with_one : {T : Type 0} (es ps : List (ℕ × T)) (n : ℕ) (v : T) → with_entries es (ps ++ (n, v) ∷ []) ≡ with_entry n v (with_entries es ps)
with_one es [] n v = refl
with_one es (p ∷ ps) n v = with_one (with_entry p.0 p.1 es) ps n v

-- behind the pairs before the number
behind : {T : Type 0} (es : List (ℕ × T)) (x : ℕ × T) (ps : List (ℕ × T)) → IsAscending (es ++ x ∷ ps) → with_entry x.0 x.1 es ≡ es ++ x ∷ []
behind [] x ps o = refl
behind {T} (e ∷ es) x ps o =
    let less = between es e o.0 o.1 in
    let above : nat_lt x.0 e.0 ≡ false = grind (arith, nat_tests, less) in
    let below : nat_lt e.0 x.0 ≡ true = grind (arith, nat_tests, less) in
    rw (above, below) (ap (λ (t : List (ℕ × T)). e ∷ t) (behind es x ps o.1))
  where
    between : (fs : List (ℕ × T)) (f : ℕ × T) → IsBelow f.0 (fs ++ x ∷ ps) → IsAscending (fs ++ x ∷ ps) → f.0 < x.0
    between [] f b o = grind (arith, nat_tests)
    between (g ∷ gs) f b o = let rest = between gs g o.0 o.1 in let first : f.0 < g.0 = grind (arith, nat_tests) in omega (arith, rest, first)

all_behind : {T : Type 0} (es ps : List (ℕ × T)) → IsAscending (es ++ ps) → with_entries es ps ≡ es ++ ps
all_behind es [] o = sym (append-nil es)
all_behind {T} es (p ∷ ps) o =
    let all : (es ++ p ∷ []) ++ ps ≡ es ++ p ∷ ps = append_assoc es (p ∷ []) ps in
    ap (λ (fs : List (ℕ × T)). with_entries fs ps) (behind es p ps o)
    ∙ all_behind (es ++ p ∷ []) ps (subst (λ (fs : List (ℕ × T)). IsAscending fs) (sym all) o) ∙ all

pub ascending_entries : {T : Type 0} (ps : List (ℕ × T)) → IsAscending ps → with_entries [] ps ≡ ps
ascending_entries ps o = all_behind [] ps o

-- ---- a pair by its place

pub without_at : {T : Type 0} (es : List (ℕ × T)) (i : ℕ) (d : ℕ × T) → IsAscending es → i < length es → without (get_or es i d).0 es ≡ remove es i
without_at {T} es i d o lt = found_rest (get_or es i d).0 i es (there es i o lt)
  where
    there : (es : List (ℕ × T)) (i : ℕ) → IsAscending es → i < length es → StandsAt (get_or es i d).0 i es
    there [] i o lt = absurd (omega arith)
    there (x ∷ es) zero o lt = refl
    there (x ∷ es) (suc i) o lt =
        let first = above_first x.0 es i d o.0 o.1 (omega arith) in
        (grind (arith, nat_tests, first), there es i o.1 (omega arith))

-- ---- whether numbers ascend

-- each number is at least that many, and above the one before it
abbrev pub ascend : {T : Type 0} → ℕ → List (ℕ × T) → Bool
ascend k [] = true
ascend k (e ∷ es) = if nat_lt e.0 k then false else ascend (e.0 + 1) es

below_first : {T : Type 0} (m : ℕ) (es : List (ℕ × T)) → ascend (m + 1) es ≡ true → IsBelow m es
below_first m [] a = tt
below_first {T} m (f ∷ fs) a = by_test (nat_lt f.0 (m + 1)) refl a
  where
    by_test : (b : Bool) → nat_lt f.0 (m + 1) ≡ b → (if b then false else ascend (f.0 + 1) fs) ≡ true → nat_lt m f.0 ≡ true
    by_test true is a = grind (arith, nat_tests, a)
    by_test false is a = grind (arith, nat_tests)

pub ascending_if : {T : Type 0} (k : ℕ) (es : List (ℕ × T)) → ascend k es ≡ true → IsAscending es
ascending_if k [] a = tt
ascending_if {T} k (e ∷ es) a = by_test (nat_lt e.0 k) (ascending_if (e.0 + 1) es) a
  where
    by_test : (b : Bool) → (ascend (e.0 + 1) es ≡ true → IsAscending es) → (if b then false else ascend (e.0 + 1) es) ≡ true → IsBelow e.0 es × IsAscending es
    by_test true behind a = grind (arith, nat_tests, a)
    by_test false behind a = (below_first e.0 es a, behind a)
