-- The sorted entries of fields: what they say of the numbers, and what a search finds.
use Rattle.std.proofs.Common.{◌≡◌, ℕ, zero, suc, ◌+◌, ◌<◌, ◌≤◌, Bool, true, false, ◌&&◌, if◌then◌else◌, nat_lt, List, [], ◌∷◌, ◌++◌, length, map, take, get_or, length-take, Option, Some, None, option_map, Result, Ok, Err, IfOk, IfErr, Bor, refl, sym, ap, ◌∙◌, subst, inl, inr, arith}
use Rattle.std.specs.Prelude.{◌==◌}
use Rattle.std.specs.Option.{is_some, IfSome}
use Rattle.std.specs.List.{All, AllByRecursion, IsDistinct, list_all}
use Rattle.std.specs.List.Sorted.{IsPermutation, IsNonDecreasingBy, IsSearchInRange, IsBinarySearchResult}
use Rattle.std.specs.Ordering.{nat_cmp, ordering_index}
use Rattle.std.proofs.lemmas.Bool.{cases_lt, lt-ltb, ltb-true}
use Rattle.std.proofs.lemmas.Bool.Decides.{nat_tests}
use Rattle.std.proofs.lemmas.Cmp.{ranked}
use Rattle.std.proofs.lemmas.List.{take_more, get_or_default}
use Rattle.std.proofs.lemmas.List.Sorted.{All-permutation, IsPermutation-sym, IsPermutation-cons, IsPermutation-map, IsNonDecreasingBy-from_default}
use Rattle.std.proofs.lemmas.Map.Keys.{IsDistinct-IsPermutation, IsDistinct-head, IsDistinct-tail, IsDistinct-cons}
use Rattle.pbx_wire.specs.Text.{is_record_number}
use Rattle.pbx_wire.proofs.Written.{both}
use Rattle.pbx_content.specs.declared.shape.FieldShape.{FieldShape}
use Rattle.pbx_content.specs.Shape.{inserted, by_number, field_of}
use Rattle.pbx_content.specs.Sound.{has_good_keys, AreProper}
use Rattle.pbx_content.specs.Index.{numbered, ascend, are_good, IsIndexOf}
use Rattle.pbx_content.proofs.OntoFields.{Lacks, AreApart, lacks-by_number, apart_from}

-- ---- entries in declared order

numbered-append : (at : ℕ) (fs : List FieldShape) (f : FieldShape) → numbered at (fs ++ f ∷ []) ≡ numbered at fs ++ (f.number, at + length fs) ∷ []
numbered-append at [] f = let here : at ≡ at + 0 = omega arith in ap (λ k. (f.number, k) ∷ []) here
numbered-append at (g ∷ fs) f =
    let there : at + 1 + length fs ≡ at + suc (length fs) = omega arith in
    ap (λ (t : List (ℕ × ℕ)). (g.number, at) ∷ t) (numbered-append (at + 1) fs f ∙ ap (λ k. numbered (at + 1) fs ++ (f.number, k) ∷ []) there)

pub numbered_more : (fs : List FieldShape) (i : ℕ) (d : FieldShape) → i < length fs
    → numbered 0 (take (i + 1) fs) ≡ numbered 0 (take i fs) ++ ((get_or fs i d).number, i) ∷ []
numbered_more fs i d lt =
    let len : 0 + length (take i fs) ≡ i = omega (arith, length-take i fs) in
    ap (numbered 0) (take_more fs i d lt) ∙ numbered-append 0 (take i fs) (get_or fs i d)
    ∙ ap (λ k. numbered 0 (take i fs) ++ ((get_or fs i d).number, k) ∷ []) len

numbers_of : (at : ℕ) (fs : List FieldShape) → map (λ (e : ℕ × ℕ). e.0) (numbered at fs) ≡ map (λ (f : FieldShape). f.number) fs
numbers_of at [] = refl
numbers_of at (f ∷ fs) = ap (λ (t : List ℕ). f.number ∷ t) (numbers_of (at + 1) fs)

length_numbered : (at : ℕ) (fs : List FieldShape) → length (numbered at fs) ≡ length fs
length_numbered at [] = refl
length_numbered at (f ∷ fs) = ap suc (length_numbered (at + 1) fs)

-- ---- what the order says of the numbers

flips : (x y : ℕ) → (x == y) ≡ (y == x)
flips x y = grind (arith, nat_tests)

abbrev numbers : List (ℕ × ℕ) → List ℕ
numbers es = map (λ (e : ℕ × ℕ). e.0) es

ascend_apart : (k n : ℕ) (es : List (ℕ × ℕ)) → ascend n es ≡ true → k ≤ n → AllByRecursion (λ m. (k == m) ≡ false) (numbers es)
ascend_apart k n [] h le = tt
ascend_apart k n (e ∷ es) h le =
    let parts = both (nat_lt n e.0) (ascend e.0 es) h in
    let lt : n < e.0 = ltb-true n e.0 parts.0 in
    (grind (arith, nat_tests), ascend_apart k e.0 es parts.1 (omega arith))

ascend_distinct : (n : ℕ) (es : List (ℕ × ℕ)) → ascend n es ≡ true → IsDistinct (λ m n. m == n) (numbers es)
unfolding IsDistinct
ascend_distinct n [] h = tt
ascend_distinct n (e ∷ es) h =
    let parts = both (nat_lt n e.0) (ascend e.0 es) h in
    (ascend_apart e.0 e.0 es parts.1 (omega arith), ascend_distinct e.0 es parts.1)

pub index_distinct : (fs : List FieldShape) (es : List (ℕ × ℕ)) → IsIndexOf fs es → IsDistinct (λ m n. m == n) (map (λ (f : FieldShape). f.number) fs)
index_distinct fs es h =
    let moved = IsPermutation-sym _ _ (IsPermutation-map (λ (e : ℕ × ℕ). e.0) (numbered 0 fs) es h.moved) in
    subst (IsDistinct (λ m n. m == n)) (numbers_of 0 fs)
    (IsDistinct-IsPermutation (λ m n. m == n) flips (numbers es) (numbers (numbered 0 fs)) moved (ascend_distinct 0 es h.ascending))

-- no number is less than the one before it
abbrev Rise : ℕ → List (ℕ × ℕ) → Type 0
Rise n [] = Unit {0}
Rise n (e ∷ es) = (n ≤ e.0) × Rise e.0 es

rise_from : (n : ℕ) (es : List (ℕ × ℕ)) → IsNonDecreasingBy (λ (e : ℕ × ℕ). e.0) es → (0 < length es → n ≤ (get_or es 0 (0, 0)).0) → Rise n es
rise_from n [] h first = tt
rise_from n (e ∷ es) h first =
    (first (omega arith), rise_from e.0 es (λ i j d le lt. h (suc i) (suc j) d (omega arith) (omega arith)) (λ lt. h 0 1 (0, 0) (omega arith) (omega arith)))

rise_ascends : (n : ℕ) (es : List (ℕ × ℕ)) → Rise n es → AllByRecursion (λ m. (n == m) ≡ false) (numbers es) → IsDistinct (λ m n. m == n) (numbers es)
    → ascend n es ≡ true
unfolding IsDistinct
rise_ascends n [] h a d = refl
rise_ascends n (e ∷ es) h a d =
    let apart : (n == e.0) ≡ false = a.0 in
    let lt : nat_lt n e.0 ≡ true = grind (arith, nat_tests, h.0) in
    rw (lt, rise_ascends e.0 es h.1 d.0 d.1) refl

zero_apart : (fs : List FieldShape) → list_all (λ (f : FieldShape). is_record_number f.number) fs ≡ true
    → AllByRecursion (λ m. (0 == m) ≡ false) (map (λ (f : FieldShape). f.number) fs)
zero_apart [] h = tt
zero_apart (f ∷ fs) h =
    let parts = both (is_record_number f.number) (list_all (λ (f : FieldShape). is_record_number f.number) fs) h in
    let positive : nat_lt 0 f.number ≡ true = (both (nat_lt 0 f.number) (nat_lt f.number 536870912) parts.0).0 in
    (grind (arith, nat_tests), zero_apart fs parts.1)

-- the sorted entries of proper fields ascend
pub proper_ascends : (fs : List FieldShape) (es : List (ℕ × ℕ)) → AreProper fs → IsPermutation (numbered 0 fs) es → IsNonDecreasingBy (λ (e : ℕ × ℕ). e.0) es
    → ascend 0 es ≡ true
proper_ascends fs es proper moved up =
    let apart = IsDistinct-cons (λ m n. m == n) 0 (map (λ (f : FieldShape). f.number) fs) (zero_apart fs proper.numbered) proper.distinct in
    let renamed = subst (λ ns. IsDistinct (λ m n. m == n) (0 ∷ ns)) (sym (numbers_of 0 fs)) apart in
    let after =
    IsDistinct-IsPermutation (λ m n. m == n) flips (0 ∷ numbers (numbered 0 fs)) (0 ∷ numbers es)
    (IsPermutation-cons 0 (numbers (numbered 0 fs)) (numbers es) (IsPermutation-map (λ (e : ℕ × ℕ). e.0) (numbered 0 fs) es moved)) renamed in
    rise_ascends 0 es (rise_from 0 es up (λ lt. omega arith)) (IsDistinct-head _ 0 (numbers es) after) (IsDistinct-tail _ 0 (numbers es) after)

good_parts : (fs : List FieldShape) → are_good fs ≡ true
    → (list_all (λ (f : FieldShape). is_record_number f.number) fs ≡ true) × (list_all (λ (f : FieldShape). has_good_keys f.cardinality) fs ≡ true)
good_parts [] h = (refl, refl)
good_parts (f ∷ fs) h =
    let parts = both (is_record_number f.number && has_good_keys f.cardinality) (are_good fs) h in
    let one = both (is_record_number f.number) (has_good_keys f.cardinality) parts.0 in
    let rest = good_parts fs parts.1 in
    (rw (one.0, rest.0) refl, rw (one.1, rest.1) refl)

pub proper_good : (fs : List FieldShape) → AreProper fs → are_good fs ≡ true
proper_good fs proper = at fs proper.numbered proper.keyed
  where
    at : (fs : List FieldShape) → list_all (λ (f : FieldShape). is_record_number f.number) fs ≡ true
        → list_all (λ (f : FieldShape). has_good_keys f.cardinality) fs ≡ true → are_good fs ≡ true
    at [] h k = refl
    at (f ∷ fs) h k =
        let p = both (is_record_number f.number) (list_all (λ (f : FieldShape). is_record_number f.number) fs) h in
        let q = both (has_good_keys f.cardinality) (list_all (λ (f : FieldShape). has_good_keys f.cardinality) fs) k in
        rw (p.0, q.0, at fs p.1 q.1) refl

-- fields that are good, and whose sorted entries ascend, are proper
pub index_proper : (fs : List FieldShape) (es : List (ℕ × ℕ)) → are_good fs ≡ true → IsIndexOf fs es → AreProper fs
index_proper fs es good h =
    let parts = good_parts fs good in
    record { numbered = parts.0; distinct = index_distinct fs es h; keyed = parts.1 }

-- ---- what a search finds

ascend_above : (n : ℕ) (es : List (ℕ × ℕ)) → ascend n es ≡ true → (j : ℕ) → j < length es → n < (get_or es j (0, 0)).0
ascend_above n [] h j lt = absurd (omega arith)
ascend_above n (e ∷ es) h zero lt = ltb-true n e.0 (both (nat_lt n e.0) (ascend e.0 es) h).0
ascend_above n (e ∷ es) h (suc j) lt =
    let parts = both (nat_lt n e.0) (ascend e.0 es) h in
    let less : n < e.0 = ltb-true n e.0 parts.0 in
    omega (arith, ascend_above e.0 es parts.1 j (omega arith))

ascend_rises : (n : ℕ) (es : List (ℕ × ℕ)) → ascend n es ≡ true → (i j : ℕ) → i < j → j < length es → (get_or es i (0, 0)).0 < (get_or es j (0, 0)).0
ascend_rises n [] h i j le lt = absurd (omega arith)
ascend_rises n (e ∷ es) h zero zero le lt = absurd (omega arith)
ascend_rises n (e ∷ es) h zero (suc j) le lt = ascend_above e.0 es (both (nat_lt n e.0) (ascend e.0 es) h).1 j (omega arith)
ascend_rises n (e ∷ es) h (suc i) zero le lt = absurd (omega arith)
ascend_rises n (e ∷ es) h (suc i) (suc j) le lt = ascend_rises e.0 es (both (nat_lt n e.0) (ascend e.0 es) h).1 i j (omega arith) (omega arith)

comparisons_rise : (es : List (ℕ × ℕ)) → ascend 0 es ≡ true → (n : ℕ) → IsNonDecreasingBy (λ (e : ℕ × ℕ). ordering_index (nat_cmp e.0 n)) es
comparisons_rise es h n = IsNonDecreasingBy-from_default (λ (e : ℕ × ℕ). ordering_index (nat_cmp e.0 n)) es (0, 0) (λ i j le lt.
    let up : (get_or es i (0, 0)).0 ≤ (get_or es j (0, 0)).0 =
    grind (arith, ascend_rises 0 es h i j, λ (same : i ≡ j). ap (λ k. (get_or es k (0, 0)).0) same) in
    grind (arith, nat_tests))

-- the entry of the number, or that none has it
pub record Found (es : List (ℕ × ℕ)) (n : ℕ) (r : Result ℕ ℕ) : Type 0 where
  pub found : IfOk r (λ at. (at < length es) × ((get_or es at (0, 0)).0 ≡ n))
  pub absent : IfErr r (λ at. All (λ (e : ℕ × ℕ). (n == e.0) ≡ false) es)

pub searched : (es : List (ℕ × ℕ)) (n : ℕ) (r : Result ℕ ℕ) → ascend 0 es ≡ true → IsSearchInRange r (length es)
    → IsBinarySearchResult (λ (e : ℕ × ℕ). nat_cmp e.0 n) es r → Found es n r
searched es n (Ok at) h within is = record { found = (within, ranked _ n _ (sym (is (0, 0)))); absent = tt }
searched es n (Err at) h within parted = record {
  found = tt;
  absent = λ k d lt.
      let same = ap (λ (e : ℕ × ℕ). e.0) (get_or_default es k d (0, 0) lt) in
      elim (cases_lt k at) [
        | inl below ↦ (let less = ranked _ n _ (sym ((parted (comparisons_rise es h n)).0 k (0, 0) (omega arith) below)) in grind (arith, nat_tests))
        | inr above ↦ (let more = ranked _ n _ (sym ((parted (comparisons_rise es h n)).1 k (0, 0) above lt)) in grind (arith, nat_tests))
      ];
}

-- ---- the field that an entry tells

-- the entry is that of a field of these
abbrev pub IsPlace : List FieldShape → ℕ × ℕ → Type 0
IsPlace fs e = (e.1 < length fs) × ((d : FieldShape) → (get_or fs e.1 d).number ≡ e.0)

entry_number : (at : ℕ) (fs : List FieldShape) (k : ℕ) (d : FieldShape) (e : ℕ × ℕ) → k < length fs → (get_or (numbered at fs) k e).0 ≡ (get_or fs k d).number
entry_number at [] k d e lt = absurd (omega arith)
entry_number at (f ∷ fs) zero d e lt = refl
entry_number at (f ∷ fs) (suc k) d e lt = entry_number (at + 1) fs k d e (omega arith)

entry_place : (at : ℕ) (fs : List FieldShape) (k : ℕ) (e : ℕ × ℕ) → k < length fs → (get_or (numbered at fs) k e).1 ≡ at + k
entry_place at [] k e lt = absurd (omega arith)
entry_place at (f ∷ fs) zero e lt = omega arith
entry_place at (f ∷ fs) (suc k) e lt = omega (arith, entry_place (at + 1) fs k e (omega arith))

places : (fs : List FieldShape) → All (IsPlace fs) (numbered 0 fs)
places fs k e lt =
    let within : k < length fs = omega (arith, length_numbered 0 fs) in
    let place : (get_or (numbered 0 fs) k e).1 ≡ k = omega (arith, entry_place 0 fs k e within) in
    (omega arith, λ d. ap (λ i. (get_or fs i d).number) place ∙ sym (entry_number 0 fs k d e within))

-- in an index each entry is that of a field
pub index_places : (fs : List FieldShape) (es : List (ℕ × ℕ)) → IsIndexOf fs es → All (IsPlace fs) es
index_places fs es h = All-permutation (IsPlace fs) (numbered 0 fs) es h.moved (places fs)

field_at : (fs : List FieldShape) → AreApart fs → (p : ℕ) (d : FieldShape) → p < length fs → field_of (get_or fs p d).number fs ≡ Some (get_or fs p d)
field_at [] a p d lt = absurd (omega arith)
field_at (f ∷ fs) a zero d lt = let here : (f.number == f.number) ≡ true = grind (arith, nat_tests) in rw here refl
field_at (f ∷ fs) a (suc p) d lt =
    let other : ((get_or fs p d).number == f.number) ≡ false = flips (get_or fs p d).number f.number ∙ lacks_at fs a.1 p (omega arith) in
    rw other (field_at fs a.2 p d (omega arith))
  where
    lacks_at : (fs : List FieldShape) → Lacks f.number fs → (p : ℕ) → p < length fs → (f.number == (get_or fs p d).number) ≡ false
    lacks_at [] h p lt = absurd (omega arith)
    lacks_at (g ∷ fs) h zero lt = h.0
    lacks_at (g ∷ fs) h (suc p) lt = lacks_at fs h.1 p (omega arith)

field_of-inserted : (n : ℕ) (f : FieldShape) (gs : List FieldShape) → Lacks f.number gs → field_of n (inserted f gs) ≡ field_of n (f ∷ gs)
field_of-inserted n f [] h = refl
field_of-inserted n f (g ∷ gs) h = at (nat_lt g.number f.number) (n == g.number) refl (n == f.number) refl (field_of-inserted n f gs h.1)
  where
    at : (a b : Bool) → (n == g.number) ≡ b → (c : Bool) → (n == f.number) ≡ c → field_of n (inserted f gs) ≡ (if c then Some f else field_of n gs)
        → field_of n (if a then g ∷ inserted f gs else f ∷ g ∷ gs) ≡ (if c then Some f else (if b then Some g else field_of n gs))
    at false b p c q ih = rw (p, q) refl
    at true false p c q ih = rw p ih
    at true true p false q ih = rw p refl
    at true true p true q ih = absurd (let same : (f.number == g.number) ≡ true = grind (arith, nat_tests) in let bad : true ≡ false = sym same ∙ h.0 in cc)

field_of-by_number : (n : ℕ) (fs : List FieldShape) → AreApart fs → field_of n (by_number fs) ≡ field_of n fs
field_of-by_number n [] h = refl
field_of-by_number n (f ∷ fs) h =
    field_of-inserted n f (by_number fs) (lacks-by_number f.number fs h.1)
    ∙ ap (λ (o : Option FieldShape). if n == f.number then Some f else o) (field_of-by_number n fs h.2)

-- what the entry of a number tells
pub field_found : (fs : List FieldShape) (es : List (ℕ × ℕ)) (n at : ℕ) (o : Option (Bor FieldShape)) → AreProper fs → IsIndexOf fs es → at < length es
    → (get_or es at (0, 0)).0 ≡ n
    → is_some o ≡ nat_lt (get_or es at (0, 0)).1 (length fs) → IfSome o (λ x. x.now ≡ get_or fs (get_or es at (0, 0)).1 x.now)
    → option_map (λ field. field.now) o ≡ field_of n (by_number fs)
field_found fs es n at None proper h lt is there read =
    let within = (index_places fs es h at (0, 0) lt).0 in
    absurd (let bad : false ≡ true = there ∙ lt-ltb (get_or es at (0, 0)).1 (length fs) within in cc)
field_found fs es n at (Some x) proper h lt is there read =
    let apart = apart_from fs proper.numbered proper.distinct in
    let place = index_places fs es h at (0, 0) lt in
    ap (λ (f : FieldShape). Some f) read
    ∙ sym (field_of-by_number n fs apart ∙ ap (λ k. field_of k fs) (sym is ∙ sym (place.1 x.now)) ∙ field_at fs apart (get_or es at (0, 0)).1 x.now place.0)

-- what it tells where no entry has the number
pub field_absent : (fs : List FieldShape) (es : List (ℕ × ℕ)) (n : ℕ) → AreProper fs → IsIndexOf fs es → All (λ (e : ℕ × ℕ). (n == e.0) ≡ false) es
    → field_of n (by_number fs) ≡ None
field_absent fs es n proper h none =
    let apart = apart_from fs proper.numbered proper.distinct in
    let before = All-permutation (λ (e : ℕ × ℕ). (n == e.0) ≡ false) es (numbered 0 fs) (IsPermutation-sym (numbered 0 fs) es h.moved) none in
    field_of-by_number n fs apart ∙ at 0 fs before
  where
    at : (k : ℕ) (fs : List FieldShape) → All (λ (e : ℕ × ℕ). (n == e.0) ≡ false) (numbered k fs) → field_of n fs ≡ None
    at k [] h = refl
    at k (f ∷ fs) h = rw (h 0 (0, 0) (omega arith)) (at (k + 1) fs (λ i d lt. h (suc i) d (omega arith)))
