-- Ranges with their indexes, and those that have numbers together.
use Rattle.std.proofs.Common.{◌≡◌, ◌∙◌, ◌⊎◌, ◌≢◌, ℕ, ◌+◌, ◌-◌, ◌<◌, ◌≤◌, ℤ, int_lt, max, ◌<ℤ◌, ◌≤ℤ◌, ◌&&◌, ◌==◌, cond, List, [], ◌∷◌, ◌++◌, map, length, take, drop, get_or, Bool, true, false, Option, Some, None, pos, refl, ap, sym, subst, inl, inr, arith}
use Rattle.std.specs.Prelude.{Contains}
use Rattle.std.specs.List.{Any, enumerate_from, swap}
use Rattle.std.specs.List.Sorted.{IsPermutation}
use Rattle.std.specs.Ordering.{int_cmp, is_lt, MatchOrdering}
use Rattle.std.specs.declared.cmp.Ordering.{Ordering}
use Rattle.std.proofs.Common.{Less, Equal, Greater}
use Rattle.std.proofs.lemmas.Cmp.{int_ranked, int_cmp_total}
use Rattle.std.proofs.lemmas.Bool.Decides.{nat_tests}
use Rattle.std.proofs.lemmas.Int.{ints}
use Rattle.std.proofs.lemmas.Bool.{false≢true, cases_lt}
use Rattle.std.proofs.lemmas.List.{get_or_default, get_or-take, get_or-drop, length-take, length-drop, length-take-le, length-map, get_or-map, map-append, take_more}
use Rattle.std.proofs.lemmas.List.Elements.{Contains-get_or}
use Rattle.std.proofs.lemmas.List.Edits.{swapped_from_swap, Swapped, length-swap}
use Rattle.std.proofs.lemmas.List.Folds.{list_any_at, Any-from_list_any}
use Rattle.std.proofs.lemmas.List.FromFn.{length-enumerate_from, get_or-enumerate_from}
use Rattle.std.proofs.lemmas.List.Sorted.{sorted_far, ranks_by, IsPermutation-keeps, IsPermutation-sym, Contains-permutation}
use Rattle.pbx_link_rules_record.specs.declared.spans.Span.{Span}
use Rattle.pbx_link_definitions.specs.Ranges.{Range}
use Rattle.pbx_link_rules_record.specs.RangeRules.{is_shared, share_number}
use Rattle.pbx_link_definitions.specs.Found.{IsIndex, is_earlier}
use Rattle.pbx_link_rules_record.specs.Spans.{end_or, span_of, IsSortedByStart, spans_share, IsSharedIn}

-- ---- what it is to share a number

and_no : (a : Bool) → (a && false) ≡ false
and_no true = refl
and_no false = refl

lt_itself : (z : ℤ) → int_lt z z ≡ false
lt_itself z = grind (arith, ints)

pub share_is : (i j : ℕ) (r s : Range) → share_number r s ≡ spans_share (span_of (i, r)) (span_of (j, s))
share_is i j r s = at r.«end» s.«end»
  where
    at : (a b : Option ℤ) → is_shared r.start a s.start b ≡ (int_lt r.start (end_or r.start a) && int_lt s.start (end_or s.start b) && int_lt r.start (end_or s.start b) && int_lt s.start (end_or r.start a))
    at (Some a) (Some b) = refl
    at (Some a) None = rw lt_itself (rw and_no refl)
    at None (Some b) = rw lt_itself refl
    at None None = rw lt_itself refl

four_back : (a b c d : Bool) → (a && b && c && d) ≡ (b && a && d && c)
four_back true true true true = refl
four_back true true true false = refl
four_back true true false true = refl
four_back true true false false = refl
four_back true false c d = refl
four_back false true c d = refl
four_back false false c d = refl

pub share_back : (s t : Span) → spans_share s t ≡ spans_share t s
share_back s t = four_back (int_lt s.start s.«end») (int_lt t.start t.«end») (int_lt s.start t.«end») (int_lt t.start s.«end»)

lt_true : (a b : ℤ) → a <ℤ b → int_lt a b ≡ true
lt_true a b h = grind (arith, ints)

le_false : (a b : ℤ) → b ≤ℤ a → int_lt a b ≡ false
le_false a b h = grind (arith, ints)

pub found_shares : (s t : Span) → t.start ≤ℤ s.start → s.start <ℤ s.«end» → s.start <ℤ t.«end» → spans_share s t ≡ true
found_shares s t le own other =
    let a : int_lt s.start s.«end» ≡ true = lt_true s.start s.«end» own in
    let b : int_lt t.start t.«end» ≡ true = lt_true t.start t.«end» (omega (arith, ints)) in
    let d : int_lt s.start t.«end» ≡ true = lt_true s.start t.«end» other in
    let e : int_lt t.start s.«end» ≡ true = lt_true t.start s.«end» (omega (arith, ints)) in
    rw (a, b, d, e) refl

pub empty_shares_none : (s t : Span) → s.«end» ≤ℤ s.start → spans_share s t ≡ false
empty_shares_none s t h = rw (le_false s.start s.«end» h) refl

pub behind_shares_none : (s t : Span) → t.«end» ≤ℤ s.start → spans_share s t ≡ false
behind_shares_none s t h = at (int_lt s.start s.«end») (int_lt t.start t.«end»)
  where
    at : (a b : Bool) → (a && b && int_lt s.start t.«end» && int_lt t.start s.«end») ≡ false
    at true true = rw (le_false s.start t.«end» h) refl
    at true false = refl
    at false b = refl

-- ---- one span more

-- no two of the spans up to this index have a number together
abbrev pub NoneShare : List Span → ℕ → Type 0
NoneShare ss i = (a b : ℕ) (s : Span) → a < b → b ≤ i → spans_share (get_or ss b s) (get_or ss a s) ≡ false

-- no span up to this index ends behind this number
abbrev pub EndBefore : List Span → ℕ → ℤ → Type 0
EndBefore ss i z = (k : ℕ) (s : Span) → k ≤ i → (get_or ss k s).«end» ≤ℤ z

pub none_more : (ss : List Span) (i : ℕ) (x : Span) (z : ℤ) → i + 1 < length ss → x ≡ get_or ss (i + 1) x → NoneShare ss i → EndBefore ss i z
    → (x.«end» ≤ℤ x.start) ⊎ (z ≤ℤ x.start) → NoneShare ss (i + 1)
none_more ss i x z lt is none ends apart a b s below upto = at apart (cases_lt i b)
  where
    last : i < b → get_or ss b s ≡ x
    last gt =
        let same : b ≡ i + 1 = omega arith in
        ap (λ (n : ℕ). get_or ss n s) same ∙ get_or_default ss (i + 1) s x lt ∙ sym is

    at : (x.«end» ≤ℤ x.start) ⊎ (z ≤ℤ x.start) → (i < b) ⊎ (b ≤ i) → spans_share (get_or ss b s) (get_or ss a s) ≡ false
    at h (inr le) = none a b s below le
    at (inl e) (inl gt) = ap (λ (t : Span). spans_share t (get_or ss a s)) (last gt) ∙ empty_shares_none x (get_or ss a s) e
    at (inr e) (inl gt) =
        let before : (get_or ss a s).«end» ≤ℤ z = ends a s (omega arith) in
        ap (λ (t : Span). spans_share t (get_or ss a s)) (last gt) ∙ behind_shares_none x (get_or ss a s) (omega (arith, ints))

pub ends_more : (ss : List Span) (i : ℕ) (x : Span) (z y : ℤ) → i + 1 < length ss → x ≡ get_or ss (i + 1) x → EndBefore ss i z → z ≤ℤ y → x.«end» ≤ℤ y → EndBefore ss (i + 1) y
ends_more ss i x z y lt is ends le own k s upto = at (cases_lt i k)
  where
    at : (i < k) ⊎ (k ≤ i) → (get_or ss k s).«end» ≤ℤ y
    at (inr h) = let before : (get_or ss k s).«end» ≤ℤ z = ends k s h in omega (arith, ints)
    at (inl h) =
        let same : k ≡ i + 1 = omega arith in
        let it : get_or ss k s ≡ x = ap (λ (n : ℕ). get_or ss n s) same ∙ get_or_default ss (i + 1) s x lt ∙ sym is in
        subst (λ (t : Span). t.«end» ≤ℤ y) (sym it) own

-- ---- spans that are sorted by start

lt_not : (a b : ℤ) → is_lt (int_cmp a b) ≡ false → b ≤ℤ a
lt_not a b h = at (int_cmp a b) (int_ranked a b (int_cmp a b) refl) h
  where
    at : (o : Ordering) → MatchOrdering o (a <ℤ b) (a ≡ b) (b <ℤ a) → is_lt o ≡ false → b ≤ℤ a
    at Less r e = absurd (cc)
    at Equal r e = omega (arith, ints)
    at Greater r e = omega (arith, ints)

pub starts_rise : (ss : List Span) → IsSortedByStart ss → (a b : ℕ) (s : Span) → a ≤ b → b < length ss → (get_or ss a s).start ≤ℤ (get_or ss b s).start
starts_rise ss up a b s le lt =
    lt_not (get_or ss b s).start (get_or ss a s).start (sorted_far (λ x y. is_lt (int_cmp x.start y.start)) (ranks_by int_cmp_total (λ (x : Span). x.start)) ss up a b s le lt)

pub shared_found : (ss : List Span) (i : ℕ) (x y : Span) → i + 1 < length ss → x ≡ get_or ss (i + 1) x → (a : ℕ) × (a ≤ i) × (y ≡ get_or ss a y) → x.start <ℤ x.«end» → x.start <ℤ y.«end»
    → IsSharedIn ss (Some (max x.index y.index))
shared_found ss i x y lt is (a, le, at) own other up = (
  a,
  i + 1,
  omega arith,
  lt,
  λ s.
      let x_at : get_or ss (i + 1) s ≡ x = get_or_default ss (i + 1) s x lt ∙ sym is in
      let y_at : get_or ss a s ≡ y = get_or_default ss a s y (omega arith) ∙ sym at in
      let rises : (get_or ss a s).start ≤ℤ (get_or ss (i + 1) s).start = starts_rise ss up a (i + 1) s (omega arith) lt in
      let rise : y.start ≤ℤ x.start = subst (λ (u : Span). u.start ≤ℤ x.start) y_at (subst (λ (t : Span). (get_or ss a s).start ≤ℤ t.start) x_at rises) in (
        ap (λ (t : Span). spans_share t (get_or ss a s)) x_at ∙ ap (spans_share x) y_at ∙ found_shares x y rise own other,
        sym (ap (λ (t : Span). max t.index (get_or ss a s).index) x_at ∙ ap (λ (u : Span). max x.index u.index) y_at),
      ),
)

pub none_found : (ss : List Span) (i : ℕ) → length ss ≤ i + 1 → NoneShare ss i → IsSharedIn ss None
none_found ss i all none up a b s below lt = none a b s below (omega arith)

-- an item behind the first
pub item_behind : (ss : List Span) (i : ℕ) (d : Span) → i < length (take (length ss - 1) (drop 1 ss))
    → (i + 1 < length ss) × (get_or (take (length ss - 1) (drop 1 ss)) i d ≡ get_or ss (i + 1) (get_or (take (length ss - 1) (drop 1 ss)) i d))
item_behind ss i d lt =
    let within : i + 1 < length ss = omega (arith, length-take (length ss - 1) (drop 1 ss), length-drop 1 ss) in
    (within, item)
  where
    item : get_or (take (length ss - 1) (drop 1 ss)) i d ≡ get_or ss (i + 1) (get_or (take (length ss - 1) (drop 1 ss)) i d)
    item =
        let below : i < length ss - 1 = omega (arith, length-take (length ss - 1) (drop 1 ss), length-drop 1 ss) in
        let one : 1 + i ≡ i + 1 = omega arith in
        get_or-take (length ss - 1) (drop 1 ss) i d below ∙ get_or-drop 1 ss i d ∙ ap (λ (n : ℕ). get_or ss n d) one
        ∙ get_or_default ss (i + 1) d (get_or (take (length ss - 1) (drop 1 ss)) i d) (omega (arith, length-take (length ss - 1) (drop 1 ss), length-drop 1 ss))

pub near_still : (ss : List Span) (i : ℕ) (x y : Span) → y ≡ x → (a : ℕ) × (a ≤ i) × (x ≡ get_or ss a x) → (a : ℕ) × (a ≤ i + 1) × (y ≡ get_or ss a y)
near_still ss i x y same (a, le, at) = (a, omega arith, same ∙ at ∙ ap (get_or ss a) (sym same))

-- ---- all spans of a list of ranges

abbrev pub all_spans : List Range → List Span
all_spans rs = map span_of (enumerate_from 0 rs)

enumerate_push : {X : Type 0} (k : ℕ) (xs : List X) (x : X) → enumerate_from k (xs ++ x ∷ []) ≡ enumerate_from k xs ++ (k + length xs, x) ∷ []
enumerate_push {X} k [] x =
    let same : k ≡ k + length {A = X} [] = omega arith in
    ap (λ (n : ℕ). (n, x) ∷ []) same
enumerate_push {X} k (y ∷ ys) x =
    let same : (k + 1) + length ys ≡ k + length (y ∷ ys) = omega arith in
    ap (λ (ps : List (ℕ × X)). (k, y) ∷ ps) (enumerate_push (k + 1) ys x) ∙ ap (λ (n : ℕ). (k, y) ∷ (enumerate_from (k + 1) ys ++ (n, x) ∷ [])) same

pub spans_more : (rs : List Range) (i : ℕ) (r : Range) (x : Span) (now : List Span) → i < length rs → r ≡ get_or rs i r → x ≡ span_of (i, r) → now ≡ all_spans (take i rs) → now ++ x ∷ [] ≡ all_spans (take (i + 1) rs)
spans_more rs i r x now lt is same so_far =
    let at : 0 + length (take i rs) ≡ i = omega (arith, length-take-le i rs (omega (arith, lt))) in
    let more : all_spans (take (i + 1) rs) ≡ all_spans (take i rs) ++ span_of (i, r) ∷ [] =
    ap all_spans (take_more rs i r lt ∙ ap (λ (y : Range). take i rs ++ y ∷ []) (sym is))
    ∙ ap (map span_of) (enumerate_push 0 (take i rs) r ∙ ap (λ (k : ℕ). enumerate_from 0 (take i rs) ++ (k, r) ∷ []) at)
    ∙ map-append span_of (enumerate_from 0 (take i rs)) ((i, r) ∷ []) in
    ap (λ (ss : List Span). ss ++ x ∷ []) so_far ∙ ap (λ (y : Span). all_spans (take i rs) ++ y ∷ []) same ∙ sym more

length_spans : (rs : List Range) → length (all_spans rs) ≡ length rs
length_spans rs = length-map (enumerate_from 0 rs) span_of ∙ length-enumerate_from 0 rs

span_at : (rs : List Range) (k : ℕ) (r : Range) (s : Span) → k < length rs → get_or (all_spans rs) k s ≡ span_of (k, get_or rs k r)
span_at rs k r s lt =
    let count : k < length (enumerate_from 0 rs) = omega (arith, length-enumerate_from 0 rs) in
    let from : 0 + k ≡ k = omega arith in
    get_or-map span_of (enumerate_from 0 rs) k (0, r) s count ∙ ap span_of (get_or-enumerate_from 0 rs k (0, r) lt ∙ ap (λ (n : ℕ). (n, get_or rs k r)) from)

-- spans at two places have two indexes
abbrev Apart : List Span → Type 0
Apart ss = (a b : ℕ) (s : Span) → a < length ss → b < length ss → (get_or ss a s).index ≡ (get_or ss b s).index → a ≡ b

spans_apart : (rs : List Range) → Apart (all_spans rs)
spans_apart rs a b s la lb same =
    let r : Range = record { start = s.start; «end» = None } in
    sym (ap (λ (t : Span). t.index) (span_at rs a r s (omega (arith, length_spans rs)))) ∙ same ∙ ap (λ (t : Span). t.index) (span_at rs b r s (omega (arith, length_spans rs)))

swapped : ℕ → ℕ → ℕ → ℕ
swapped i j k = cond (k == i) j (cond (k == j) i k)

swapped_back : (i j k : ℕ) → swapped i j (swapped i j k) ≡ k
unfolding swapped
swapped_back i j k = grind (arith, nat_tests)

swapped_below : (i j k n : ℕ) → i < n → j < n → k < n → swapped i j k < n
unfolding swapped
swapped_below i j k n li lj lk = grind (arith, nat_tests)

swap_at : (ss : List Span) (i j k : ℕ) (s : Span) → i < length ss → j < length ss → get_or (swap ss i j) k s ≡ get_or ss (swapped i j k) s
unfolding swapped
swap_at ss i j k s li lj = at (k == i) (k == j) refl refl (swapped_from_swap ss (swap ss i j) i j s li lj refl)
  where
    at : (a b : Bool) → (k == i) ≡ a → (k == j) ≡ b → Swapped (λ n. get_or ss n s) (λ n. get_or (swap ss i j) n s) i j → get_or (swap ss i j) k s ≡ get_or ss (cond a j (cond b i k)) s
    at true b e f w =
        let same : k ≡ i = grind (arith, nat_tests) in
        ap (λ (n : ℕ). get_or (swap ss i j) n s) same ∙ w.0
    at false true e f w =
        let same : k ≡ j = grind (arith, nat_tests) in
        ap (λ (n : ℕ). get_or (swap ss i j) n s) same ∙ w.1
    at false false e f w =
        let ne : k ≢ i = grind (arith, nat_tests) in
        let nf : k ≢ j = grind (arith, nat_tests) in
        w.2 k ne nf

apart_swapped : (ss : List Span) (i j : ℕ) → i < length ss → j < length ss → Apart ss → Apart (swap ss i j)
apart_swapped ss i j li lj h a b s la lb same =
    let la' : a < length ss = omega (arith, length-swap ss i j) in
    let lb' : b < length ss = omega (arith, length-swap ss i j) in
    let e : (get_or ss (swapped i j a) s).index ≡ (get_or ss (swapped i j b) s).index =
    ap (λ (t : Span). t.index) (sym (swap_at ss i j a s li lj)) ∙ same ∙ ap (λ (t : Span). t.index) (swap_at ss i j b s li lj) in
    sym (swapped_back i j a) ∙ ap (swapped i j) (h (swapped i j a) (swapped i j b) s (swapped_below i j a (length ss) li lj la') (swapped_below i j b (length ss) li lj lb') e) ∙ swapped_back i j b

apart_kept : (rs : List Range) (ss : List Span) → IsPermutation (all_spans rs) ss → Apart ss
apart_kept rs ss p = IsPermutation-keeps (all_spans rs) Apart (spans_apart rs) (λ l i j li lj h. apart_swapped l i j li lj h) ss p

-- a span of the list, wherever it went, stands for the range at its index
stands_for : (rs : List Range) (ss : List Span) (a : ℕ) (r : Range) (s : Span) → IsPermutation (all_spans rs) ss → a < length ss
    → ((get_or ss a s).index < length rs) × (get_or ss a s ≡ span_of ((get_or ss a s).index, get_or rs (get_or ss a s).index r))
stands_for rs ss a r s p la = at (Contains-permutation ss (all_spans rs) (get_or ss a s) (IsPermutation-sym (all_spans rs) ss p) (Contains-get_or ss a s la))
  where
    at : Contains (all_spans rs) (get_or ss a s) → ((get_or ss a s).index < length rs) × (get_or ss a s ≡ span_of ((get_or ss a s).index, get_or rs (get_or ss a s).index r))
    at (k, lk, e) =
        let lt : k < length rs = omega (arith, length_spans rs) in
        let is : get_or ss a s ≡ span_of (k, get_or rs k r) = sym e ∙ span_at rs k r (get_or ss a s) lt in
        let n : (get_or ss a s).index ≡ k = ap (λ (t : Span). t.index) is in
        (subst (λ (m : ℕ). m < length rs) (sym n) lt, subst (λ (m : ℕ). get_or ss a s ≡ span_of (m, get_or rs m r)) (sym n) is)

shares_earlier : (rs : List Range) (i j : ℕ) (r : Range) → j < i → i < length rs → share_number (get_or rs i r) (get_or rs j r) ≡ true → is_earlier share_number rs i (get_or rs i r) ≡ true
shares_earlier rs i j r lt li e =
    let count : j < length (take i rs) = omega (arith, length-take-le i rs (omega (arith, li))) in
    list_any_at (share_number (get_or rs i r)) (take i rs) j r count (ap (share_number (get_or rs i r)) (get_or-take i rs j r lt) ∙ e)

overlap_at : (rs : List Range) (m n i : ℕ) (r : Range) → m < length rs → n < length rs → share_number (get_or rs m r) (get_or rs n r) ≡ true → share_number (get_or rs n r) (get_or rs m r) ≡ true
    → m ≢ n → i ≡ max m n → IsIndex (is_earlier share_number rs) rs (Some i)
overlap_at rs m n i r lm ln one other apart is = at (cases_lt n m)
  where
    there : (k j : ℕ) → i ≡ k → j < k → k < length rs → share_number (get_or rs k r) (get_or rs j r) ≡ true → IsIndex (is_earlier share_number rs) rs (Some i)
    there k j e lt lk share = subst (λ (z : ℕ). IsIndex (is_earlier share_number rs) rs (Some z)) (sym e)
        (lk, λ d. subst (λ (x : Range). is_earlier share_number rs k x ≡ true) (get_or_default rs k r d lk) (shares_earlier rs k j r lt lk share))

    at : (n < m) ⊎ (m ≤ n) → IsIndex (is_earlier share_number rs) rs (Some i)
    at (inl lt) = there m n (omega arith) lt lm one
    at (inr le) = let lt : m < n = omega arith in there n m (omega arith) lt ln other

-- a range that has a number with an earlier one contradicts that no two of the spans have
earlier_not : (rs : List Range) (ss : List Span) → IsPermutation (all_spans rs) ss → ((a b : ℕ) (s : Span) → a < b → b < length ss → spans_share (get_or ss b s) (get_or ss a s) ≡ false)
    → (k : ℕ) (r : Range) → k < length rs → is_earlier share_number rs k (get_or rs k r) ≡ true → ⊥
earlier_not rs ss p h k r lk e = with_earlier (Any-from_list_any (share_number (get_or rs k r)) (take k rs) e)
  where
    span : ℕ → Span
    span n = span_of (n, get_or rs n r)

    -- where the span of this index went
    went : (n : ℕ) → n < length rs → Contains ss (span_of (n, get_or rs n r))
    went n ln =
        let count : n < length (all_spans rs) = omega (arith, length_spans rs) in
        Contains-permutation (all_spans rs) ss (span_of (n, get_or rs n r)) p
        (subst (Contains (all_spans rs)) (span_at rs n r (span_of (n, get_or rs n r)) ln) (Contains-get_or (all_spans rs) n (span_of (n, get_or rs n r)) count))

    apart : (j : ℕ) → j < k → spans_share (span_of (k, get_or rs k r)) (span_of (j, get_or rs j r)) ≡ true
        → Contains ss (span_of (k, get_or rs k r)) → Contains ss (span_of (j, get_or rs j r)) → ⊥
    apart j lt share (a, la, at_a) (b, lb, at_b) = by_order (cases_lt a b)
      where
        s : Span
        s = span_of (k, get_or rs k r)

        x_at : get_or ss a (span_of (k, get_or rs k r)) ≡ span_of (k, get_or rs k r)
        x_at = at_a

        y_at : get_or ss b (span_of (k, get_or rs k r)) ≡ span_of (j, get_or rs j r)
        y_at = get_or_default ss b (span_of (k, get_or rs k r)) (span_of (j, get_or rs j r)) lb ∙ at_b

        by_order : (a < b) ⊎ (b ≤ a) → ⊥
        by_order (inl ab) = false≢true (sym (h a b (span_of (k, get_or rs k r)) ab lb)
            ∙ ap (λ (t : Span). spans_share t (get_or ss a (span_of (k, get_or rs k r)))) y_at ∙ ap (spans_share (span_of (j, get_or rs j r))) x_at
            ∙ share_back (span_of (j, get_or rs j r)) (span_of (k, get_or rs k r)) ∙ share)
        by_order (inr le) =
            let other : a ≢ b = λ e. absurd (let same : k ≡ j = ap (λ (t : Span). t.index) (sym x_at ∙ ap (λ (n : ℕ). get_or ss n (span_of (k, get_or rs k r))) e ∙ y_at) in omega arith) in
            let ba : b < a = omega arith in
            false≢true (sym (h b a (span_of (k, get_or rs k r)) ba la)
            ∙ ap (λ (t : Span). spans_share t (get_or ss b (span_of (k, get_or rs k r)))) x_at ∙ ap (spans_share (span_of (k, get_or rs k r))) y_at ∙ share)

    with_earlier : Any (λ x. share_number (get_or rs k r) x ≡ true) (take k rs) → ⊥
    with_earlier (j, x, lj, at, shares) =
        let lt : j < k = omega (arith, length-take k rs) in
        let is : x ≡ get_or rs j r = sym at ∙ get_or-take k rs j x lt ∙ get_or_default rs j x r (omega (arith, length-take k rs)) in
        apart j lt (sym (share_is k j (get_or rs k r) (get_or rs j r)) ∙ ap (share_number (get_or rs k r)) (sym is) ∙ shares) (went k lk) (went j (omega (arith, length-take k rs)))

-- two spans that share a number: the greater index is that of a range that has a number with an earlier one
pub overlap_found : (rs : List Range) (ss : List Span) (i : ℕ) → IsPermutation (all_spans rs) ss
    → (a : ℕ) × (b : ℕ) × (a < b) × (b < length ss) × ((s : Span) → (spans_share (get_or ss b s) (get_or ss a s) ≡ true) × (i ≡ max (get_or ss b s).index (get_or ss a s).index))
    → IsIndex (is_earlier share_number rs) rs (Some i)
overlap_found rs ss i p (a, b, below, lb, h) =
    let s : Span = record { start = pos 0; «end» = pos 0; index = 0 } in
    let r : Range = record { start = pos 0; «end» = None } in
    let x : Span = get_or ss b s in
    let y : Span = get_or ss a s in
    let la : a < length ss = omega arith in
    let xs = stands_for rs ss b r s p lb in
    let ys = stands_for rs ss a r s p la in
    let shares : share_number (get_or rs x.index r) (get_or rs y.index r) ≡ true =
    share_is x.index y.index (get_or rs x.index r) (get_or rs y.index r) ∙ ap (λ (t : Span). spans_share t (span_of (y.index, get_or rs y.index r))) (sym xs.1) ∙ ap (spans_share x) (sym ys.1) ∙ (h s).0 in
    let back : share_number (get_or rs y.index r) (get_or rs x.index r) ≡ true =
    share_is y.index x.index (get_or rs y.index r) (get_or rs x.index r) ∙ ap (λ (t : Span). spans_share t (span_of (x.index, get_or rs x.index r))) (sym ys.1) ∙ ap (spans_share y) (sym xs.1) ∙ share_back y x ∙ (h s).0 in
    let other : x.index ≢ y.index = λ e. absurd (let same = apart_kept rs ss p b a s lb la e in omega arith) in
    overlap_at rs x.index y.index i r xs.0 ys.0 shares back other (h s).1

pub overlap_none : (rs : List Range) (ss : List Span) → IsPermutation (all_spans rs) ss
    → ((a b : ℕ) (s : Span) → a < b → b < length ss → spans_share (get_or ss b s) (get_or ss a s) ≡ false) → IsIndex (is_earlier share_number rs) rs None
overlap_none rs ss p h k r lk = at (is_earlier share_number rs k (get_or rs k r)) refl
  where
    at : (b : Bool) → is_earlier share_number rs k (get_or rs k r) ≡ b → b ≡ false
    at false e = refl
    at true e = absurd (earlier_not rs ss p h k r lk e)
