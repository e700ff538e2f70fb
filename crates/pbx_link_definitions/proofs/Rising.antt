-- Spans that are sorted by their starts, with the greatest end so far.
use Rattle.std.proofs.Common.{◌≡◌, ◌∙◌, ℕ, zero, suc, ◌+◌, ◌<◌, ◌≤◌, Bool, true, false, ◌&&◌, ◌||◌, List, [], ◌∷◌, ◌++◌, map, length, drop}
use Rattle.std.proofs.Common.{get_or, refl, ap, sym, arith}
use mir.Val.{SFits}
use mir.Syntax.{w32}
use Rattle.std.specs.Prelude.{ℤ, negsuc, nat_le, int_le, int_lt, Option, Some, None}
use Rattle.std.specs.List.{list_any}
use Rattle.std.specs.Int.{int_max}
use Rattle.std.specs.Ordering.{int_cmp, is_lt}
use Rattle.std.specs.Cmp.{int_cmp_total}
use Rattle.std.specs.List.Sorted.{IsSortedByKey, IsPermutation, IsPartitionPoint}
use Rattle.std.proofs.lemmas.Int.{ints}
use Rattle.std.proofs.lemmas.Bool.Decides.{nat_tests}
use Rattle.std.proofs.lemmas.List.{at_drop_more, at_drop_all, append_assoc}
use Rattle.std.proofs.lemmas.List.Sorted.{sorted_far, ranks_by, list_any-IsPermutation}
use Rattle.std.proofs.lemmas.List.Folds.{list_any_none, list_any_at}
use Rattle.pbx_link_definitions.specs.Ranges.{Range, in_ranges}
use Rattle.pbx_link_definitions.specs.Spans.{span_range, Rise}
use Rattle.pbx_link_definitions.specs.declared.ranges.Span.{Span}

-- the number is in the span
abbrev pub has : ℤ → Span → Bool
has z s = int_le s.start z && int_lt z s.«end»

-- the first span begins at the number or below
abbrev begins : ℤ → List Span → Bool
begins z [] = false
begins z (s ∷ ss) = int_le s.start z

-- the spans with the greatest of m and the ends so far
abbrev pub raised : ℤ → List Span → List Span
raised m [] = []
raised m (s ∷ ss) = record { start = s.start; «end» = int_max m s.«end» } ∷ raised (int_max m s.«end») ss

-- starts rise
abbrev pub Starts : List Span → Type 0
Starts ss = (i j : ℕ) (d : Span) → i ≤ j → j < length ss → int_le (get_or ss i d).start (get_or ss j d).start ≡ true

pub in_spans : (ss : List Span) (z : ℤ) → in_ranges (map span_range ss) (Some z) ≡ list_any (has z) ss
in_spans [] z = refl
in_spans (s ∷ ss) z = ap (λ b. has z s || b) (in_spans ss z)

pub in_none : (ss : List Span) → in_ranges (map span_range ss) None ≡ false
in_none [] = refl
in_none (s ∷ ss) = in_none ss

pub in_no_range : (rs : List Range) (number : Option ℤ) → number ≡ None → in_ranges rs number ≡ false
in_no_range [] number h = refl
in_no_range (r ∷ rs) number h = ap (λ o. in_ranges (r ∷ rs) o) h ∙ in_no_range rs None refl

-- ---- numbers

below_max : (z m e : ℤ) → int_lt z (int_max m e) ≡ (int_lt z m || int_lt z e)
below_max z m e = grind (arith, ints)

le_max : (m e : ℤ) → int_le m (int_max m e) ≡ true
le_max m e = grind (arith, ints)

le_same : (m : ℤ) → int_le m m ≡ true
le_same m = grind (arith, ints)

pub le_over : (a b c : ℤ) → int_le a b ≡ true → int_le b c ≡ true → int_le a c ≡ true
le_over a b c p q = grind (arith, ints)

not_below : (a b : ℤ) → is_lt (int_cmp b a) ≡ false → int_le a b ≡ true
not_below a b h = grind (arith, ints)

not_under : (z a b : ℤ) → int_le a b ≡ true → int_lt z b ≡ false → int_lt z a ≡ false
not_under z a b p q = grind (arith, ints)

no_second : (a b : Bool) → b ≡ false → (a && b) ≡ false
no_second true b h = h
no_second false b h = refl

or_no : (b : Bool) → (b || false) ≡ b
or_no true = refl
or_no false = refl

none_behind : (ss : List Span) → ss ++ [] ≡ ss
none_behind [] = refl
none_behind (s ∷ ss) = ap (λ ts. s ∷ ts) (none_behind ss)

same_default : (ss : List Span) (k : ℕ) (d e : Span) → k < length ss → get_or ss k d ≡ get_or ss k e
same_default [] k d e lt = absurd (omega arith)
same_default (s ∷ ss) zero d e lt = refl
same_default (s ∷ ss) (suc k) d e lt = same_default ss k d e (omega arith)

-- ---- sorted spans

pub starts_rise : (ss : List Span) → IsSortedByKey (λ (s : Span). s.start) int_cmp ss → Starts ss
starts_rise ss h i j d le lt =
    not_below (get_or ss i d).start (get_or ss j d).start (sorted_far _ (ranks_by int_cmp_total (λ (s : Span). s.start)) ss h i j d le lt)

starts_tail : (s : Span) (ss : List Span) → Starts (s ∷ ss) → Starts ss
starts_tail s ss h i j d le lt = h (suc i) (suc j) d (omega arith) (omega arith)

begins_before : (z : ℤ) (s : Span) (ss : List Span) → Starts (s ∷ ss) → begins z ss ≡ true → int_le s.start z ≡ true
begins_before z s [] h b = absurd (cc)
begins_before z s (t ∷ ss) h b = le_over s.start t.start z (h 0 1 s (omega arith) (omega arith)) b

-- ---- raised ends

either : (a b p q r : Bool) → (b ≡ true → a ≡ true) → ((a && (p || q)) || (r || (b && (p || q)))) ≡ (((a && q) || r) || (a && p))
either true true true true true k = refl
either true true true true false k = refl
either true true true false true k = refl
either true true true false false k = refl
either true true false true true k = refl
either true true false true false k = refl
either true true false false true k = refl
either true true false false false k = refl
either true false true true true k = refl
either true false true true false k = refl
either true false true false true k = refl
either true false true false false k = refl
either true false false true true k = refl
either true false false true false k = refl
either true false false false true k = refl
either true false false false false k = refl
either false true p q r k = absurd (let no = k refl in cc)
either false false p q true k = refl
either false false p q false k = refl

any_raised : (z m : ℤ) (ss : List Span) → Starts ss → list_any (has z) (raised m ss) ≡ (list_any (has z) ss || (begins z ss && int_lt z m))
any_raised z m [] h = refl
any_raised z m (s ∷ ss) h =
    ap (λ b. (int_le s.start z && int_lt z (int_max m s.«end»)) || b) (any_raised z (int_max m s.«end») ss (starts_tail s ss h))
    ∙ ap (λ b. (int_le s.start z && b) || (list_any (has z) ss || (begins z ss && b))) (below_max z m s.«end»)
    ∙ either (int_le s.start z) (begins z ss) (int_lt z m) (int_lt z s.«end») (list_any (has z) ss) (begins_before z s ss h)

pub length_raised : (m : ℤ) (ss : List Span) → length (raised m ss) ≡ length ss
length_raised m [] = refl
length_raised m (s ∷ ss) = ap suc (length_raised (int_max m s.«end») ss)

start_raised : (m : ℤ) (ss : List Span) (i : ℕ) (d : Span) → (get_or (raised m ss) i d).start ≡ (get_or ss i d).start
start_raised m [] i d = refl
start_raised m (s ∷ ss) zero d = refl
start_raised m (s ∷ ss) (suc i) d = start_raised (int_max m s.«end») ss i d

floor : (m : ℤ) (ss : List Span) (j : ℕ) (d : Span) → j < length (raised m ss) → int_le m (get_or (raised m ss) j d).«end» ≡ true
floor m [] j d lt = absurd (omega arith)
floor m (s ∷ ss) zero d lt = le_max m s.«end»
floor m (s ∷ ss) (suc j) d lt = le_over m (int_max m s.«end») _ (le_max m s.«end») (floor (int_max m s.«end») ss j d (omega arith))

ends_rise : (m : ℤ) (ss : List Span) (i j : ℕ) (d : Span) → i ≤ j → j < length (raised m ss)
    → int_le (get_or (raised m ss) i d).«end» (get_or (raised m ss) j d).«end» ≡ true
ends_rise m [] i j d le lt = absurd (omega arith)
ends_rise m (s ∷ ss) zero zero d le lt = le_same (int_max m s.«end»)
ends_rise m (s ∷ ss) zero (suc j) d le lt = floor (int_max m s.«end») ss j d (omega arith)
ends_rise m (s ∷ ss) (suc i) zero d le lt = absurd (omega arith)
ends_rise m (s ∷ ss) (suc i) (suc j) d le lt = ends_rise (int_max m s.«end») ss i j d (omega arith) (omega arith)

pub raised_rise : (m : ℤ) (ss : List Span) → Starts ss → Rise (raised m ss)
raised_rise m ss h i j d le lt =
    let within : j < length ss = omega (arith, length_raised m ss) in (
      ap (λ a. int_le a (get_or (raised m ss) j d).start) (start_raised m ss i d)
          ∙ ap (λ a. int_le (get_or ss i d).start a) (start_raised m ss j d) ∙ h i j d le within,
      ends_rise m ss i j d le lt,
    )

-- ---- as the code goes

pub raised_more : (m end after : ℤ) (all rising more : List Span) (i : ℕ) (d : Span) → i < length all → after ≡ int_max end (get_or all i d).«end»
    → more ≡ rising ++ record { start = (get_or all i d).start; «end» = after } ∷ [] → raised m all ≡ rising ++ raised end (drop i all)
    → raised m all ≡ more ++ raised after (drop (i + 1) all)
raised_more m end after all rising more i d lt is pushed h =
    h ∙ ap (λ ss. rising ++ ss) (at_drop_more (raised end) all i d lt)
    ∙ ap (λ (a : ℤ). rising ++ (record { start = (get_or all i d).start; «end» = a } ∷ raised a (drop (i + 1) all))) (sym is)
    ∙ sym (append_assoc rising (record { start = (get_or all i d).start; «end» = after } ∷ []) (raised after (drop (i + 1) all)))
    ∙ ap (λ ss. ss ++ raised after (drop (i + 1) all)) (sym pushed)

-- what is raised and sorted has the numbers of the spans in any order
pub raised_has : (spans sorted : List Span) (z : ℤ) → IsPermutation spans sorted → Starts sorted
    → (begins z sorted && int_lt z (negsuc 2147483647)) ≡ false
    → list_any (has z) (raised (negsuc 2147483647) sorted) ≡ list_any (has z) spans
raised_has spans sorted z moved starts low =
    any_raised z (negsuc 2147483647) sorted starts ∙ ap (λ b. list_any (has z) sorted || b) low ∙ or_no (list_any (has z) sorted)
    ∙ sym (list_any-IsPermutation (has z) spans sorted moved)

-- no number of 32 bits is below the least
under_least : (z a : ℤ) → SFits w32 a → (int_le a z && int_lt z (negsuc 2147483647)) ≡ false
under_least z a fits = grind (arith, ints)

pub none_under : (z : ℤ) (ss : List Span) (d : Span) → (0 < length ss → SFits w32 (get_or ss 0 d).start)
    → (begins z ss && int_lt z (negsuc 2147483647)) ≡ false
none_under z [] d h = refl
none_under z (s ∷ ss) d h = under_least z s.start (h (omega arith))

-- what is known of the first once one was read
pub first_fits : (P : ℕ → Type 0) (i : ℕ) → (0 < i → P 0) → P i → P 0
first_fits P zero h p = p
first_fits P (suc i) h p = h (omega arith)

-- at the end of the loop
pub all_raised : (m end : ℤ) (all rising : List Span) (i : ℕ) → length all ≤ i → raised m all ≡ rising ++ raised end (drop i all) → rising
    ≡ raised m all
all_raised m end all rising i done h = sym (h ∙ ap (λ ss. rising ++ ss) (at_drop_all (raised end) all i done) ∙ none_behind rising)

-- the same numbers in both
pub same_numbers : (ss ts : List Span) → ((z : ℤ) → list_any (has z) ss ≡ list_any (has z) ts) → (number : Option ℤ)
    → in_ranges (map span_range ss) number ≡ in_ranges (map span_range ts) number
same_numbers ss ts h None = in_none ss ∙ sym (in_none ts)
same_numbers ss ts h (Some z) = in_spans ss z ∙ h z ∙ sym (in_spans ts z)

-- ---- a search among rising spans

-- below the place where starts pass the number, the last span has the greatest end
pub found : (ss : List Span) (z : ℤ) (k : ℕ) (d : Span) → Rise ss → k < length ss → IsPartitionPoint (λ s. int_le s.start z
    ≡ true) (λ s. int_le s.start z ≡ false) ss (k + 1)
    → int_lt z (get_or ss k d).«end» ≡ list_any (has z) ss
found ss z k d rise within point = at (int_lt z (get_or ss k d).«end») refl
  where
    at : (b : Bool) → int_lt z (get_or ss k d).«end» ≡ b → b ≡ list_any (has z) ss
    at true h = sym (list_any_at (has z) ss k d within (ap (λ b. b && int_lt z (get_or ss k d).«end») (point.0 k d (omega arith) (omega arith)) ∙ h))
    at false h = sym (list_any_none (has z) ss (λ i e lt. none i e lt (nat_le i k) refl))
      where
        none : (i : ℕ) (e : Span) → i < length ss → (b : Bool) → nat_le i k ≡ b → has z (get_or ss i e) ≡ false
        none i e lt true below =
            no_second (int_le (get_or ss i e).start z) _ (not_under z (get_or ss i e).«end» (get_or ss k e).«end» (rise i k e (grind (
              arith,
              nat_tests,
            )) within).1 (ap (λ (s : Span). int_lt z s.«end») (same_default ss k e d within) ∙ h))
        none i e lt false above = ap (λ b. b && int_lt z (get_or ss i e).«end») (point.1 i e (grind (arith, nat_tests)) lt)

pub none_found : (ss : List Span) (z : ℤ) → IsPartitionPoint (λ s. int_le s.start z ≡ true) (λ s. int_le s.start z ≡ false) ss 0 → false
    ≡ list_any (has z) ss
none_found ss z point = sym (list_any_none (has z) ss (λ i e lt. ap (λ b. b && int_lt z (get_or ss i e).«end») (point.1 i e (omega arith) lt)))
