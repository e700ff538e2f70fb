-- Steps of spans that are sorted by start.
use Rattle.std.proofs.Common.{◌≡◌, ◌∙◌, ◌⊎◌, ℕ, ◌+◌, ◌-◌, ◌<◌, ◌≤◌, ℤ, int_lt, int_le, ◌<ℤ◌, ◌≤ℤ◌, ◌&&◌, ◌||◌, cond, List, [], ◌∷◌, ◌++◌, map, length, get_or, Bool, true, false, Option, Some, None, refl, ap, sym, subst, inl, inr, arith}
use Rattle.std.specs.Int.{int_max}
use Rattle.std.specs.List.{Any, list_any, enumerate_from}
use Rattle.std.specs.List.Sorted.{IsPermutation, IsPartitionedBy, IsPartitionPoint}
use Rattle.std.proofs.lemmas.Bool.{cases_lt, false≢true}
use Rattle.std.proofs.lemmas.Int.{ints, clamps}
use Rattle.std.proofs.lemmas.List.{get_or_default, get_or_append_left, get_or_push, length-append}
use Rattle.pbx_link_rules_record.specs.declared.spans.Span.{Span}
use Rattle.pbx_link_rules_record.specs.declared.number_set.Step.{Step}
use Rattle.std.proofs.lemmas.List.Folds.{list_any_at, Any-from_list_any}
use Rattle.std.proofs.lemmas.List.Sorted.{list_any-IsPermutation}
use Rattle.pbx_link_definitions.specs.Ranges.{Range, is_within, has_number, in_ranges}
use Rattle.pbx_link_rules_record.specs.Spans.{IsStep, AreSteps, Rise, has_step, IsSortedByStart, span_of, end_or}
use Rattle.pbx_link_rules_record.proofs.Overlaps.{starts_rise}

-- the steps of the spans before i
abbrev pub AreStepsTo : List Span → List Step → ℕ → Type 0
AreStepsTo ss ts i = (length ts ≡ i) × ((k : ℕ) (t : Step) → k < i → IsStep ss k (get_or ts k t))

-- the greatest end of the spans before i; before the first, its end
abbrev pub IsReach : List Span → ℕ → ℤ → Type 0
IsReach ss i z = ((k : ℕ) (s : Span) → k < i → (get_or ss k s).«end» ≤ℤ z) × ((j : ℕ) × (j ≤ i) × ((s : Span) → j < length ss → z ≡ (get_or ss j s).«end»))

pub reach_more : (ss : List Span) (i : ℕ) (x : Span) (z y : ℤ) → i < length ss → x ≡ get_or ss i x → IsReach ss i z → z ≤ℤ y → x.«end» ≤ℤ y → (y ≡ z) ⊎ (y ≡ x.«end») → IsReach ss (i + 1) y
reach_more ss i x z y lt is h ge own one = (upto, attained one)
  where
    there : (s : Span) → get_or ss i s ≡ x
    there s = get_or_default ss i s x lt ∙ sym is

    upto : (k : ℕ) (s : Span) → k < i + 1 → (get_or ss k s).«end» ≤ℤ y
    upto k s lk = at (cases_lt k i)
      where
        at : (k < i) ⊎ (i ≤ k) → (get_or ss k s).«end» ≤ℤ y
        at (inl below) = let le : (get_or ss k s).«end» ≤ℤ z = h.0 k s below in omega (arith, ints)
        at (inr from) =
            let same : k ≡ i = omega arith in
            subst (λ (t : Span). t.«end» ≤ℤ y) (sym (ap (λ (n : ℕ). get_or ss n s) same ∙ there s)) own

    attained : (y ≡ z) ⊎ (y ≡ x.«end») → (j : ℕ) × (j ≤ i + 1) × ((s : Span) → j < length ss → y ≡ (get_or ss j s).«end»)
    attained (inl e) = (h.1.0, omega (arith, h.1.1), λ s lj. e ∙ h.1.2 s lj)
    attained (inr e) = (i, omega arith, λ s lj. e ∙ ap (λ (t : Span). t.«end») (sym (there s)))

-- the step of one span more, where its reach is z
pub step_more : (ss : List Span) (ts : List Step) (i : ℕ) (x : Span) (z y : ℤ) → i < length ss → x ≡ get_or ss i x → IsReach ss i z → z ≤ℤ y → x.«end» ≤ℤ y → (y ≡ z) ⊎ (y ≡ x.«end»)
    → AreStepsTo ss ts i → AreStepsTo ss (ts ++ record { start = x.start; reach = y } ∷ []) (i + 1)
step_more ss ts i x z y lt is h ge own one done = (omega (arith, done.0, length-append ts (record { start = x.start; reach = y } ∷ [])), steps)
  where
    new : Step
    new = record { start = x.start; reach = y }

    there : (s : Span) → get_or ss i s ≡ x
    there s = get_or_default ss i s x lt ∙ sym is

    next : IsReach ss (i + 1) y
    next = reach_more ss i x z y lt is h ge own one

    attained : (y ≡ z) ⊎ (y ≡ x.«end») → (j : ℕ) × (j ≤ i) × ((s : Span) → y ≡ (get_or ss j s).«end»)
    attained (inl e) = (h.1.0, h.1.1, λ s. e ∙ h.1.2 s (omega (arith, h.1.1)))
    attained (inr e) = (i, omega arith, λ s. e ∙ ap (λ (t : Span). t.«end») (sym (there s)))

    here : IsStep ss i (record { start = x.start; reach = y })
    here = record {
      start = λ s. ap (λ (t : Span). t.start) (sym (there s));
      upto = λ j s le. next.0 j s (omega arith);
      attained = attained one;
    }

    steps : (k : ℕ) (t : Step) → k < i + 1 → IsStep ss k (get_or (ts ++ record { start = x.start; reach = y } ∷ []) k t)
    steps k t lk = at (cases_lt k i)
      where
        at : (k < i) ⊎ (i ≤ k) → IsStep ss k (get_or (ts ++ record { start = x.start; reach = y } ∷ []) k t)
        at (inl below) =
            let within : k < length ts = omega (arith, done.0) in
            subst (IsStep ss k) (sym (get_or_append_left ts (record { start = x.start; reach = y } ∷ []) t k within)) (done.1 k t below)
        at (inr from) =
            let same : i ≡ k = omega arith in
            let last : length ts ≡ k = omega (arith, done.0) in
            subst (IsStep ss k) (sym (get_or_push ts (record { start = x.start; reach = y }) t k last)) (subst (λ (n : ℕ). IsStep ss n (record { start = x.start; reach = y })) same here)

pub reach_none : (ss : List Span) (ts : List Step) → ts ≡ [] → AreStepsTo ss ts 0
reach_none ss ts e = (ap length e, λ k t lt. absurd (omega arith))

pub greater : (a b c : ℤ) → c ≡ int_max a b → (a ≤ℤ c) × (b ≤ℤ c) × ((c ≡ a) ⊎ (c ≡ b))
greater a b c e = (omega (arith, ints, clamps), omega (arith, ints, clamps), at (int_lt b a) e)
  where
    at : (t : Bool) → c ≡ cond t a b → (c ≡ a) ⊎ (c ≡ b)
    at true h = inl h
    at false h = inr h

-- ---- steps of spans that are sorted by start

and_true : (a b : Bool) → (a && b) ≡ true → (a ≡ true) × (b ≡ true)
and_true true true h = (refl, refl)
and_true true false h = absurd (false≢true h)
and_true false b h = absurd (false≢true h)

le_from : (a b : ℤ) → int_le a b ≡ true → a ≤ℤ b
le_from a b h = grind (arith, ints)

lt_from : (a b : ℤ) → int_lt a b ≡ true → a <ℤ b
lt_from a b h = grind (arith, ints)

to_le : (a b : ℤ) → a ≤ℤ b → int_le a b ≡ true
to_le a b h = grind (arith, ints)

to_lt : (a b : ℤ) → a <ℤ b → int_lt a b ≡ true
to_lt a b h = grind (arith, ints)

-- the number is in the span
abbrev pub has_span : ℤ → Span → Bool
has_span z s = int_le s.start z && int_lt z s.«end»

step_has : (z : ℤ) (t : Step) → t.start ≤ℤ z → z <ℤ t.reach → has_step z t ≡ true
step_has z t le lt = rw (to_le t.start z le, to_lt z t.reach lt) refl

span_has : (z : ℤ) (s : Span) → s.start ≤ℤ z → z <ℤ s.«end» → has_span z s ≡ true
span_has z s le lt = rw (to_le s.start z le, to_lt z s.«end» lt) refl

-- two tests of which each holds where the other does
alike : (a b : Bool) → (a ≡ true → b ≡ true) → (b ≡ true → a ≡ true) → a ≡ b
alike true b f g = sym (f refl)
alike false true f g = g refl
alike false false f g = refl

module _ (ss : List Span) (ts : List Step) (up : IsSortedByStart ss) (are : AreSteps ss ts) where
  pub steps_rise : Rise ts
  steps_rise a b t le lt =
      let s : Span = record { start = t.start; «end» = t.reach; index = 0 } in
      let lb : b < length ss = omega (arith, are.0) in
      let x = are.1 a t (omega arith) in
      let y = are.1 b t lb in
      let start : (get_or ss a s).start ≤ℤ (get_or ss b s).start = starts_rise ss up a b s le lb in
      let x_start : (get_or ts a t).start ≡ (get_or ss a s).start = x.start s in
      let y_start : (get_or ts b t).start ≡ (get_or ss b s).start = y.start s in
      let first : (get_or ts a t).start ≤ℤ (get_or ts b t).start = subst (λ (z : ℤ). z ≤ℤ (get_or ts b t).start) (sym x_start) (subst (λ (z : ℤ). (get_or ss a s).start ≤ℤ z) (sym y_start) start) in
      let there : (get_or ss x.attained.0 s).«end» ≤ℤ (get_or ts b t).reach = y.upto x.attained.0 s (omega (arith, x.attained.1)) in
      (first, subst (λ (z : ℤ). z ≤ℤ (get_or ts b t).reach) (sym (x.attained.2 s)) there)

  pub steps_have : (z : ℤ) → list_any (has_step z) ts ≡ list_any (has_span z) ss
  steps_have z = alike (list_any (has_step z) ts) (list_any (has_span z) ss) (λ h. down (Any-from_list_any (has_step z) ts h)) (λ h. up_to (Any-from_list_any (has_span z) ss h))
    where
      down : Any (λ t. has_step z t ≡ true) ts → list_any (has_span z) ss ≡ true
      down (k, t, lk, at, has) =
          let s : Span = record { start = t.start; «end» = t.reach; index = 0 } in
          let ls : k < length ss = omega (arith, are.0) in
          let x = subst (IsStep ss k) at (are.1 k t ls) in
          let both = and_true (int_le t.start z) (int_lt z t.reach) has in
          let from : t.start ≤ℤ z = le_from t.start z both.0 in
          let below : z <ℤ t.reach = lt_from z t.reach both.1 in
          let j : ℕ = x.attained.0 in
          let lj : j < length ss = omega (arith, x.attained.1) in
          let rises : (get_or ss j s).start ≤ℤ (get_or ss k s).start = starts_rise ss up j k s x.attained.1 ls in
          let start : t.start ≡ (get_or ss k s).start = x.start s in
          let reach : t.reach ≡ (get_or ss j s).«end» = x.attained.2 s in
          let t_le : (get_or ss j s).start ≤ℤ t.start = subst (λ (e : ℤ). (get_or ss j s).start ≤ℤ e) (sym start) rises in
          let le : (get_or ss j s).start ≤ℤ z = omega (arith, ints) in
          list_any_at (has_span z) ss j s lj (span_has z (get_or ss j s) le (subst (λ (e : ℤ). z <ℤ e) reach below))

      up_to : Any (λ s. has_span z s ≡ true) ss → list_any (has_step z) ts ≡ true
      up_to (k, s, lk, at, has) =
          let t : Step = record { start = s.start; reach = s.«end» } in
          let x = are.1 k t lk in
          let both = and_true (int_le s.start z) (int_lt z s.«end») has in
          let lt : k < length ts = omega (arith, are.0) in
          let start : (get_or ts k t).start ≡ s.start = x.start s ∙ ap (λ (u : Span). u.start) at in
          let reach : s.«end» ≤ℤ (get_or ts k t).reach = subst (λ (u : Span). u.«end» ≤ℤ (get_or ts k t).reach) at (x.upto k s (omega arith)) in
          let from : s.start ≤ℤ z = le_from s.start z both.0 in
          let below : z <ℤ s.«end» = lt_from z s.«end» both.1 in
          list_any_at (has_step z) ts k t lt (step_has z (get_or ts k t) (subst (λ (e : ℤ). e ≤ℤ z) (sym start) from) (omega (arith, ints)))

-- ---- spans and ranges

has_is : (z : ℤ) (n : ℕ) (r : Range) → has_span z (span_of (n, r)) ≡ has_number r (Some z)
has_is z n r = at r.«end»
  where
    not_both : (a : ℤ) → (int_le a z && int_lt z a) ≡ false
    not_both a = grind (arith, ints)

    at : (e : Option ℤ) → (int_le r.start z && int_lt z (end_or r.start e)) ≡ is_within z r.start e
    at None = not_both r.start
    at (Some e) = refl

pub spans_have : (z : ℤ) (n : ℕ) (rs : List Range) → list_any (has_span z) (map span_of (enumerate_from n rs)) ≡ in_ranges rs (Some z)
spans_have z n [] = refl
spans_have z n (r ∷ rs) = ap (λ (b : Bool). b || list_any (has_span z) (map span_of (enumerate_from (n + 1) rs))) (has_is z n r) ∙ ap (λ (b : Bool). has_number r (Some z) || b) (spans_have z (n + 1) rs)

pub set_of : (rs : List Range) (ps ss : List Span) (ts : List Step) → ps ≡ map span_of (enumerate_from 0 rs) → IsPermutation ps ss → IsSortedByStart ss → AreSteps ss ts
    → Rise ts × ((z : ℤ) → list_any (has_step z) ts ≡ in_ranges rs (Some z))
set_of rs ps ss ts is p up are =
    (steps_rise ss ts up are, λ z. steps_have ss ts up are z ∙ sym (list_any-IsPermutation (has_span z) ps ss p) ∙ ap (list_any (has_span z)) is ∙ spans_have z 0 rs)

-- ---- look-ups

pub looked_up : (ts : List Step) (z : ℤ) (k : ℕ) (b : Bool) → Rise ts → k ≤ length ts → ((j : ℕ) (t : Step) → j < k → (get_or ts j t).start ≤ℤ z) → ((j : ℕ) (t : Step) → k ≤ j → j < length ts → z <ℤ (get_or ts j t).start)
    → (b ≡ true → (0 < k) × ((t : Step) → z <ℤ (get_or ts (k - 1) t).reach)) → (0 < k → ((t : Step) → z <ℤ (get_or ts (k - 1) t).reach) → b ≡ true) → b ≡ list_any (has_step z) ts
looked_up ts z k b rise upto before behind is_some is_none = alike b (list_any (has_step z) ts) found (λ h. back (Any-from_list_any (has_step z) ts h))
  where
    found : b ≡ true → list_any (has_step z) ts ≡ true
    found h =
        let t : Step = record { start = z; reach = z } in
        let some = is_some h in
        let last : k - 1 < length ts = omega (arith, some.0) in
        list_any_at (has_step z) ts (k - 1) t last (step_has z (get_or ts (k - 1) t) (before (k - 1) t (omega (arith, some.0))) (some.1 t))

    back : Any (λ t. has_step z t ≡ true) ts → b ≡ true
    back (j, t, lj, at, has) = by_place (cases_lt j k)
      where
        by_place : (j < k) ⊎ (k ≤ j) → b ≡ true
        by_place (inl below) =
            let lt : z <ℤ t.reach = lt_from z t.reach (and_true (int_le t.start z) (int_lt z t.reach) has).1 in
            let last : k - 1 < length ts = omega arith in
            let le : (get_or ts j t).reach ≤ℤ (get_or ts (k - 1) t).reach = (rise j (k - 1) t (omega arith) last).1 in
            let le_t : t.reach ≤ℤ (get_or ts (k - 1) t).reach = subst (λ (u : Step). u.reach ≤ℤ (get_or ts (k - 1) t).reach) at le in
            let far : z <ℤ (get_or ts (k - 1) t).reach = omega (arith, ints) in
            is_none (omega arith) (λ u. subst (λ (v : Step). z <ℤ v.reach) (get_or_default ts (k - 1) t u last) far)
        by_place (inr from) =
            let gt : z <ℤ t.start = subst (λ (u : Step). z <ℤ u.start) at (behind j t from lj) in
            let le : t.start ≤ℤ z = le_from t.start z (and_true (int_le t.start z) (int_lt z t.reach) has).0 in
            absurd (omega (arith, ints))

le_true : (a b : ℤ) → int_le a b ≡ false → b <ℤ a
le_true a b h = grind (arith, ints)

pub parted : (ts : List Step) (z : ℤ) → Rise ts → IsPartitionedBy (λ (t : Step). int_le t.start z) ts
parted ts z rise i j d le lt h =
    let later : (get_or ts j d).start ≤ℤ z = le_from (get_or ts j d).start z h in
    let first : (get_or ts i d).start ≤ℤ (get_or ts j d).start = (rise i j d le lt).0 in
    to_le (get_or ts i d).start z (omega (arith, ints))

-- what a search for the first step that starts behind the number finds
pub at_point : (ts : List Step) (z : ℤ) (k : ℕ) (b : Bool) → Rise ts → k ≤ length ts → IsPartitionPoint (λ (t : Step). int_le t.start z ≡ true) (λ (t : Step). int_le t.start z ≡ false) ts k
    → (b ≡ true → (0 < k) × ((t : Step) → z <ℤ (get_or ts (k - 1) t).reach)) → (0 < k → ((t : Step) → z <ℤ (get_or ts (k - 1) t).reach) → b ≡ true) → b ≡ list_any (has_step z) ts
at_point ts z k b rise le point is_some is_none =
    looked_up ts z k b rise le (λ j t lt. le_from (get_or ts j t).start z (point.0 j t (omega arith) lt)) (λ j t from lt. le_true (get_or ts j t).start z (point.1 j t from lt)) is_some is_none

pub found_there : (ts : List Step) (z : ℤ) (k : ℕ) (x : Step) (b : Bool) → Rise ts → 0 < k → k ≤ length ts → x ≡ get_or ts (k - 1) x → IsPartitionPoint (λ (t : Step). int_le t.start z ≡ true) (λ (t : Step). int_le t.start z ≡ false) ts k
    → b ≡ int_lt z x.reach → b ≡ list_any (has_step z) ts
found_there ts z k x b rise some le is point at =
    at_point ts z k b rise le point
    (λ h. (some, λ t. subst (λ (y : Step). z <ℤ y.reach) (is ∙ get_or_default ts (k - 1) x t (omega arith)) (lt_from z x.reach (sym at ∙ h))))
    (λ _ f. at ∙ to_lt z x.reach (subst (λ (y : Step). z <ℤ y.reach) (sym is) (f x)))

pub none_there : (ts : List Step) (z : ℤ) (k : ℕ) → Rise ts → k ≤ 0 → IsPartitionPoint (λ (t : Step). int_le t.start z ≡ true) (λ (t : Step). int_le t.start z ≡ false) ts k → false ≡ list_any (has_step z) ts
none_there ts z k rise none point = at_point ts z k false rise (omega arith) point (λ h. absurd (false≢true h)) (λ some _. absurd (omega arith))
