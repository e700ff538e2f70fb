-- Rules that are kept, and the first that is not.
use Rattle.std.proofs.Common.{◌≡◌, ◌∙◌, ◌⊎◌, ℕ, zero, suc, ◌<◌, ◌≤◌, ◌==◌, ◌&&◌, List, [], ◌∷◌, length, Bool, true, false}
use Rattle.std.proofs.Common.{if◌then◌else◌, refl, ap, sym, subst, inl, inr, arith}
use Rattle.std.specs.Prelude.{Contains}
use Rattle.std.specs.List.{list_all}
use Rattle.std.proofs.lemmas.Bool.{cases_lt, false≢true}
use Rattle.std.proofs.lemmas.Bool.Decides.{nat_tests}
use Rattle.pbx_desc_records.specs.declared.file.FileDescriptorProto.{FileDescriptorProto}
use Rattle.pbx_link_definitions.specs.Definitions.{Place}
use Rattle.pbx_link_rules_record.specs.EntryRules.{is_empty}
use Rattle.pbx_link_scope.specs.Scope.{visible}
use Rattle.pbx_link_rules.specs.Breaches.{all_breaches, places_at, breaches_by, breaches, keeps_rules}
use Rattle.pbx_link_rules.specs.RuleLaws.{HasBreach, LinksUnlessBroken, FirstRuleIsOne, KeepsEach, FirstAlone, FirstBehind, NoneIsBroken}

-- ---- lists of places

no_place : (p : Place) → Contains [] p → ⊥
no_place p h = absurd (omega (arith, h.1))

none_at_0 : (pss : List (List Place)) → places_at pss 0 ≡ []
unfolding places_at
none_at_0 [] = refl
none_at_0 (ps ∷ pss) = refl

head_at_1 : (ps : List Place) (pss : List (List Place)) → places_at (ps ∷ pss) 1 ≡ ps
unfolding places_at
head_at_1 ps pss = refl

rest_at : (ps : List Place) (pss : List (List Place)) (n : ℕ) → 0 < n → places_at (ps ∷ pss) (suc n) ≡ places_at pss n
unfolding places_at
rest_at ps pss zero h = absurd (omega (arith, h))
rest_at ps pss (suc n) h = at (suc n == 0) refl
  where
    at : (b : Bool) → suc n == 0 ≡ b → (if b then ps else places_at pss (suc n)) ≡ places_at pss (suc n)
    at true q = absurd (let zero_is : suc n ≡ 0 = grind (arith, nat_tests, q) in omega (arith, zero_is))
    at false q = refl

both : (a b : Bool) → (a && b) ≡ true → (a ≡ true) × (b ≡ true)
both true b h = (refl, h)
both false b h = absurd (false≢true h)

is_nil : (ps : List Place) → is_empty ps ≡ true → ps ≡ []
is_nil [] h = refl
is_nil (p ∷ ps) h = absurd (false≢true h)

-- where all lists are empty, so is each
each_empty : (pss : List (List Place)) → list_all is_empty pss ≡ true → (n : ℕ) → places_at pss n ≡ []
unfolding places_at
each_empty [] h n = refl
each_empty (ps ∷ pss) h zero = refl
each_empty (ps ∷ pss) h (suc n) = at (n == 0) (both (is_empty ps) (list_all is_empty pss) h) (λ g. each_empty pss g n)
  where
    at : (b : Bool) → (is_empty ps ≡ true) × (list_all is_empty pss ≡ true) → (list_all is_empty pss ≡ true → places_at pss n ≡ [])
        → (if b then ps else places_at pss n) ≡ []
    at true g ih = is_nil ps g.0
    at false g ih = ih g.1

all_empty : (pss : List (List Place)) → ((n : ℕ) → places_at pss n ≡ []) → list_all is_empty pss ≡ true
all_empty [] h = refl
all_empty (ps ∷ pss) h =
    ap (λ (qs : List Place). is_empty qs && list_all is_empty pss) (sym (head_at_1 ps pss) ∙ h 1)
    ∙ all_empty pss (λ n. at n (cases_lt 0 n))
  where
    at : (n : ℕ) → (0 < n) ⊎ (n ≤ 0) → places_at pss n ≡ []
    at n (inl more) = sym (rest_at ps pss n more) ∙ h (suc n)
    at n (inr none) =
        let nothing : 0 ≡ n = omega (arith, none) in
        subst (λ (k : ℕ). places_at pss k ≡ []) nothing (none_at_0 pss)

-- the first list that is not empty
record FirstPlace (pss : List (List Place)) : Type 0 where
  number : ℕ
  place : Place
  broken : Contains (places_at pss number) place
  least : (lesser : ℕ) → lesser < number → places_at pss lesser ≡ []

first_place : (pss : List (List Place)) → list_all is_empty pss ≡ false → FirstPlace pss
first_place [] h = absurd (false≢true (sym h))
first_place ((p ∷ ps) ∷ pss) h = record {
  number = 1;
  place = p;
  broken = subst (λ (qs : List Place). Contains qs p) (sym (head_at_1 (p ∷ ps) pss)) (0, omega arith, refl);
  least = λ lesser lt.
      let nothing : 0 ≡ lesser = omega (arith, lt) in
      subst (λ (k : ℕ). places_at ((p ∷ ps) ∷ pss) k ≡ []) nothing (none_at_0 ((p ∷ ps) ∷ pss));
}
first_place ([] ∷ pss) h = behind (first_place pss h)
  where
    behind : FirstPlace pss → FirstPlace ([] ∷ pss)
    behind next = at (cases_lt 0 next.number)
      where
        lesser_none : 0 < next.number → (lesser : ℕ) → lesser < suc next.number → places_at ([] ∷ pss) lesser ≡ []
        lesser_none more zero lt = none_at_0 ([] ∷ pss)
        lesser_none more (suc k) lt = by (cases_lt 0 k)
          where
            by : (0 < k) ⊎ (k ≤ 0) → places_at ([] ∷ pss) (suc k) ≡ []
            by (inl some) = rest_at [] pss k some ∙ next.least k (omega (arith, lt))
            by (inr none) =
                let nothing : 0 ≡ k = omega (arith, none) in
                subst (λ (j : ℕ). places_at ([] ∷ pss) (suc j) ≡ []) nothing (head_at_1 [] pss)

        at : (0 < next.number) ⊎ (next.number ≤ 0) → FirstPlace ([] ∷ pss)
        at (inl more) = record {
          number = suc next.number;
          place = next.place;
          broken = subst (λ (qs : List Place). Contains qs next.place) (sym (rest_at [] pss next.number more)) next.broken;
          least = lesser_none more;
        }
        at (inr none) =
            let nothing : next.number ≡ 0 = omega (arith, none) in
            absurd (no_place next.place (subst (λ (qs : List Place). Contains qs next.place) (ap (places_at pss) nothing ∙ none_at_0 pss) next.broken))

-- ---- rules

module _ (files : List FileDescriptorProto) (f : FileDescriptorProto) where
  abbrev lists : List (List Place)
  lists = all_breaches files (visible files f) f

  rule_0 : breaches 0 files f ≡ []
  unfolding breaches_by
  rule_0 = none_at_0 lists

  each : keeps_rules files f ≡ true → (rule : ℕ) → breaches rule files f ≡ []
  unfolding breaches_by keeps_rules
  each h rule = each_empty lists h rule

  all : ((rule : ℕ) → breaches rule files f ≡ []) → keeps_rules files f ≡ true
  unfolding breaches_by keeps_rules
  all h = all_empty lists h

  first : keeps_rules files f ≡ false → HasBreach files f
  unfolding breaches_by keeps_rules
  first h =
      let found = first_place lists h in
      record { rule = found.number; place = found.place; breaks = record { broken = found.broken; least = found.least } }

  not_kept : (b : Bool) → keeps_rules files f ≡ b → HasBreach files f → b ≡ false
  not_kept false e h = refl
  not_kept true e h =
      absurd (no_place h.place (subst (λ (ps : List Place). Contains ps h.place) (each e h.rule) h.breaks.broken))

  behind_16 : (rule : ℕ) → 16 < rule → breaches rule files f ≡ []
  unfolding breaches_by places_at
  behind_16 rule lt = at rule lt
    where
      at : (rule : ℕ) → 16 < rule → places_at lists rule ≡ []
      at rule lt = past lists rule lt
        where
          past : (pss : List (List Place)) (n : ℕ) → length pss < n → places_at pss n ≡ []
          past [] n lt = refl
          past (ps ∷ pss) zero lt = refl
          past (ps ∷ pss) (suc n) lt = by (n == 0) refl (past pss n)
            where
              by : (b : Bool) → n == 0 ≡ b → (length pss < n → places_at pss n ≡ []) → (if b then ps else places_at pss n) ≡ []
              by true q ih = absurd (let nothing : n ≡ 0 = grind (arith, nat_tests, q) in omega (arith, nothing, lt))
              by false q ih = ih (omega (arith, lt))

pub links_unless_broken : LinksUnlessBroken
links_unless_broken files f = (first files f, not_kept files f (keeps_rules files f) refl)

pub keeps_each : KeepsEach
keeps_each = each

pub first_rule_is_one : FirstRuleIsOne
first_rule_is_one files f rule other place there h k = at (cases_lt rule other) (cases_lt other rule)
  where
    at : (rule < other) ⊎ (other ≤ rule) → (other < rule) ⊎ (rule ≤ other) → rule ≡ other
    at (inl lt) w = absurd (no_place place (subst (λ (ps : List Place). Contains ps place) (k.least rule lt) h.broken))
    at (inr ge) (inl lt) = absurd (no_place there (subst (λ (ps : List Place). Contains ps there) (h.least other lt) k.broken))
    at (inr ge) (inr le) = omega (arith, ge, le)

pub first_alone : FirstAlone
first_alone files f breach h = record { broken = h.broken; least = λ lesser lt. at lesser lt (cases_lt lesser 1) }
  where
    at : (lesser : ℕ) → lesser < breach.rule → (lesser < 1) ⊎ (1 ≤ lesser) → breaches lesser files f ≡ []
    at lesser lt (inl none) =
        let nothing : 0 ≡ lesser = omega (arith, none) in
        subst (λ (k : ℕ). breaches k files f ≡ []) nothing (rule_0 files f)
    at lesser lt (inr from) = h.least lesser from lt

pub first_behind : FirstBehind
first_behind files f breach none h = record { broken = h.broken; least = λ lesser lt. at lesser lt (cases_lt lesser 1) (cases_lt lesser 6) }
  where
    at : (lesser : ℕ) → lesser < breach.rule → (lesser < 1) ⊎ (1 ≤ lesser) → (lesser < 6) ⊎ (6 ≤ lesser) → breaches lesser files f ≡ []
    at lesser lt (inl less) w =
        let nothing : 0 ≡ lesser = omega (arith, less) in
        subst (λ (k : ℕ). breaches k files f ≡ []) nothing (rule_0 files f)
    at lesser lt (inr from) (inl below) = none lesser from below
    at lesser lt (inr from) (inr six) = h.least lesser six lt

pub none_is_broken : NoneIsBroken
none_is_broken files f none others = all files f (λ rule. at rule (cases_lt rule 1) (cases_lt rule 6) (cases_lt rule 17))
  where
    at : (rule : ℕ) → (rule < 1) ⊎ (1 ≤ rule) → (rule < 6) ⊎ (6 ≤ rule) → (rule < 17) ⊎ (17 ≤ rule) → breaches rule files f ≡ []
    at rule (inl less) w v =
        let nothing : 0 ≡ rule = omega (arith, less) in
        subst (λ (k : ℕ). breaches k files f ≡ []) nothing (rule_0 files f)
    at rule (inr from) (inl below) v = none rule from below
    at rule (inr from) (inr six) (inl below) = others rule six below
    at rule (inr from) (inr six) (inr past) = behind_16 files f rule (omega (arith, past))
