-- The first of the rules that is broken, found rule by rule.
use Rattle.std.proofs.Common.{◌≡◌, ◌∙◌, ◌⊎◌, ℕ, ◌+◌, ◌<◌, ◌≤◌, List, [], Option, Some, None, refl, sym, subst, inl, inr, arith}
use Rattle.std.specs.Prelude.{Contains}
use Rattle.std.proofs.lemmas.Bool.{cases_lt}
use Rattle.pbx_desc_records.specs.declared.file.FileDescriptorProto.{FileDescriptorProto}
use Rattle.pbx_link_definitions.specs.Definitions.{Place}
use Rattle.pbx_link_definitions.specs.Places.{IsAmong}
use Rattle.pbx_link_rules_field.specs.Rules.{bad_types, bad_oneofs, bad_labels}
use Rattle.pbx_link_rules_record.specs.FileRules.{unknown_syntax, bad_names}
use Rattle.pbx_link_rules_record.specs.EnumRules.{bad_enums}
use Rattle.pbx_link_rules_record.specs.OptionRules.{uninterpreted_options, message_sets}
use Rattle.pbx_link_rules_record.specs.RangeRules.{bad_ranges}
use Rattle.pbx_link_rules_scope.specs.Rules.{unbound_names}
use Rattle.pbx_link_rules_scope.specs.Defaults.{bad_defaults}
use Rattle.pbx_link_rules.specs.Rules.{file_twice, missing_imports, names_twice}
use Rattle.pbx_link_rules.specs.declared.breach.Breach.{Breach}
use Rattle.pbx_link_rules.specs.Breaches.{bad_numbers, bad_maps, places_at, breaches_by, AreKept, BreaksFirstOf, IsFirstOf}

-- ---- each rule by its number

module _ (files seen : List FileDescriptorProto) (f : FileDescriptorProto) where
  pub rule_1 : breaches_by 1 files seen f ≡ file_twice files f
  unfolding breaches_by places_at
  rule_1 = refl

  pub rule_2 : breaches_by 2 files seen f ≡ missing_imports files f
  unfolding breaches_by places_at
  rule_2 = refl

  pub rule_3 : breaches_by 3 files seen f ≡ unknown_syntax f
  unfolding breaches_by places_at
  rule_3 = refl

  pub rule_4 : breaches_by 4 files seen f ≡ bad_names f
  unfolding breaches_by places_at
  rule_4 = refl

  pub rule_5 : breaches_by 5 files seen f ≡ names_twice files f
  unfolding breaches_by places_at
  rule_5 = refl

  pub rule_6 : breaches_by 6 files seen f ≡ bad_numbers files seen f
  unfolding breaches_by places_at
  rule_6 = refl

  pub rule_7 : breaches_by 7 files seen f ≡ unbound_names seen f
  unfolding breaches_by places_at
  rule_7 = refl

  pub rule_8 : breaches_by 8 files seen f ≡ bad_types f
  unfolding breaches_by places_at
  rule_8 = refl

  pub rule_9 : breaches_by 9 files seen f ≡ bad_oneofs f
  unfolding breaches_by places_at
  rule_9 = refl

  pub rule_10 : breaches_by 10 files seen f ≡ bad_enums f
  unfolding breaches_by places_at
  rule_10 = refl

  pub rule_11 : breaches_by 11 files seen f ≡ bad_defaults seen f
  unfolding breaches_by places_at
  rule_11 = refl

  pub rule_12 : breaches_by 12 files seen f ≡ bad_maps seen f
  unfolding breaches_by places_at
  rule_12 = refl

  pub rule_13 : breaches_by 13 files seen f ≡ bad_labels f
  unfolding breaches_by places_at
  rule_13 = refl

  pub rule_14 : breaches_by 14 files seen f ≡ uninterpreted_options f
  unfolding breaches_by places_at
  rule_14 = refl

  pub rule_15 : breaches_by 15 files seen f ≡ message_sets f
  unfolding breaches_by places_at
  rule_15 = refl

  pub rule_16 : breaches_by 16 files seen f ≡ bad_ranges f
  unfolding breaches_by places_at
  rule_16 = refl

  -- ---- rule by rule

  pub start : (n : ℕ) → AreKept files seen f n n
  start n rule from below = absurd (omega (arith, from, below))

  kept_more : (first n : ℕ) → AreKept files seen f first n → breaches_by n files seen f ≡ [] → AreKept files seen f first (n + 1)
  kept_more first n kept e rule from below = at (cases_lt rule n)
    where
      at : (rule < n) ⊎ (n ≤ rule) → breaches_by rule files seen f ≡ []
      at (inl lt) = kept rule from lt
      at (inr ge) =
          let same : n ≡ rule = omega (arith, ge, below) in
          subst (λ (k : ℕ). breaches_by k files seen f ≡ []) same e

  module _ (n : ℕ) (ps : List Place) (is : breaches_by n files seen f ≡ ps) (o : Option Place) (among : IsAmong ps o)
      (first : ℕ) (kept : AreKept files seen f first n) where
    pub broken_at : (last : ℕ) (p : Place) → first ≤ n → n ≤ last → o ≡ Some p → BreaksFirstOf files seen f first last n p
    broken_at last p from upto found = record {
      from = from;
      upto = upto;
      broken = subst (λ (qs : List Place). Contains qs p) (sym is) (subst (λ (r : Option Place). IsAmong ps r) found among);
      least = kept;
    }

    pub kept_at : o ≡ None → AreKept files seen f first (n + 1)
    kept_at found = kept_more first n kept (is ∙ subst (λ (r : Option Place). IsAmong ps r) found among)

  -- ---- one group of rules behind another

  pub wider : (first middle last : ℕ) (b : Breach) → middle ≤ last → IsFirstOf files seen f first middle (Some b) → IsFirstOf files seen f first last (Some b)
  wider first middle last b le h = record { from = h.from; upto = omega (arith, le, h.upto); broken = h.broken; least = h.least }

  pub behind : (first middle last : ℕ) (o : Option Breach) → first ≤ middle + 1 → IsFirstOf files seen f first middle None
      → IsFirstOf files seen f (middle + 1) last o → IsFirstOf files seen f first last o
  behind first middle last None le none h = λ rule from below. at rule from below (cases_lt rule (middle + 1))
    where
      at : (rule : ℕ) → first ≤ rule → rule < last + 1 → (rule < middle + 1) ⊎ (middle + 1 ≤ rule) → breaches_by rule files seen f ≡ []
      at rule from below (inl lt) = none rule from lt
      at rule from below (inr ge) = h rule ge below
  behind first middle last (Some b) le none h =
      record { from = omega (arith, le, h.from); upto = h.upto; broken = h.broken; least = λ rule from below. at rule from below (cases_lt rule (middle + 1)) }
    where
      at : (rule : ℕ) → first ≤ rule → rule < b.rule → (rule < middle + 1) ⊎ (middle + 1 ≤ rule) → breaches_by rule files seen f ≡ []
      at rule from below (inl lt) = none rule from lt
      at rule from below (inr ge) = h.least rule ge below
