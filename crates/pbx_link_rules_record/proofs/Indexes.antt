-- Indexes that a search finds.
use Rattle.std.proofs.Common.{◌≡◌, ◌∙◌, ◌⊎◌, ℕ, zero, suc, ◌+◌, ◌<◌, ◌≤◌, nat_lt, cond, ◌&&◌, ◌||◌, not, ℤ, pos, ◌+ℤ◌, int_le, int_lt, List, [], ◌∷◌, map, length, take, get_or, Bool, true, false, Option, Some, None, is_none, refl, ap, sym, inl, inr, arith}
use Rattle.std.specs.Prelude.{position, option_map}
use Rattle.std.specs.List.{list_any, position_or_len}
use Rattle.std.proofs.lemmas.Bool.{cases_lt}
use Rattle.std.proofs.lemmas.Bool.Decides.{nat_tests}
use Rattle.std.proofs.lemmas.Int.{ints}
use Rattle.std.proofs.lemmas.List.{get_or_default}
use Rattle.std.proofs.lemmas.List.Quantifiers.{position-Some}
use Rattle.pbx_desc_records.specs.declared.enumeration.EnumDescriptorProto.{EnumDescriptorProto}
use Rattle.pbx_desc_records.specs.declared.enumeration.EnumReservedRange.{EnumReservedRange}
use Rattle.pbx_link_definitions.specs.Says.{are_equal, signed_or_zero}
use Rattle.pbx_link_definitions.specs.Ranges.{Range, has_number, in_ranges, is_within}
use Rattle.pbx_link_rules_record.specs.declared.number_set.Step.{Step}
use Rattle.pbx_link_definitions.specs.Found.{IsIndex, is_earlier}
use Rattle.pbx_link_rules_record.specs.Sets.{has_key, have_number, lacks_or_has}
use Rattle.pbx_link_rules_record.specs.EnumRules.{is_at_most, is_reserved_value}
use Rattle.pbx_link_rules_record.specs.RangeRules.{enum_range}
use Rattle.pbx_link_definitions.proofs.Seen.{was_there, was_new}
use Rattle.pbx_link_rules_record.proofs.Seen.{HasSeen, seen_is}

-- ---- numbers that were seen

module _ {X : Type 0} (number : X → Option ℤ) (xs : List X) (i : ℕ) (x : X) (ks : List ℤ) (added : Bool) (lt : i < length xs) (is : x ≡ get_or xs i x) (seen : HasSeen number xs i ks) (new : added ≡ not (has_key ks (number x))) where
  there : (d : X) → get_or xs i d ≡ x
  there d = get_or_default xs i d x lt ∙ sym is

  pub number_found : added ≡ false → IsIndex (is_earlier (λ y z. are_equal (number y) (number z)) xs) xs (Some i)
  number_found h =
      let yes : list_any (λ z. are_equal (number x) (number z)) (take i xs) ≡ true = sym (seen_is number xs i ks (number x) seen) ∙ was_there added _ new h in
      (lt, λ d. ap (λ (y : X). list_any (λ z. are_equal (number y) (number z)) (take i xs)) (there d) ∙ yes)

  -- none before the index has the number of an earlier one
  pub numbers_more : added ≡ true → ((k : ℕ) (d : X) → k < i → is_earlier (λ y z. are_equal (number y) (number z)) xs k (get_or xs k d) ≡ false)
      → (k : ℕ) (d : X) → k < i + 1 → is_earlier (λ y z. are_equal (number y) (number z)) xs k (get_or xs k d) ≡ false
  numbers_more h none k d upto = at (cases_lt k i)
    where
      at : (k < i) ⊎ (i ≤ k) → is_earlier (λ y z. are_equal (number y) (number z)) xs k (get_or xs k d) ≡ false
      at (inl below) = none k d below
      at (inr from) =
          let same : k ≡ i = omega arith in
          let no : list_any (λ z. are_equal (number x) (number z)) (take i xs) ≡ false = sym (seen_is number xs i ks (number x) seen) ∙ was_new added _ new h in
          ap (λ (n : ℕ). is_earlier (λ y z. are_equal (number y) (number z)) xs n (get_or xs n d)) same
          ∙ ap (λ (y : X). list_any (λ z. are_equal (number y) (number z)) (take i xs)) (there d) ∙ no

-- ---- numbers that an enum reserves

and_no : (a : Bool) → (a && false) ≡ false
and_no true = refl
and_no false = refl

below_next : (z last : ℤ) → int_lt z (last +ℤ pos 1) ≡ int_le z last
below_next z last = grind (arith, ints)

in_enum_range : (z : ℤ) (r : EnumReservedRange) → has_number (enum_range r) (Some z) ≡ (int_le (signed_or_zero r.start) z && is_at_most z r.«end»)
in_enum_range z r = at r.«end»
  where
    at : (e : Option ℤ) → is_within z (signed_or_zero r.start) (option_map (λ last. last +ℤ pos 1) e) ≡ (int_le (signed_or_zero r.start) z && is_at_most z e)
    at None = sym (and_no (int_le (signed_or_zero r.start) z))
    at (Some last) = ap (λ (b : Bool). int_le (signed_or_zero r.start) z && b) (below_next z last)

in_enum_ranges : (z : ℤ) (rs : List EnumReservedRange) → in_ranges (map enum_range rs) (Some z) ≡ list_any (λ r. int_le (signed_or_zero r.start) z && is_at_most z r.«end») rs
in_enum_ranges z [] = refl
in_enum_ranges z (r ∷ rs) = ap (λ (b : Bool). b || in_ranges (map enum_range rs) (Some z)) (in_enum_range z r) ∙ ap (λ (b : Bool). (int_le (signed_or_zero r.start) z && is_at_most z r.«end») || b) (in_enum_ranges z rs)

pub reserved_is : (e : EnumDescriptorProto) (ranges : List Range) (ts : List Step) (n : Option ℤ) → ranges ≡ map enum_range e.reserved_range → ((z : ℤ) → have_number ts z ≡ in_ranges ranges (Some z))
    → lacks_or_has ts n ≡ (is_none n || is_reserved_value e n)
reserved_is e ranges ts None is h = refl
reserved_is e ranges ts (Some z) is h = h z ∙ ap (λ (rs : List Range). in_ranges rs (Some z)) is ∙ in_enum_ranges z e.reserved_range
