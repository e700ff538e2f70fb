-- Ranges as spans.
use Rattle.std.proofs.Common.{◌≡◌, ◌∙◌, ◌||◌, ◌&&◌, false, List, [], ◌∷◌, ◌++◌, map, refl, ap, sym, arith}
use Rattle.std.proofs.lemmas.List.{map-append}
use Rattle.std.specs.Prelude.{ℤ, int_le, int_lt, Option, Some, None}
use Rattle.std.proofs.lemmas.Int.{ints}
use Rattle.std.proofs.lemmas.List.Folds.{list_any-append}
use Rattle.pbx_link_definitions.specs.Says.{signed_or_zero}
use Rattle.pbx_link_definitions.specs.Ranges.{Range, has_number, in_ranges}
use Rattle.pbx_link_definitions.specs.Spans.{span_range, span_of}
use Rattle.pbx_link_definitions.specs.declared.ranges.Span.{Span}

nothing_between : (a z : ℤ) → (int_le a z && int_lt z a) ≡ false
nothing_between a z = grind (arith, ints)

span_has : (start «end» number : Option ℤ) → has_number (span_range (span_of start «end»)) number
    ≡ has_number (record { start = signed_or_zero start; «end» = «end» }) number
span_has start «end» None = refl
span_has start (Some e) (Some z) = refl
span_has start None (Some z) = nothing_between (signed_or_zero start) z

pub spans_have : {R : Type 0} (start «end» : R → Option ℤ) (rs : List R) (number : Option ℤ)
    → in_ranges (map span_range (map (λ r. span_of (start r) («end» r)) rs)) number
    ≡ in_ranges (map (λ r. record { start = signed_or_zero (start r); «end» = «end» r }) rs) number
spans_have start «end» [] number = refl
spans_have start «end» (r ∷ rs) number =
    ap (λ b. b || in_ranges (map span_range (map (λ r. span_of (start r) («end» r)) rs)) number) (span_has (start r) («end» r) number)
    ∙ ap (λ b. has_number (record { start = signed_or_zero (start r); «end» = «end» r }) number || b) (spans_have start «end» rs number)

-- two lists of spans and two of ranges
pub both_have : (ss ts : List Span) (rs qs : List Range) (number : Option ℤ) → in_ranges (map span_range ss) number ≡ in_ranges rs number
    → in_ranges (map span_range ts) number ≡ in_ranges qs number
    → in_ranges (map span_range (ss ++ ts)) number ≡ in_ranges (rs ++ qs) number
both_have ss ts rs qs number a b =
    ap (λ (xs : List Range). in_ranges xs number) (map-append span_range ss ts)
    ∙ list_any-append (λ (r : Range). has_number r number) (map span_range ss) (map span_range ts)
    ∙ ap (λ c. c || in_ranges (map span_range ts) number) a ∙ ap (λ c. in_ranges rs number || c) b
    ∙ sym (list_any-append (λ (r : Range). has_number r number) rs qs)
