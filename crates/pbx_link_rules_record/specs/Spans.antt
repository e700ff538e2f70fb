-- Ranges with their indexes, and steps: what searches among ranges keep.
use Rattle.std.specs.Prelude.{◌≡◌, ℕ, ◌<◌, ◌≤◌, ℤ, int_lt, int_le, max, ◌≤ℤ◌, ◌&&◌, List, length, Bool, true, false, Option, Some, None, slice_index_or}
use Rattle.std.specs.Ordering.{int_cmp}
use Rattle.std.specs.List.Sorted.{IsSortedByKey}
use Rattle.pbx_link_definitions.specs.Ranges.{Range}
use Rattle.pbx_link_rules_record.specs.declared.spans.Span.{Span}
use Rattle.pbx_link_rules_record.specs.declared.number_set.Step.{Step}

-- the end, or this number where there is none
abbrev pub end_or : ℤ → Option ℤ → ℤ
end_or z None = z
end_or z (Some e) = e

-- a range with its index; one without an end ends where it starts, so that it has no number either way
abbrev pub span_of : ℕ × Range → Span
span_of t = record { start = t.1.start; «end» = end_or t.1.start t.1.«end»; index = t.0 }

-- no span starts before the one in front of it
abbrev pub IsSortedByStart : List Span → Type 0
IsSortedByStart ss = IsSortedByKey (λ s. s.start) int_cmp ss

-- both have a number together
abbrev pub spans_share : Span → Span → Bool
spans_share s t = int_lt s.start s.«end» && int_lt t.start t.«end» && int_lt s.start t.«end» && int_lt t.start s.«end»

-- of spans that are sorted by start: the greater index of two that have a number together, or none where no two have
abbrev pub IsSharedIn : List Span → Option ℕ → Type 0
IsSharedIn ss None = IsSortedByStart ss → (a b : ℕ) (s : Span) → a < b → b < length ss → spans_share (slice_index_or ss b s) (slice_index_or ss a s) ≡ false
IsSharedIn ss (Some i) =
    IsSortedByStart ss → (a : ℕ) × (b : ℕ) × (a < b) × (b < length ss)
    × ((s : Span) → (spans_share (slice_index_or ss b s) (slice_index_or ss a s) ≡ true)
    × (i ≡ max (slice_index_or ss b s).index (slice_index_or ss a s).index))

-- the number is from the start of the step on, and below its reach
abbrev pub has_step : ℤ → Step → Bool
has_step z t = int_le t.start z && int_lt z t.reach

-- a step has the start of the span at this index, and reaches to the greatest end of the spans up to it
pub record IsStep (ss : List Span) (k : ℕ) (t : Step) : Type 0 where
  pub start : (s : Span) → t.start ≡ (slice_index_or ss k s).start
  pub upto : (j : ℕ) (s : Span) → j ≤ k → (slice_index_or ss j s).«end» ≤ℤ t.reach
  pub attained : (j : ℕ) × (j ≤ k) × ((s : Span) → t.reach ≡ (slice_index_or ss j s).«end»)

-- each span's step
abbrev pub AreSteps : List Span → List Step → Type 0
AreSteps ss ts = (length ts ≡ length ss) × ((k : ℕ) (t : Step) → k < length ss → IsStep ss k (slice_index_or ts k t))

-- neither starts nor reaches fall
abbrev pub Rise : List Step → Type 0
Rise ts =
    (a b : ℕ) (t : Step) → a ≤ b → b < length ts
    → ((slice_index_or ts a t).start ≤ℤ (slice_index_or ts b t).start) × ((slice_index_or ts a t).reach ≤ℤ (slice_index_or ts b t).reach)
