-- Ranges in the order of their starts, each with the greatest end so far.
use Rattle.std.specs.Prelude.{◌≡◌, ℕ, ◌<◌, ◌≤◌, ℤ, int_le, List, length, slice_index_or, true, Option, Some}
use Rattle.std.specs.Option.{unwrap_or}
use Rattle.pbx_link_definitions.specs.Says.{signed_or_zero}
use Rattle.pbx_link_definitions.specs.Ranges.{Range}
use Rattle.pbx_link_definitions.specs.declared.ranges.Span.{Span}

-- the range of a span
abbrev pub span_range : Span → Range
span_range s = record { start = s.start; «end» = Some s.«end» }

-- the span of a range by its start and end; a range without an end has no number
abbrev pub span_of : Option ℤ → Option ℤ → Span
span_of start «end» = record { start = signed_or_zero start; «end» = unwrap_or «end» (signed_or_zero start) }

-- starts and ends rise
abbrev pub Rise : List Span → Type 0
Rise ss = (i j : ℕ) (d : Span) → i ≤ j → j < length ss →
    (int_le (slice_index_or ss i d).start (slice_index_or ss j d).start ≡ true)
    × (int_le (slice_index_or ss i d).«end» (slice_index_or ss j d).«end» ≡ true)
