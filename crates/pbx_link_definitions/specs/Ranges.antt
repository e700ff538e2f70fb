-- The numbers that fields may have, and the ranges of numbers that a message leaves to extensions or reserves (`descriptor.proto`:
-- DescriptorProto.ExtensionRange and ReservedRange, whose ends are exclusive).
use Rattle.std.specs.Prelude.{◌&&◌, not, nat_lt, nat_le, ℤ, pos, negsuc, int_le, int_lt, List, map, ◌++◌, Bool, false, Option, Some, None}
use Rattle.std.specs.List.{list_any}
use Rattle.pbx_desc_records.specs.declared.message.DescriptorProto.{DescriptorProto, out-DescriptorProto}
use Rattle.pbx_desc_records.specs.declared.message.ExtensionRange.{ExtensionRange}
use Rattle.pbx_desc_records.specs.declared.message.ReservedRange.{ReservedRange}
use Rattle.pbx_link_definitions.specs.Says.{signed_or_zero}

-- a field may have the number (language guide: "Assigning Field Numbers"): 1 to 536,870,911 without 19,000 to 19,999
abbrev pub is_field_number : Option ℤ → Bool
is_field_number None = false
is_field_number (Some (pos n)) = nat_lt 0 n && nat_lt n 536870912 && not (nat_le 19000 n && nat_le n 19999)
is_field_number (Some (negsuc n)) = false

-- A range of numbers: its start, which is 0 where it is absent, and its end, if it has one. The end is no part of the range.
pub record Range : Type 0 where
  pub start : ℤ
  pub «end» : Option ℤ

-- whether the number is in the range; one without an end has none
abbrev pub is_within : ℤ → ℤ → Option ℤ → Bool
is_within z start None = false
is_within z start (Some limit) = int_le start z && int_lt z limit

-- the number is in the range
abbrev pub has_number : Range → Option ℤ → Bool
has_number r None = false
has_number r (Some z) = is_within z r.start r.«end»

-- the ranges whose numbers are left to extensions
abbrev pub extension_ranges : DescriptorProto → List Range
extension_ranges m = map (λ (r : ExtensionRange). record { start = signed_or_zero r.start; «end» = r.«end» }) (out-DescriptorProto m).extension_range

-- the ranges that are reserved
abbrev pub reserved_ranges : DescriptorProto → List Range
reserved_ranges m = map (λ (r : ReservedRange). record { start = signed_or_zero r.start; «end» = r.«end» }) (out-DescriptorProto m).reserved_range

-- both
abbrev pub all_ranges : DescriptorProto → List Range
all_ranges m = extension_ranges m ++ reserved_ranges m

-- the number is in one of the ranges
abbrev pub in_ranges : List Range → Option ℤ → Bool
in_ranges rs z = list_any (λ r. has_number r z) rs
