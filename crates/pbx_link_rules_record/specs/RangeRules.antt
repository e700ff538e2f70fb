-- Rules on ranges: those that a message leaves to extensions or reserves, and those that an enum reserves (Protocol Buffers language
-- specification: "Extensions", "Reserved"; `descriptor.proto`: the last number of an EnumReservedRange is in it).
use Rattle.std.specs.Prelude.{pos, ◌+ℤ◌, int_lt, int_le, ◌&&◌, ◌||◌, ℤ, List, [], ◌++◌, map, Bool, true, false, Option, Some, None}
use Rattle.std.specs.Prelude.{option_map, if◌then◌else◌}
use Rattle.std.specs.List.{flat_map}
use Rattle.pbx_desc_records.specs.declared.enumeration.EnumDescriptorProto.{EnumDescriptorProto}
use Rattle.pbx_desc_records.specs.declared.enumeration.EnumReservedRange.{EnumReservedRange}
use Rattle.pbx_desc_records.specs.declared.file.FileDescriptorProto.{FileDescriptorProto}
use Rattle.pbx_desc_records.specs.declared.message.DescriptorProto.{DescriptorProto}
use Rattle.pbx_link_definitions.specs.Says.{is_proto3, signed_or_zero}
use Rattle.pbx_link_definitions.specs.Definitions.{Place, Part, parts, messages, enums}
use Rattle.pbx_link_definitions.specs.Places.{places_where, repeated}
use Rattle.pbx_link_definitions.specs.Ranges.{Range, extension_ranges, reserved_ranges}

-- there is no end, or none above the start
abbrev pub is_empty_to : ℤ → Option ℤ → Bool
is_empty_to start None = true
is_empty_to start (Some limit) = int_le limit start

-- the range has no number
abbrev pub is_empty_range : Range → Bool
is_empty_range r = is_empty_to r.start r.«end»

-- there is an end, and the number is below it
abbrev pub is_above : ℤ → Option ℤ → Bool
is_above z None = false
is_above z (Some limit) = int_lt z limit

-- numbers below 1 or above 536,870,911, or none
abbrev pub is_bad_range : Range → Bool
is_bad_range r = int_lt r.start (pos 1) || is_above (pos 536870912) r.«end» || is_empty_range r

-- there are numbers from a to below b that are from c to below d
abbrev pub is_shared : ℤ → Option ℤ → ℤ → Option ℤ → Bool
is_shared a None c d = false
is_shared a (Some b) c None = false
is_shared a (Some b) c (Some d) = int_lt a b && int_lt c d && int_lt a d && int_lt c b

-- both have a number together
abbrev pub share_number : Range → Range → Bool
share_number r s = is_shared r.start r.«end» s.start s.«end»

-- the extension ranges of a message, with their places (field 5 of DescriptorProto)
abbrev pub extension_range_parts : Part DescriptorProto → List (Part Range)
extension_range_parts m = parts [] m.place 5 (extension_ranges m.item)

-- the extension ranges and the reserved ranges (field 9) of a message
abbrev pub message_ranges : Part DescriptorProto → List (Part Range)
message_ranges m = extension_range_parts m ++ parts [] m.place 9 (reserved_ranges m.item)

-- the numbers from the first to the last of a range that an enum reserves
abbrev pub enum_range : EnumReservedRange → Range
enum_range r = record { start = signed_or_zero r.start; «end» = option_map (λ last. last +ℤ pos 1) r.«end» }

-- the ranges that an enum reserves, with their places (field 4 of EnumDescriptorProto)
abbrev pub enum_ranges : Part EnumDescriptorProto → List (Part Range)
enum_ranges e = parts [] e.place 4 (map enum_range e.item.reserved_range)

-- the ranges that are bad of themselves, and those that have a number of an earlier one
abbrev pub bad_ranges_of : (Range → Bool) → List (Part Range) → List Place
bad_ranges_of P rs =
    places_where (λ (r : Part Range). P r.item) (λ r. r.place) rs ++ map (λ r. r.place) (repeated (λ r s. share_number r.item s.item) [] rs)

-- of a message: its ranges, and every extension range of proto3
abbrev pub bad_message_ranges : Bool → Part DescriptorProto → List Place
bad_message_ranges proto3 m = bad_ranges_of is_bad_range (message_ranges m) ++ (if proto3 then map (λ r. r.place) (extension_range_parts m) else [])

-- of an enum
abbrev pub bad_enum_ranges : Part EnumDescriptorProto → List Place
bad_enum_ranges e = bad_ranges_of is_empty_range (enum_ranges e)

-- of all messages and enums
abbrev pub bad_ranges : FileDescriptorProto → List Place
bad_ranges f = flat_map (bad_message_ranges (is_proto3 f)) (messages f) ++ flat_map bad_enum_ranges (enums f)
