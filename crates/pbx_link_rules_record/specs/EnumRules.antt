-- Rules on enums and their values (Protocol Buffers language guide: "Enumerations", "Enum Value Aliases", "Reserved Values").
use Rattle.std.specs.Prelude.{ℕ, int_le, ◌==◌, ◌&&◌, ◌||◌, not, is_none, ℤ, List, [], ◌∷◌, ◌++◌, map, length, Bool, false, Option, Some, None, if◌then◌else◌}
use Rattle.std.specs.List.{list_any, flat_map}
use Rattle.pbx_desc_records.specs.declared.enumeration.EnumDescriptorProto.{EnumDescriptorProto}
use Rattle.pbx_desc_records.specs.declared.enumeration.EnumReservedRange.{EnumReservedRange}
use Rattle.pbx_desc_records.specs.declared.enumeration.EnumValueDescriptorProto.{EnumValueDescriptorProto}
use Rattle.pbx_desc_records.specs.declared.file.FileDescriptorProto.{FileDescriptorProto}
use Rattle.pbx_link_definitions.specs.Names.{among, text_or_empty}
use Rattle.pbx_link_definitions.specs.Says.{is_proto3, is_number, are_equal, has_option, signed_or_zero}
use Rattle.pbx_link_definitions.specs.Definitions.{Place, Part, values_in, enums}
use Rattle.pbx_link_definitions.specs.Places.{places_where, repeated, place_if}
use Rattle.pbx_link_definitions.specs.Found.{is_earlier}

-- there is a last number, and the number is not above it
abbrev pub is_at_most : ℤ → Option ℤ → Bool
is_at_most z None = false
is_at_most z (Some last) = int_le z last

-- the number is in a range that the enum reserves, whose last number stands in the record
abbrev pub is_reserved_value : EnumDescriptorProto → Option ℤ → Bool
is_reserved_value e None = false
is_reserved_value e (Some z) = list_any (λ (r : EnumReservedRange). int_le (signed_or_zero r.start) z && is_at_most z r.«end») e.reserved_range

-- a value without a number, or with a reserved number or name
abbrev pub is_bad_value : EnumDescriptorProto → EnumValueDescriptorProto → Bool
is_bad_value e v = is_none v.number || is_reserved_value e v.number || among e.reserved_name (text_or_empty v.name)

-- both have one number
abbrev pub like_valued : EnumValueDescriptorProto → EnumValueDescriptorProto → Bool
like_valued v w = are_equal v.number w.number

-- the values that have the number of an earlier one, unless the enum allows aliases (field 2 of EnumOptions)
abbrev pub aliases : Part EnumDescriptorProto → List Place
aliases e = if has_option 2 e.item.options then [] else map (λ v. v.place) (repeated (λ v w. like_valued v.item w.item) [] (values_in e))

-- the first value of an enum of proto3, where its number is not 0
abbrev pub bad_first : Bool → List (Part EnumValueDescriptorProto) → List Place
bad_first proto3 [] = []
bad_first proto3 (v ∷ vs) = place_if (proto3 && not (is_number v.item.number 0)) v.place

-- an enum without values, and the values of an enum
abbrev pub bad_enum : Bool → Part EnumDescriptorProto → List Place
bad_enum proto3 e =
    place_if (length e.item.value == 0) e.place
    ++ places_where (λ v. is_bad_value e.item v.item) (λ v. v.place) (values_in e)
    ++ aliases e
    ++ bad_first proto3 (values_in e)

-- all enums
abbrev pub bad_enums : FileDescriptorProto → List Place
bad_enums f = flat_map (bad_enum (is_proto3 f)) (enums f)

-- the value at this index breaks a rule
abbrev pub breaks_value : Bool → EnumDescriptorProto → ℕ → EnumValueDescriptorProto → Bool
breaks_value proto3 e i v =
    is_bad_value e v || (not (has_option 2 e.options) && is_earlier like_valued e.value i v) || (proto3 && (i == 0 && not (is_number v.number 0)))
