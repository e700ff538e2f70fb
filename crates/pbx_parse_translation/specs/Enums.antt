-- Records of enums.
use Rattle.std.specs.Prelude.{ℕ, List, [], ◌∷◌, map, Option, Some, None, ℤ, pos}
use Rattle.std.specs.List.{flat_map, filter_map}
use Rattle.pbx_desc_records.specs.declared.enumeration.EnumDescriptorProto.{EnumDescriptorProto}
use Rattle.pbx_desc_records.specs.declared.enumeration.EnumReservedRange.{EnumReservedRange}
use Rattle.pbx_desc_records.specs.declared.enumeration.EnumValueDescriptorProto.{EnumValueDescriptorProto}
use Rattle.pbx_parse_token.specs.declared.token.Span.{Span}
use Rattle.pbx_parse_tree.specs.declared.options.OptionPlace.TheVariants as places
use Rattle.pbx_parse_tree.specs.Conditions.{settings_of, enum_setting}
use Rattle.pbx_parse_tree.specs.Tree.{Number, all_of, RangeEnd, range_number, range_max, Range, Reserved, reserved_ranges, reserved_names, Value, EnumItem, enum_value, enum_reserved, Enum}
use Rattle.pbx_parse_translation.specs.Texts.{signed, string_text}
use Rattle.pbx_parse_translation.specs.Settings.{options_of}

-- the names that a statement reserves
abbrev pub names_reserved : {A : Type 0} → Reserved A → List (List ℕ)
names_reserved (reserved_ranges keyword ranges close) = []
names_reserved (reserved_names keyword names close) = map string_text (all_of names)

unfoldable pub value_record : Value → EnumValueDescriptorProto
value_record v = record {
  name = Some v.name.text;
  number = Some (signed v.number);
  options = options_of places.EnumValue (settings_of v.settings);
  unknown = [];
}

abbrev pub enum_value_records : EnumItem → List EnumValueDescriptorProto
enum_value_records (enum_value v) = value_record v ∷ []
enum_value_records _ = []

-- `max` is the greatest `int32`
abbrev end_number : RangeEnd Number → ℤ
end_number (range_number n) = signed n
end_number (range_max s) = pos 2147483647

-- the last number of a range, which is its first where it has one number
abbrev pub last_number : Number → Option (Span × RangeEnd Number) → ℤ
last_number from None = signed from
last_number from (Some to) = end_number to.1

-- a range of an enum ends with its last number
unfoldable pub enum_range : Range Number → EnumReservedRange
enum_range r = record { start = Some (signed r.from); end = Some (last_number r.from r.to); unknown = [] }

abbrev enum_ranges : Reserved Number → List EnumReservedRange
enum_ranges (reserved_ranges keyword ranges close) = map enum_range (all_of ranges)
enum_ranges (reserved_names keyword names close) = []

abbrev pub range_records : EnumItem → List EnumReservedRange
range_records (enum_reserved r) = enum_ranges r
range_records _ = []

abbrev pub reserved_names_in : EnumItem → List (List ℕ)
reserved_names_in (enum_reserved r) = names_reserved r
reserved_names_in _ = []

-- an enum, each of its lists in the order of the source
unfoldable pub enum_record : Enum → EnumDescriptorProto
enum_record e = record {
  name = Some e.name.text;
  value = flat_map enum_value_records e.items;
  options = options_of places.Enum (filter_map enum_setting e.items);
  reserved_range = flat_map range_records e.items;
  reserved_name = flat_map reserved_names_in e.items;
  unknown = [];
}
