-- Records of messages.
use Rattle.std.specs.Prelude.{ℕ, ◌+◌, List, [], ◌∷◌, ◌++◌, map, length, Option, Some, None, pos, if◌then◌else◌}
use Rattle.std.specs.List.{flat_map}
use Rattle.pbx_desc_records.specs.declared.enumeration.EnumDescriptorProto.{EnumDescriptorProto}
use Rattle.pbx_desc_records.specs.declared.field.FieldDescriptorProto.{FieldDescriptorProto}
use Rattle.pbx_desc_records.specs.declared.field.OneofDescriptorProto.{OneofDescriptorProto}
use Rattle.pbx_desc_records.specs.declared.message.DescriptorProto.{DescriptorProto, roll-DescriptorProto}
use Rattle.pbx_desc_records.specs.declared.message.ExtensionRange.{ExtensionRange}
use Rattle.pbx_desc_records.specs.declared.message.ReservedRange.{ReservedRange}
use Rattle.pbx_parse_token.specs.declared.token.Span.{Span}
use Rattle.pbx_parse_tree.specs.declared.tree.Version.{Version}
use Rattle.pbx_parse_tree.specs.declared.options.OptionPlace.TheVariants as places
use Rattle.pbx_parse_tree.specs.Conditions.{body_settings}
use Rattle.pbx_parse_tree.specs.Tree.{Count, all_of, RangeEnd, range_number, range_max, Range, Reserved, reserved_ranges, reserved_names, Member, empty_member, member, Extension, empty_extension, extension, EnumItem, enum_value, Item, item_field, item_map, item_oneof, item_enum, item_extend, item_extensions, item_reserved, Body, end, item, message}
use Rattle.pbx_parse_tree.specs.View.{BodyItem, plain, nested}
use Rattle.pbx_parse_translation.specs.Texts.{entry_name}
use Rattle.pbx_parse_translation.specs.Settings.{options_of}
use Rattle.pbx_parse_translation.specs.Fields.{is_proto3_optional, field_record, member_records, map_record, entry_record, extend_records}
use Rattle.pbx_parse_translation.specs.Enums.{names_reserved, enum_record}
use Rattle.pbx_parse_translation.specs.Synthetic.{synthetic_names}

-- what stands in a body, in its order; messages in it are not entered
unfoldable pub body_items : Body → List BodyItem
body_items end = []
body_items (item i b) = plain i ∷ body_items b
body_items (message h inner close b) = nested h inner close ∷ body_items b

-- ---- ranges

-- `max` is the greatest field number
abbrev end_number : RangeEnd Count → ℕ
end_number (range_number n) = n.value
end_number (range_max s) = 536870911

-- the last number of a range, which is its first where it has one number
abbrev pub last_number : Count → Option (Span × RangeEnd Count) → ℕ
last_number from None = from.value
last_number from (Some to) = end_number to.1

-- a range of a message ends behind its last number
unfoldable pub reserved_range : Range Count → ReservedRange
reserved_range r = record { start = Some (pos r.from.value); end = Some (pos (last_number r.from r.to + 1)); unknown = [] }

unfoldable pub extension_range : Range Count → ExtensionRange
extension_range r = record { start = Some (pos r.from.value); end = Some (pos (last_number r.from r.to + 1)); options = None; unknown = [] }

abbrev pub ranges_reserved : Reserved Count → List ReservedRange
ranges_reserved (reserved_ranges keyword ranges close) = map reserved_range (all_of ranges)
ranges_reserved (reserved_names keyword names close) = []

abbrev pub reserved_ranges_in : BodyItem → List ReservedRange
reserved_ranges_in (plain (item_reserved r)) = ranges_reserved r
reserved_ranges_in _ = []

abbrev pub reserved_names_in : BodyItem → List (List ℕ)
reserved_names_in (plain (item_reserved r)) = names_reserved r
reserved_names_in _ = []

abbrev pub extension_ranges_in : BodyItem → List ExtensionRange
extension_ranges_in (plain (item_extensions e)) = map extension_range (all_of e.ranges)
extension_ranges_in _ = []

-- ---- enums and extensions

abbrev pub enums_in : BodyItem → List EnumDescriptorProto
enums_in (plain (item_enum e)) = enum_record e ∷ []
enums_in _ = []

abbrev pub extensions_in : Version → BodyItem → List FieldDescriptorProto
extensions_in v (plain (item_extend e)) = extend_records v e
extensions_in v _ = []

-- ---- oneofs

-- a oneof of this name
unfoldable pub oneof_record : List ℕ → OneofDescriptorProto
oneof_record name = record { name = Some name; options = None; unknown = [] }

-- the oneofs that are written
abbrev pub oneofs_in : BodyItem → List OneofDescriptorProto
oneofs_in (plain (item_oneof o)) = oneof_record o.name.text ∷ []
oneofs_in _ = []

-- the names of the fields that have a synthetic oneof
abbrev pub optional_names_in : Version → BodyItem → List (List ℕ)
optional_names_in v (plain (item_field f)) = if is_proto3_optional v f.label then f.tail.name.text ∷ [] else []
optional_names_in v _ = []

abbrev pub member_names : Member → List (List ℕ)
member_names (empty_member s) = []
member_names (member k t) = t.name.text ∷ []

abbrev pub value_names : EnumItem → List (List ℕ)
value_names (enum_value v) = v.name.text ∷ []
value_names _ = []

abbrev pub extension_names : Extension → List (List ℕ)
extension_names (empty_extension s) = []
extension_names (extension f) = f.tail.name.text ∷ []

-- the names that a statement puts into the scope of its message: enum values stand in the scope that holds their enum
abbrev pub item_names : Item → List (List ℕ)
item_names (item_field f) = f.tail.name.text ∷ []
item_names (item_map m) = m.tail.name.text ∷ entry_name m.tail.name.text ∷ []
item_names (item_oneof o) = o.name.text ∷ flat_map member_names o.members
item_names (item_enum e) = e.name.text ∷ flat_map value_names e.items
item_names (item_extend e) = flat_map extension_names e.extensions
item_names _ = []

abbrev pub names_in : BodyItem → List (List ℕ)
names_in (plain i) = item_names i
names_in (nested h inner close) = h.name.text ∷ []

-- the names in the scope of a message, those of its synthetic oneofs left out
abbrev pub scope_names : List BodyItem → List (List ℕ)
scope_names ps = flat_map names_in ps

-- the names of the synthetic oneofs of a message, in the order of their fields
abbrev pub synthetic_oneofs : Version → List BodyItem → List (List ℕ)
synthetic_oneofs v ps = synthetic_names (scope_names ps) (flat_map (optional_names_in v) ps)

-- the oneofs of a message: those that are written, and then the synthetic ones
abbrev pub oneof_records : Version → List BodyItem → List OneofDescriptorProto
oneof_records v ps = flat_map oneofs_in ps ++ map oneof_record (synthetic_oneofs v ps)

-- ---- fields

-- the fields of one item, where so many oneofs are written before it, and the next synthetic one has this index
abbrev pub fields_in : Version → ℕ → ℕ → BodyItem → List FieldDescriptorProto
fields_in v written synthetic (plain (item_field f)) = field_record v synthetic f ∷ []
fields_in v written synthetic (plain (item_map m)) = map_record m ∷ []
fields_in v written synthetic (plain (item_oneof o)) = flat_map (member_records written) o.members
fields_in v written synthetic _ = []

-- the fields of these items
unfoldable pub fields_from : Version → ℕ → ℕ → List BodyItem → List FieldDescriptorProto
fields_from v written synthetic [] = []
fields_from v written synthetic (p ∷ ps) =
    fields_in v written synthetic p ++ fields_from v (written + length (oneofs_in p)) (synthetic + length (optional_names_in v p)) ps

-- the fields of a message: oneofs are counted from 0, and the synthetic ones stand behind all that are written
abbrev pub fields_of : Version → List BodyItem → List FieldDescriptorProto
fields_of v ps = fields_from v 0 (length (flat_map oneofs_in ps)) ps

-- ---- messages

-- a message of this name, this body and these nested types, each of its other lists in the order of the source
unfoldable pub message_with : Version → List ℕ → Body → List DescriptorProto → DescriptorProto
message_with v name b types = roll-DescriptorProto (record {
  name = Some name;
  field = fields_of v (body_items b);
  nested_type = types;
  enum_type = flat_map enums_in (body_items b);
  extension_range = flat_map extension_ranges_in (body_items b);
  extension = flat_map (extensions_in v) (body_items b);
  options = options_of places.Message (body_settings b);
  oneof_decl = oneof_records v (body_items b);
  reserved_range = flat_map reserved_ranges_in (body_items b);
  reserved_name = flat_map reserved_names_in (body_items b);
  unknown = [];
})

abbrev pub entries_in : Item → List DescriptorProto
entries_in (item_map m) = entry_record m ∷ []
entries_in _ = []

-- the messages and the entries of maps in a body, in the order of the source
unfoldable pub nested_types : Version → Body → List DescriptorProto
nested_types v end = []
nested_types v (item i b) = entries_in i ++ nested_types v b
nested_types v (message h inner close b) = message_with v h.name.text inner (nested_types v inner) ∷ nested_types v b

-- the message of this name and this body
abbrev pub message_record : Version → List ℕ → Body → DescriptorProto
message_record v name b = message_with v name b (nested_types v b)
