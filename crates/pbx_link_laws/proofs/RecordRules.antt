-- The rules on a record taken alone find the same in a settled one.
use Rattle.std.proofs.Common.{◌≡◌, ◌∙◌, ℕ, ◌==◌, ◌&&◌, ◌||◌, not, ℤ, pos, List, [], ◌∷◌, ◌++◌, map, Bool, if◌then◌else◌, Option, None, Some, is_none, refl, ap}
use Rattle.std.specs.Prelude.{int_le}
use Rattle.pbx_desc_records.specs.declared.enumeration.EnumDescriptorProto.{EnumDescriptorProto}
use Rattle.pbx_desc_records.specs.declared.enumeration.EnumReservedRange.{EnumReservedRange}
use Rattle.pbx_desc_records.specs.declared.enumeration.EnumValueDescriptorProto.{EnumValueDescriptorProto}
use Rattle.pbx_desc_records.specs.declared.field.FieldDescriptorProto.{FieldDescriptorProto}
use Rattle.pbx_desc_records.specs.declared.field.OneofDescriptorProto.{OneofDescriptorProto}
use Rattle.pbx_desc_records.specs.declared.file.FileDescriptorProto.{FileDescriptorProto}
use Rattle.pbx_desc_records.specs.declared.message.DescriptorProto.{DescriptorProto, out-DescriptorProto}
use Rattle.pbx_desc_records.specs.declared.message.DescriptorProto.TheOpen.{DescriptorProto-F}
use Rattle.pbx_desc_records.specs.declared.message.ExtensionRange.{ExtensionRange}
use Rattle.pbx_desc_records.specs.declared.options.Options.{Options}
use Rattle.pbx_desc_records.specs.declared.service.MethodDescriptorProto.{MethodDescriptorProto}
use Rattle.pbx_desc_records.specs.declared.service.ServiceDescriptorProto.{ServiceDescriptorProto}
use Rattle.pbx_link_definitions.specs.Names.{text_or_empty, among}
use Rattle.pbx_link_definitions.specs.Says.{signed_or_zero, is_proto3, is_entry, has_option, is_uninterpreted}
use Rattle.pbx_link_definitions.specs.Definitions.{Place, Part, at, parts, Defined, name_place, fields_in, oneofs_in, values_in, methods_in, top_messages, messages}
use Rattle.pbx_link_definitions.specs.Definitions.{enums, services, extensions}
use Rattle.pbx_link_definitions.specs.Places.{places_where, repeated, place_if}
use Rattle.pbx_link_definitions.specs.Ranges.{Range}
use Rattle.pbx_link_rules_record.specs.FileRules.{is_unknown_syntax, unknown_syntax, is_bad_package, is_bad_name, bad_names}
use Rattle.pbx_link_rules_record.specs.EnumRules.{is_at_most, is_reserved_value, is_bad_value, like_valued, aliases, bad_first, bad_enum, bad_enums}
use Rattle.pbx_link_rules_record.specs.EntryRules.{are_entry_fields, is_empty, is_proper_entry, is_bad_entry, bad_entries}
use Rattle.pbx_link_rules_record.specs.OptionRules.{uninterpreted, extension_ranges_in, uninterpreted_in_message, uninterpreted_in_enum, uninterpreted_in_service}
use Rattle.pbx_link_rules_record.specs.OptionRules.{uninterpreted_options, message_sets}
use Rattle.pbx_link_rules_record.specs.RangeRules.{is_bad_range, is_empty_range, message_ranges, enum_range, bad_ranges_of, bad_message_ranges, bad_enum_ranges}
use Rattle.pbx_link_rules_record.specs.RangeRules.{bad_ranges}
use Rattle.pbx_link_record.specs.Settled.{settled_field, settled_oneof, settled_extension_range, settled_reserved_range, settled_enum_range, settled_value}
use Rattle.pbx_link_record.specs.Settled.{settled_enum, settled_method, settled_service, settled_message, settled_file}
use Rattle.pbx_link_record.proofs.Layers.{settled_open, settled_out}
use Rattle.pbx_link_laws.proofs.Lists.{map_twice, length_mapped, part_of, halves, told_alike, any_through, placed_alike, repeated_alike}
use Rattle.pbx_link_laws.proofs.Recs.{has_option_written, uninterpreted_written, edition_settled}
use Rattle.pbx_link_laws.proofs.Parts.{settled_fields_in, settled_oneofs_in, settled_ranges_in, settled_values_in, settled_methods_in}
use Rattle.pbx_link_laws.proofs.Parts.{settled_tops, settled_messages, settled_enums, settled_services, settled_extensions, settled_definitions}
use Rattle.pbx_link_laws.proofs.FieldRules.{settled_extension_ranges, settled_reserved_ranges}

abbrev File : Type 0
File = FileDescriptorProto

abbrev Message : Type 0
Message = Part DescriptorProto

abbrev Enum : Type 0
Enum = Part EnumDescriptorProto

-- ---- syntax, edition and names

pub syntax_of : (f : File) → unknown_syntax (settled_file f) ≡ unknown_syntax f
syntax_of f = ap (λ (b : Bool). place_if (is_unknown_syntax f.syntax) (pos 12 ∷ []) ++ place_if b (pos 14 ∷ [])) (edition_settled f.unknown)

pub names_of : (f : File) → bad_names (settled_file f) ≡ bad_names f
names_of f =
    ap (λ (ds : List Defined). place_if (is_none f.name) (pos 1 ∷ []) ++ place_if (is_bad_package f.«package») (pos 2 ∷ [])
    ++ places_where is_bad_name name_place ds)
    (settled_definitions f)

-- ---- enums

reserved_value : (e : EnumDescriptorProto) (z : Option ℤ) → is_reserved_value (settled_enum e) z ≡ is_reserved_value e z
reserved_value e None = refl
reserved_value e (Some z) =
    let inside : EnumReservedRange → Bool = λ r. int_le (signed_or_zero r.start) z && is_at_most z r.«end» in
    any_through settled_enum_range inside inside (λ r. refl) e.reserved_range

bad_value : (e : EnumDescriptorProto) (v : EnumValueDescriptorProto) → is_bad_value (settled_enum e) (settled_value v) ≡ is_bad_value e v
bad_value e v = ap (λ (b : Bool). is_none v.number || b || among e.reserved_name (text_or_empty v.name)) (reserved_value e v.number)

settled_aliases : (e : Enum) → aliases (part_of settled_enum e) ≡ aliases e
settled_aliases e =
    let again : Enum → List Place = λ x. map (λ v. v.place) (repeated (λ v w. like_valued v.item w.item) [] (values_in x)) in
    ap (λ (b : Bool). if b then [] else again (part_of settled_enum e)) (has_option_written 2 refl e.item.options)
    ∙ ap (λ (ps : List Place). if has_option 2 e.item.options then [] else ps)
    (repeated_alike (part_of settled_value) (λ v w. like_valued v.item w.item) (λ v w. like_valued v.item w.item) (λ v w. refl) (λ v. v.place) (λ v. v.place)
    (λ v. refl)
    (values_in (part_of settled_enum e)) (values_in e) (settled_values_in e))

first_value : (proto3 : Bool) (vs : List (Part EnumValueDescriptorProto)) → bad_first proto3 (map (part_of settled_value) vs) ≡ bad_first proto3 vs
first_value proto3 [] = refl
first_value proto3 (v ∷ vs) = refl

enum_of : (proto3 : Bool) (e : Enum) → bad_enum proto3 (part_of settled_enum e) ≡ bad_enum proto3 e
enum_of proto3 e =
    halves _ _ _ _
    (halves _ _ _ _
    (halves _ _ _ _
    (ap (λ (n : ℕ). place_if (n == 0) e.place) (length_mapped settled_value e.item.value))
    (placed_alike (part_of settled_value) (λ v. is_bad_value (settled_enum e.item) v.item) (λ v. is_bad_value e.item v.item) (λ v. bad_value e.item v.item)
    (λ v. v.place) (λ v. v.place) (λ v. refl) (values_in (part_of settled_enum e)) (values_in e) (settled_values_in e)))
    (settled_aliases e))
    (ap (bad_first proto3) (settled_values_in e) ∙ first_value proto3 (values_in e))

pub enums_of : (f : File) → bad_enums (settled_file f) ≡ bad_enums f
enums_of f =
    told_alike (part_of settled_enum) (bad_enum (is_proto3 f)) (bad_enum (is_proto3 f)) (enum_of (is_proto3 f)) (enums (settled_file f)) (enums f)
    (settled_enums f)

-- ---- entries of maps

pub settled_entry : (m : DescriptorProto) → is_entry (settled_message m) ≡ is_entry m
settled_entry m =
    ap (λ (l : DescriptorProto-F DescriptorProto). has_option 7 l.options) (settled_out m) ∙ has_option_written 7 refl (out-DescriptorProto m).options

entry_fields : (xs : List FieldDescriptorProto) → are_entry_fields (map settled_field xs) ≡ are_entry_fields xs
entry_fields [] = refl
entry_fields (x ∷ []) = refl
entry_fields (x ∷ y ∷ []) = refl
entry_fields (x ∷ y ∷ z ∷ xs) = refl

empty : {X : Type 0} (g : X → X) (xs : List X) → is_empty (map g xs) ≡ is_empty xs
empty g [] = refl
empty g (x ∷ xs) = refl

-- what a proper entry is, from the layer
abbrev pub proper : DescriptorProto-F DescriptorProto → Bool
proper o =
    are_entry_fields o.field && is_empty o.oneof_decl && is_empty o.nested_type && is_empty o.enum_type && is_empty o.extension_range
    && is_empty o.reserved_range

six : (a b c d e g a' b' c' d' e' g' : Bool) → a ≡ a' → b ≡ b' → c ≡ c' → d ≡ d' → e ≡ e' → g ≡ g'
    → (a && b && c && d && e && g) ≡ (a' && b' && c' && d' && e' && g')
six a b c d e g a' b' c' d' e' g' p q r s t u = cc

proper_layer : (o : DescriptorProto-F DescriptorProto) → proper (settled_open o) ≡ proper o
proper_layer o =
    six _ _ _ _ _ _ _ _ _ _ _ _ (entry_fields o.field) (empty settled_oneof o.oneof_decl) (empty settled_message o.nested_type) (empty settled_enum o.enum_type)
    (empty settled_extension_range o.extension_range) (empty settled_reserved_range o.reserved_range)

bad_entry : (m : DescriptorProto) → is_bad_entry (settled_message m) ≡ is_bad_entry m
bad_entry m =
    ap (λ (b : Bool). b && not (is_proper_entry (settled_message m))) (settled_entry m)
    ∙ ap (λ (b : Bool). is_entry m && not b) (ap proper (settled_out m) ∙ proper_layer (out-DescriptorProto m))

-- the places of messages that pass a test of their records
messages_placed : (test : DescriptorProto → Bool) → ((m : DescriptorProto) → test (settled_message m) ≡ test m) → (place : Message → Place)
    → ((m : Message) → place (part_of settled_message m) ≡ place m) → (ps qs : List Message) → ps ≡ map (part_of settled_message) qs
    → places_where (λ (m : Message). test m.item) place ps ≡ places_where (λ (m : Message). test m.item) place qs
messages_placed test same place there ps qs e =
    placed_alike (part_of settled_message) (λ (m : Message). test m.item) (λ (m : Message). test m.item) (λ m. same m.item) place place there ps qs e

pub entries_of : (f : File) → bad_entries (settled_file f) ≡ bad_entries f
entries_of f =
    halves _ _ _ _
    (messages_placed is_entry settled_entry (λ m. m.place) (λ m. refl) (top_messages (settled_file f)) (top_messages f) (settled_tops f))
    (messages_placed is_bad_entry bad_entry (λ m. m.place) (λ m. refl) (messages (settled_file f)) (messages f) (settled_messages f))

-- ---- options

-- the parts of changed items whose options are changed with no change of what they say
uninterpreted_of : {X : Type 0} (g : X → X) (options : X → Option Options) → ((x : X) → is_uninterpreted (options (g x)) ≡ is_uninterpreted (options x))
    → (n : ℕ)
    → (ps qs : List (Part X)) → ps ≡ map (part_of g) qs → uninterpreted options n ps ≡ uninterpreted options n qs
uninterpreted_of {X} g options same n ps qs e =
    placed_alike (part_of g) (λ (p : Part X). is_uninterpreted (options p.item)) (λ (p : Part X). is_uninterpreted (options p.item)) (λ p. same p.item)
    (λ p. at p n) (λ p. at p n) (λ p. refl) ps qs e

in_message : (m : Message) → uninterpreted_in_message (part_of settled_message m) ≡ uninterpreted_in_message m
in_message m =
    halves _ _ _ _
    (halves _ _ _ _
    (halves _ _ _ _
    (ap (λ (l : DescriptorProto-F DescriptorProto). place_if (is_uninterpreted l.options) (at m 7)) (settled_out m.item)
    ∙ ap (λ (b : Bool). place_if b (at m 7)) (uninterpreted_written (out-DescriptorProto m.item).options))
    (uninterpreted_of settled_field (λ (x : FieldDescriptorProto). x.options) (λ x. uninterpreted_written x.options) 8
    (fields_in (part_of settled_message m)) (fields_in m) (settled_fields_in m)))
    (uninterpreted_of settled_extension_range (λ (r : ExtensionRange). r.options) (λ r. uninterpreted_written r.options) 3
    (extension_ranges_in (part_of settled_message m)) (extension_ranges_in m) (settled_ranges_in m)))
    (uninterpreted_of settled_oneof (λ (o : OneofDescriptorProto). o.options) (λ o. uninterpreted_written o.options) 2
    (oneofs_in (part_of settled_message m)) (oneofs_in m) (settled_oneofs_in m))

in_enum : (e : Enum) → uninterpreted_in_enum (part_of settled_enum e) ≡ uninterpreted_in_enum e
in_enum e =
    halves _ _ _ _
    (ap (λ (b : Bool). place_if b (at e 3)) (uninterpreted_written e.item.options))
    (uninterpreted_of settled_value (λ (v : EnumValueDescriptorProto). v.options) (λ v. uninterpreted_written v.options) 3
    (values_in (part_of settled_enum e)) (values_in e) (settled_values_in e))

in_service : (s : Part ServiceDescriptorProto) → uninterpreted_in_service (part_of settled_service s) ≡ uninterpreted_in_service s
in_service s =
    halves _ _ _ _
    (ap (λ (b : Bool). place_if b (at s 3)) (uninterpreted_written s.item.options))
    (uninterpreted_of settled_method (λ (m : MethodDescriptorProto). m.options) (λ m. uninterpreted_written m.options) 4
    (methods_in (part_of settled_service s)) (methods_in s) (settled_methods_in s))

pub options_of : (f : File) → uninterpreted_options (settled_file f) ≡ uninterpreted_options f
options_of f =
    halves _ _ _ _
    (halves _ _ _ _
    (halves _ _ _ _
    (halves _ _ _ _
    (ap (λ (b : Bool). place_if b (pos 8 ∷ [])) (uninterpreted_written f.options))
    (told_alike (part_of settled_message) uninterpreted_in_message uninterpreted_in_message in_message (messages (settled_file f)) (messages f)
    (settled_messages f)))
    (uninterpreted_of settled_field (λ (x : FieldDescriptorProto). x.options) (λ x. uninterpreted_written x.options) 8
    (extensions (settled_file f)) (extensions f) (settled_extensions f)))
    (told_alike (part_of settled_enum) uninterpreted_in_enum uninterpreted_in_enum in_enum (enums (settled_file f)) (enums f) (settled_enums f)))
    (told_alike (part_of settled_service) uninterpreted_in_service uninterpreted_in_service in_service (services (settled_file f)) (services f)
    (settled_services f))

message_set : (m : DescriptorProto) → has_option 1 (out-DescriptorProto (settled_message m)).options ≡ has_option 1 (out-DescriptorProto m).options
message_set m =
    ap (λ (l : DescriptorProto-F DescriptorProto). has_option 1 l.options) (settled_out m) ∙ has_option_written 1 refl (out-DescriptorProto m).options

pub message_sets_of : (f : File) → message_sets (settled_file f) ≡ message_sets f
message_sets_of f =
    messages_placed (λ m. has_option 1 (out-DescriptorProto m).options) message_set (λ m. at m 7) (λ m. refl) (messages (settled_file f)) (messages f)
    (settled_messages f)

-- ---- ranges

ranges_in : (m : Message) → message_ranges (part_of settled_message m) ≡ message_ranges m
ranges_in m =
    halves _ _ _ _ (ap (parts [] m.place 5) (settled_extension_ranges m.item)) (ap (parts [] m.place 9) (settled_reserved_ranges m.item))

message_of : (proto3 : Bool) (m : Message) → bad_message_ranges proto3 (part_of settled_message m) ≡ bad_message_ranges proto3 m
message_of proto3 m =
    halves _ _ _ _ (ap (bad_ranges_of is_bad_range) (ranges_in m))
    (ap (λ (rs : List Range). if proto3 then map (λ (r : Part Range). r.place) (parts [] m.place 5 rs) else []) (settled_extension_ranges m.item))

enum_ranges_in : (e : Enum) → bad_enum_ranges (part_of settled_enum e) ≡ bad_enum_ranges e
enum_ranges_in e =
    ap (λ (rs : List Range). bad_ranges_of is_empty_range (parts [] e.place 4 rs)) (map_twice settled_enum_range enum_range e.item.reserved_range)

pub ranges_of : (f : File) → bad_ranges (settled_file f) ≡ bad_ranges f
ranges_of f =
    halves _ _ _ _
    (told_alike (part_of settled_message) (bad_message_ranges (is_proto3 f)) (bad_message_ranges (is_proto3 f)) (message_of (is_proto3 f))
    (messages (settled_file f)) (messages f) (settled_messages f))
    (told_alike (part_of settled_enum) bad_enum_ranges bad_enum_ranges enum_ranges_in (enums (settled_file f)) (enums f) (settled_enums f))
