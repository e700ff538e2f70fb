-- A settled record is settled.
use Rattle.std.proofs.Common.{◌≡◌, ◌∙◌, List, [], ◌∷◌, map, Option, None, Some, refl, ap, sym, subst}
use Rattle.std.specs.Prelude.{option_map}
use Rattle.pbx_wire.specs.declared.rec.Rec.{Rec}
use Rattle.pbx_desc_shapes.specs.DescriptorShape.{file_fields, message_fields, field_fields, extension_range_fields, reserved_range_fields, oneof_fields}
use Rattle.pbx_desc_shapes.specs.DescriptorShape.{enum_fields, enum_reserved_range_fields, enum_value_fields, service_fields, method_fields}
use Rattle.pbx_desc_shapes.specs.DescriptorShape.{source_code_info_fields, location_fields}
use Rattle.pbx_desc_records.specs.declared.enumeration.EnumDescriptorProto.{EnumDescriptorProto}
use Rattle.pbx_desc_records.specs.declared.enumeration.EnumReservedRange.{EnumReservedRange}
use Rattle.pbx_desc_records.specs.declared.enumeration.EnumValueDescriptorProto.{EnumValueDescriptorProto}
use Rattle.pbx_desc_records.specs.declared.field.FieldDescriptorProto.{FieldDescriptorProto}
use Rattle.pbx_desc_records.specs.declared.field.OneofDescriptorProto.{OneofDescriptorProto}
use Rattle.pbx_desc_records.specs.declared.file.FileDescriptorProto.{FileDescriptorProto}
use Rattle.pbx_desc_records.specs.declared.message.DescriptorProto.{DescriptorProto, out-DescriptorProto, roll-DescriptorProto, roll-out-DescriptorProto}
use Rattle.pbx_desc_records.specs.declared.message.DescriptorProto.{out-roll-DescriptorProto, ind-DescriptorProto}
use Rattle.pbx_desc_records.specs.declared.message.DescriptorProto.TheOpen.{DescriptorProto-F}
use Rattle.pbx_desc_records.specs.declared.message.ExtensionRange.{ExtensionRange}
use Rattle.pbx_desc_records.specs.declared.message.ReservedRange.{ReservedRange}
use Rattle.pbx_desc_records.specs.declared.options.Options.{Options}
use Rattle.pbx_desc_records.specs.declared.service.MethodDescriptorProto.{MethodDescriptorProto}
use Rattle.pbx_desc_records.specs.declared.service.ServiceDescriptorProto.{ServiceDescriptorProto}
use Rattle.pbx_desc_records.specs.declared.source.Location.{Location}
use Rattle.pbx_desc_records.specs.declared.source.SourceCodeInfo.{SourceCodeInfo}
use Rattle.pbx_link_record.specs.Unknown.{settled_unknown}
use Rattle.pbx_link_record.specs.Settled.{settled_options, settled_extension_range, settled_reserved_range, settled_field, settled_oneof, settled_enum_range}
use Rattle.pbx_link_record.specs.Settled.{settled_value, settled_enum, settled_method, settled_service, settled_location, settled_source, settled_message}
use Rattle.pbx_link_record.specs.Settled.{settled_file}
use Rattle.pbx_link_record.proofs.Layers.{settled_open, settled_out}
use Rattle.pbx_link_laws.specs.ContentLaws.{SettledIsSettled}
use Rattle.pbx_link_laws.proofs.Lists.{map_through}
use Rattle.pbx_link_laws.proofs.Recs.{unknown_again, options_again}

-- a list whose items are settled
pub list_again : {X : Type 0} (g : X → X) → ((x : X) → g (g x) ≡ g x) → (xs : List X) → map g (map g xs) ≡ map g xs
list_again g e xs = map_through g g g e xs

pub range_again : (r : ExtensionRange) → settled_extension_range (settled_extension_range r) ≡ settled_extension_range r
range_again r =
    ap (λ (o : Option Options). record r { options = o; unknown = settled_unknown extension_range_fields (settled_unknown extension_range_fields r.unknown) })
    (options_again r.options)
    ∙ ap (λ (rs : List Rec). record r { options = settled_options r.options; unknown = rs }) (unknown_again extension_range_fields r.unknown)

pub reserved_again : (r : ReservedRange) → settled_reserved_range (settled_reserved_range r) ≡ settled_reserved_range r
reserved_again r = ap (λ (rs : List Rec). record r { unknown = rs }) (unknown_again reserved_range_fields r.unknown)

pub field_again : (x : FieldDescriptorProto) → settled_field (settled_field x) ≡ settled_field x
field_again x =
    ap (λ (o : Option Options). record x { options = o; unknown = settled_unknown field_fields (settled_unknown field_fields x.unknown) })
    (options_again x.options)
    ∙ ap (λ (rs : List Rec). record x { options = settled_options x.options; unknown = rs }) (unknown_again field_fields x.unknown)

pub oneof_again : (x : OneofDescriptorProto) → settled_oneof (settled_oneof x) ≡ settled_oneof x
oneof_again x =
    ap (λ (o : Option Options). record x { options = o; unknown = settled_unknown oneof_fields (settled_unknown oneof_fields x.unknown) })
    (options_again x.options)
    ∙ ap (λ (rs : List Rec). record x { options = settled_options x.options; unknown = rs }) (unknown_again oneof_fields x.unknown)

pub enum_range_again : (r : EnumReservedRange) → settled_enum_range (settled_enum_range r) ≡ settled_enum_range r
enum_range_again r = ap (λ (rs : List Rec). record r { unknown = rs }) (unknown_again enum_reserved_range_fields r.unknown)

pub value_again : (v : EnumValueDescriptorProto) → settled_value (settled_value v) ≡ settled_value v
value_again v =
    ap (λ (o : Option Options). record v { options = o; unknown = settled_unknown enum_value_fields (settled_unknown enum_value_fields v.unknown) })
    (options_again v.options)
    ∙ ap (λ (rs : List Rec). record v { options = settled_options v.options; unknown = rs }) (unknown_again enum_value_fields v.unknown)

-- the parts of an enum that settling changes
abbrev enum_with : EnumDescriptorProto → List EnumValueDescriptorProto → Option Options → List EnumReservedRange → List Rec → EnumDescriptorProto
enum_with e vs o rs us = record e { value = vs; options = o; reserved_range = rs; unknown = us }

pub enum_again : (e : EnumDescriptorProto) → settled_enum (settled_enum e) ≡ settled_enum e
enum_again e =
    let s : EnumDescriptorProto = settled_enum e in
    let t : EnumDescriptorProto = settled_enum s in
    ap (λ (vs : List EnumValueDescriptorProto). enum_with e vs t.options t.reserved_range t.unknown) (list_again settled_value value_again e.value)
    ∙ ap (λ (o : Option Options). enum_with e s.value o t.reserved_range t.unknown) (options_again e.options)
    ∙ ap (λ (rs : List EnumReservedRange). enum_with e s.value s.options rs t.unknown) (list_again settled_enum_range enum_range_again e.reserved_range)
    ∙ ap (λ (us : List Rec). enum_with e s.value s.options s.reserved_range us) (unknown_again enum_fields e.unknown)

pub method_again : (m : MethodDescriptorProto) → settled_method (settled_method m) ≡ settled_method m
method_again m =
    ap (λ (o : Option Options). record m { options = o; unknown = settled_unknown method_fields (settled_unknown method_fields m.unknown) })
    (options_again m.options)
    ∙ ap (λ (rs : List Rec). record m { options = settled_options m.options; unknown = rs }) (unknown_again method_fields m.unknown)

pub service_again : (s : ServiceDescriptorProto) → settled_service (settled_service s) ≡ settled_service s
service_again s =
    let once : ServiceDescriptorProto = settled_service s in
    let twice : ServiceDescriptorProto = settled_service once in
    ap (λ (ms : List MethodDescriptorProto). record s { method = ms; options = twice.options; unknown = twice.unknown })
    (list_again settled_method method_again s.method)
    ∙ ap (λ (o : Option Options). record s { method = once.method; options = o; unknown = twice.unknown }) (options_again s.options)
    ∙ ap (λ (rs : List Rec). record s { method = once.method; options = once.options; unknown = rs }) (unknown_again service_fields s.unknown)

location_again : (l : Location) → settled_location (settled_location l) ≡ settled_location l
location_again l = ap (λ (rs : List Rec). record l { unknown = rs }) (unknown_again location_fields l.unknown)

source_again : (s : SourceCodeInfo) → settled_source (settled_source s) ≡ settled_source s
source_again s =
    ap (λ (ls : List Location). record s {
      location = ls;
      unknown = settled_unknown source_code_info_fields
          (settled_unknown source_code_info_fields s.unknown);
    })
    (list_again settled_location location_again s.location)
    ∙ ap (λ (rs : List Rec). record s { location = map settled_location s.location; unknown = rs }) (unknown_again source_code_info_fields s.unknown)

pub sources_again : (o : Option SourceCodeInfo) → option_map settled_source (option_map settled_source o) ≡ option_map settled_source o
sources_again None = refl
sources_again (Some s) = ap (λ (t : SourceCodeInfo). Some t) (source_again s)

-- ---- messages

layer_again : (o : DescriptorProto-F DescriptorProto) → map settled_message (map settled_message o.nested_type) ≡ map settled_message o.nested_type
    → settled_open (settled_open o) ≡ settled_open o
layer_again o e =
    let s : DescriptorProto-F DescriptorProto = settled_open o in
    let t : DescriptorProto-F DescriptorProto = settled_open s in
    ap (λ (xs : List FieldDescriptorProto). record t { field = xs }) (list_again settled_field field_again o.field)
    ∙ ap (λ (xs : List DescriptorProto). record t { field = s.field; nested_type = xs }) e
    ∙ ap (λ (xs : List EnumDescriptorProto). record t { field = s.field; nested_type = s.nested_type; enum_type = xs })
    (list_again settled_enum enum_again o.enum_type)
    ∙ ap (λ (xs : List ExtensionRange). record t { field = s.field; nested_type = s.nested_type; enum_type = s.enum_type; extension_range = xs })
    (list_again settled_extension_range range_again o.extension_range)
    ∙ ap (λ (xs : List FieldDescriptorProto). record s {
      extension = xs;
      options = t.options;
      oneof_decl = t.oneof_decl;
      reserved_range = t.reserved_range;
      unknown = t.unknown;
    })
    (list_again settled_field field_again o.extension)
    ∙ ap (λ (x : Option Options). record s { options = x; oneof_decl = t.oneof_decl; reserved_range = t.reserved_range; unknown = t.unknown })
    (options_again o.options)
    ∙ ap (λ (xs : List OneofDescriptorProto). record s { oneof_decl = xs; reserved_range = t.reserved_range; unknown = t.unknown })
    (list_again settled_oneof oneof_again o.oneof_decl)
    ∙ ap (λ (xs : List ReservedRange). record s { reserved_range = xs; unknown = t.unknown })
    (list_again settled_reserved_range reserved_again o.reserved_range)
    ∙ ap (λ (rs : List Rec). record s { unknown = rs }) (unknown_again message_fields o.unknown)

kept_again : {S : Type 0} (v : S → DescriptorProto) → ((s : S) → settled_message (settled_message (v s)) ≡ settled_message (v s)) → (ss : List S)
    → map settled_message (map settled_message (map v ss)) ≡ map settled_message (map v ss)
kept_again v h [] = refl
kept_again v h (s ∷ ss) =
    ap (λ (m : DescriptorProto). m ∷ map settled_message (map settled_message (map v ss))) (h s)
    ∙ ap (λ (ms : List DescriptorProto). settled_message (v s) ∷ ms) (kept_again v h ss)

rolled_again : (o : DescriptorProto-F DescriptorProto) → map settled_message (map settled_message o.nested_type) ≡ map settled_message o.nested_type
    → settled_message (settled_message (roll-DescriptorProto o)) ≡ settled_message (roll-DescriptorProto o)
rolled_again o e =
    let m : DescriptorProto = roll-DescriptorProto o in
    let once : out-DescriptorProto (settled_message m) ≡ settled_open o = settled_out m ∙ ap settled_open (out-roll-DescriptorProto o) in
    sym (roll-out-DescriptorProto (settled_message (settled_message m)))
    ∙ ap roll-DescriptorProto (settled_out (settled_message m) ∙ ap settled_open once ∙ layer_again o e ∙ sym once)
    ∙ roll-out-DescriptorProto (settled_message m)

pub message_again : (m : DescriptorProto) → settled_message (settled_message m) ≡ settled_message m
message_again =
    ind-DescriptorProto (λ m. settled_message (settled_message m) ≡ settled_message m)
    (λ o inside e. rolled_again o
    (subst (λ (p : DescriptorProto-F DescriptorProto). map settled_message (map settled_message p.nested_type) ≡ map settled_message p.nested_type) e
    (kept_again (λ s. s.0) (λ s. s.1) inside.nested_type)))

-- ---- files

pub settled_is_settled : SettledIsSettled
settled_is_settled f =
    let s : FileDescriptorProto = settled_file f in
    let t : FileDescriptorProto = settled_file s in
    ap (λ (xs : List DescriptorProto). record t { message_type = xs }) (list_again settled_message message_again f.message_type)
    ∙ ap (λ (xs : List EnumDescriptorProto). record t { message_type = s.message_type; enum_type = xs }) (list_again settled_enum enum_again f.enum_type)
    ∙ ap (λ (xs : List ServiceDescriptorProto). record t { message_type = s.message_type; enum_type = s.enum_type; service = xs })
    (list_again settled_service service_again f.service)
    ∙ ap (λ (xs : List FieldDescriptorProto). record s { extension = xs; options = t.options; source_code_info = t.source_code_info; unknown = t.unknown })
    (list_again settled_field field_again f.extension)
    ∙ ap (λ (x : Option Options). record s { options = x; source_code_info = t.source_code_info; unknown = t.unknown }) (options_again f.options)
    ∙ ap (λ (x : Option SourceCodeInfo). record s { source_code_info = x; unknown = t.unknown }) (sources_again f.source_code_info)
    ∙ ap (λ (rs : List Rec). record s { unknown = rs }) (unknown_again file_fields f.unknown)
