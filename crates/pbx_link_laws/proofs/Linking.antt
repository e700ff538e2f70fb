-- Linking looks at the content of a record alone.
use Rattle.std.proofs.Common.{◌≡◌, ◌∙◌, ℕ, ℤ, List, [], ◌∷◌, map, Option, refl, ap, sym, subst}
use Rattle.pbx_wire.specs.declared.rec.Rec.{Rec}
use Rattle.pbx_desc_shapes.specs.DescriptorShape.{file_fields, message_fields, service_fields}
use Rattle.pbx_desc_records.specs.declared.enumeration.EnumDescriptorProto.{EnumDescriptorProto}
use Rattle.pbx_desc_records.specs.declared.field.FieldDescriptorProto.{FieldDescriptorProto}
use Rattle.pbx_desc_records.specs.declared.field.OneofDescriptorProto.{OneofDescriptorProto}
use Rattle.pbx_desc_records.specs.declared.file.FileDescriptorProto.{FileDescriptorProto}
use Rattle.pbx_desc_records.specs.declared.message.DescriptorProto.{DescriptorProto, out-DescriptorProto, roll-DescriptorProto, roll-out-DescriptorProto}
use Rattle.pbx_desc_records.specs.declared.message.DescriptorProto.{out-roll-DescriptorProto, ind-DescriptorProto}
use Rattle.pbx_desc_records.specs.declared.message.DescriptorProto.TheOpen.{DescriptorProto-F}
use Rattle.pbx_desc_records.specs.declared.message.ExtensionRange.{ExtensionRange}
use Rattle.pbx_desc_records.specs.declared.message.ReservedRange.{ReservedRange}
use Rattle.pbx_desc_records.specs.declared.options.Options.{Options}
use Rattle.pbx_desc_records.specs.declared.service.MethodDescriptorProto.{MethodDescriptorProto}
use Rattle.pbx_desc_records.specs.declared.service.ServiceDescriptorProto.{ServiceDescriptorProto}
use Rattle.pbx_desc_records.specs.declared.source.SourceCodeInfo.{SourceCodeInfo}
use Rattle.pbx_link_definitions.specs.Names.{text_or_empty, qualified}
use Rattle.pbx_link_definitions.specs.Definitions.{package_of}
use Rattle.pbx_link_scope.specs.Scope.{visible, bound_if}
use Rattle.pbx_link_record.specs.Settled.{settled_extension_range, settled_reserved_range, settled_field, settled_oneof, settled_enum, settled_method}
use Rattle.pbx_link_record.specs.Settled.{settled_service, settled_message, settled_file}
use Rattle.pbx_link_record.specs.Linked.{exact_by, exact, type_by, linked_extension, linked_field, linked_message, linked_method, linked_service, linked_with}
use Rattle.pbx_link_record.proofs.Layers.{linked_open, linked_out, settled_open, settled_out}
use Rattle.pbx_link_laws.specs.ContentLaws.{LinkingIsOfContents}
use Rattle.pbx_link_laws.proofs.Lists.{map_twice, map_through}
use Rattle.pbx_link_laws.proofs.Recs.{unknown_again, options_again}
use Rattle.pbx_link_laws.proofs.Once.{list_again, range_again, reserved_again, field_again, oneof_again, enum_again, method_again, sources_again}
use Rattle.pbx_link_laws.proofs.Scope.{told_by, SeeAlike, bound_if_alike, asks_exact, asks_kind}
use Rattle.pbx_link_laws.proofs.Sees.{settled_sees}

-- what is made of items by two changes, where it is the same of changed items
mapped_after : {X : Type 0} (s t u g : X → X) → ((x : X) → s (t (g x)) ≡ s (u x)) → (xs : List X) → map s (map t (map g xs)) ≡ map s (map u xs)
mapped_after s t u g e xs =
    ap (map s) (map_twice g t xs) ∙ map_through (λ x. t (g x)) s (λ x. s (u x)) e xs ∙ sym (map_twice u s xs)

-- ---- references

module _ (seen other : List FileDescriptorProto) (see : SeeAlike settled_message settled_enum seen other) where
  exact_alike : (scope : List ℕ) (name : Option (List ℕ)) → exact seen scope name ≡ exact other scope name
  exact_alike scope name =
      told_by settled_message settled_enum (exact_by name) (asks_exact settled_message settled_enum see.blind name) (bound_if seen scope name)
      (bound_if other scope name)
      (bound_if_alike settled_message settled_enum seen other see scope name)

  kind_alike : (scope : List ℕ) (x : FieldDescriptorProto)
      → type_by x.kind (bound_if seen scope x.type_name) ≡ type_by x.kind (bound_if other scope x.type_name)
  kind_alike scope x =
      told_by settled_message settled_enum (type_by x.kind) (asks_kind settled_message settled_enum see.blind x.kind) (bound_if seen scope x.type_name)
      (bound_if other scope x.type_name) (bound_if_alike settled_message settled_enum seen other see scope x.type_name)

  -- ---- fields and extensions

  extension_alike : (scope : List ℕ) (x : FieldDescriptorProto) → linked_extension seen scope x ≡ linked_extension other scope x
  extension_alike scope x =
      ap (λ (n : Option (List ℕ)). record x { extendee = n; kind = type_by x.kind (bound_if seen scope x.type_name); type_name = exact seen scope x.type_name })
      (exact_alike scope x.extendee)
      ∙ ap (λ (k : Option ℤ). record x { extendee = exact other scope x.extendee; kind = k; type_name = exact seen scope x.type_name }) (kind_alike scope x)
      ∙ ap (λ (n : Option (List ℕ)). record x {
        extendee = exact other scope x.extendee;
        kind = type_by x.kind
            (bound_if other scope x.type_name);
        type_name = n;
      })
      (exact_alike scope x.type_name)

  extension_linked : (scope : List ℕ) (x : FieldDescriptorProto)
      → settled_field (linked_extension seen scope (settled_field x)) ≡ settled_field (linked_extension other scope x)
  extension_linked scope x = field_again (linked_extension seen scope x) ∙ ap settled_field (extension_alike scope x)

  field_linked : (scope : List ℕ) (x : FieldDescriptorProto)
      → settled_field (linked_field seen scope (settled_field x)) ≡ settled_field (linked_field other scope x)
  field_linked scope x =
      field_again (linked_field seen scope x)
      ∙ ap (λ (y : FieldDescriptorProto). settled_field (record y { json_name = (linked_field other scope x).json_name })) (extension_alike scope x)

  -- ---- messages

  abbrev Links : List DescriptorProto → Type 0
  Links ms =
      (scope : List ℕ) → map settled_message (map (linked_message seen scope) (map settled_message ms)) ≡ map settled_message
      (map (linked_message other scope) ms)

  layer_linked : (scope : List ℕ) (o : DescriptorProto-F DescriptorProto) → Links o.nested_type
      → settled_open (linked_open seen scope (settled_open o)) ≡ settled_open (linked_open other scope o)
  layer_linked scope o e =
      let name : List ℕ = qualified scope (text_or_empty o.name) in
      let t : DescriptorProto-F DescriptorProto = settled_open (linked_open seen scope (settled_open o)) in
      let s : DescriptorProto-F DescriptorProto = settled_open (linked_open other scope o) in
      ap (λ (xs : List FieldDescriptorProto). record t { field = xs })
      (mapped_after settled_field (linked_field seen name) (linked_field other name) settled_field (field_linked name) o.field)
      ∙ ap (λ (xs : List DescriptorProto). record t { field = s.field; nested_type = xs }) (e name)
      ∙ ap (λ (xs : List EnumDescriptorProto). record t { field = s.field; nested_type = s.nested_type; enum_type = xs })
      (list_again settled_enum enum_again o.enum_type)
      ∙ ap (λ (xs : List ExtensionRange). record t { field = s.field; nested_type = s.nested_type; enum_type = s.enum_type; extension_range = xs })
      (list_again settled_extension_range range_again o.extension_range)
      ∙ ap (λ (xs : List FieldDescriptorProto). record s {
        extension = xs;
        options = t.options;
        oneof_decl = t.oneof_decl;
        reserved_range = t.reserved_range;
        unknown = t.unknown;
      })
      (mapped_after settled_field (linked_extension seen name) (linked_extension other name) settled_field (extension_linked name) o.extension)
      ∙ ap (λ (x : Option Options). record s { options = x; oneof_decl = t.oneof_decl; reserved_range = t.reserved_range; unknown = t.unknown })
      (options_again o.options)
      ∙ ap (λ (xs : List OneofDescriptorProto). record s { oneof_decl = xs; reserved_range = t.reserved_range; unknown = t.unknown })
      (list_again settled_oneof oneof_again o.oneof_decl)
      ∙ ap (λ (xs : List ReservedRange). record s { reserved_range = xs; unknown = t.unknown })
      (list_again settled_reserved_range reserved_again o.reserved_range)
      ∙ ap (λ (rs : List Rec). record s { unknown = rs }) (unknown_again message_fields o.unknown)

  abbrev IsLinked : DescriptorProto → Type 0
  IsLinked m = (scope : List ℕ) → settled_message (linked_message seen scope (settled_message m)) ≡ settled_message (linked_message other scope m)

  each_linked : {S : Type 0} (v : S → DescriptorProto) → ((s : S) → IsLinked (v s)) → (ss : List S) → Links (map v ss)
  each_linked v h [] scope = refl
  each_linked v h (s ∷ ss) scope =
      ap (λ (m : DescriptorProto). m ∷ map settled_message (map (linked_message seen scope) (map settled_message (map v ss)))) (h s scope)
      ∙ ap (λ (ms : List DescriptorProto). settled_message (linked_message other scope (v s)) ∷ ms) (each_linked v h ss scope)

  -- one layer of a linked and settled message
  linked_layer : (files : List FileDescriptorProto) (scope : List ℕ) (m : DescriptorProto)
      → out-DescriptorProto (settled_message (linked_message files scope m)) ≡ settled_open (linked_open files scope (out-DescriptorProto m))
  linked_layer files scope m = settled_out (linked_message files scope m) ∙ ap settled_open (linked_out files scope m)

  rolled_linked : (o : DescriptorProto-F DescriptorProto) → Links o.nested_type → IsLinked (roll-DescriptorProto o)
  rolled_linked o e scope =
      let m : DescriptorProto = roll-DescriptorProto o in
      let left : DescriptorProto = settled_message (linked_message seen scope (settled_message m)) in
      let right : DescriptorProto = settled_message (linked_message other scope m) in
      let once : out-DescriptorProto (settled_message m) ≡ settled_open o = settled_out m ∙ ap settled_open (out-roll-DescriptorProto o) in
      let left_is : out-DescriptorProto left ≡ settled_open (linked_open seen scope (settled_open o)) =
      linked_layer seen scope (settled_message m) ∙ ap (λ (l : DescriptorProto-F DescriptorProto). settled_open (linked_open seen scope l)) once in
      let right_is : out-DescriptorProto right ≡ settled_open (linked_open other scope o) =
      linked_layer other scope m ∙ ap (λ (l : DescriptorProto-F DescriptorProto). settled_open (linked_open other scope l)) (out-roll-DescriptorProto o) in
      sym (roll-out-DescriptorProto left) ∙ ap roll-DescriptorProto (left_is ∙ layer_linked scope o e ∙ sym right_is) ∙ roll-out-DescriptorProto right

  message_linked : (m : DescriptorProto) → IsLinked m
  message_linked =
      ind-DescriptorProto IsLinked
      (λ o inside e. rolled_linked o (subst (λ (p : DescriptorProto-F DescriptorProto). Links p.nested_type) e
      (each_linked (λ s. s.0) (λ s. s.1) inside.nested_type)))

  -- ---- services

  method_alike : (scope : List ℕ) (m : MethodDescriptorProto) → linked_method seen scope m ≡ linked_method other scope m
  method_alike scope m =
      ap (λ (n : Option (List ℕ)). record m { input_type = n; output_type = exact seen scope m.output_type }) (exact_alike scope m.input_type)
      ∙ ap (λ (n : Option (List ℕ)). record m { input_type = exact other scope m.input_type; output_type = n }) (exact_alike scope m.output_type)

  method_linked : (scope : List ℕ) (m : MethodDescriptorProto)
      → settled_method (linked_method seen scope (settled_method m)) ≡ settled_method (linked_method other scope m)
  method_linked scope m = method_again (linked_method seen scope m) ∙ ap settled_method (method_alike scope m)

  service_linked : (scope : List ℕ) (x : ServiceDescriptorProto)
      → settled_service (linked_service seen scope (settled_service x)) ≡ settled_service (linked_service other scope x)
  service_linked scope x =
      let name : List ℕ = qualified scope (text_or_empty x.name) in
      let t : ServiceDescriptorProto = settled_service (linked_service seen scope (settled_service x)) in
      let s : ServiceDescriptorProto = settled_service (linked_service other scope x) in
      ap (λ (ms : List MethodDescriptorProto). record t { method = ms })
      (mapped_after settled_method (linked_method seen name) (linked_method other name) settled_method (method_linked name) x.method)
      ∙ ap (λ (o : Option Options). record t { method = s.method; options = o }) (options_again x.options)
      ∙ ap (λ (rs : List Rec). record t { method = s.method; options = s.options; unknown = rs }) (unknown_again service_fields x.unknown)

  -- ---- files

  file_linked : (f : FileDescriptorProto) → settled_file (linked_with seen (settled_file f)) ≡ settled_file (linked_with other f)
  file_linked f =
      let scope : List ℕ = package_of f in
      let t : FileDescriptorProto = settled_file (linked_with seen (settled_file f)) in
      let s : FileDescriptorProto = settled_file (linked_with other f) in
      ap (λ (xs : List DescriptorProto). record t { message_type = xs })
      (mapped_after settled_message (linked_message seen scope) (linked_message other scope) settled_message (λ m. message_linked m scope) f.message_type)
      ∙ ap (λ (xs : List EnumDescriptorProto). record t { message_type = s.message_type; enum_type = xs }) (list_again settled_enum enum_again f.enum_type)
      ∙ ap (λ (xs : List ServiceDescriptorProto). record t { message_type = s.message_type; enum_type = s.enum_type; service = xs })
      (mapped_after settled_service (linked_service seen scope) (linked_service other scope) settled_service (service_linked scope) f.service)
      ∙ ap (λ (xs : List FieldDescriptorProto). record s { extension = xs; options = t.options; source_code_info = t.source_code_info; unknown = t.unknown })
      (mapped_after settled_field (linked_extension seen scope) (linked_extension other scope) settled_field (extension_linked scope) f.extension)
      ∙ ap (λ (x : Option Options). record s { options = x; source_code_info = t.source_code_info; unknown = t.unknown }) (options_again f.options)
      ∙ ap (λ (x : Option SourceCodeInfo). record s { source_code_info = x; unknown = t.unknown }) (sources_again f.source_code_info)
      ∙ ap (λ (rs : List Rec). record s { unknown = rs }) (unknown_again file_fields f.unknown)

pub linking_is_of_contents : LinkingIsOfContents
linking_is_of_contents files f = file_linked (visible files (settled_file f)) (visible files f) (settled_sees files f) f
