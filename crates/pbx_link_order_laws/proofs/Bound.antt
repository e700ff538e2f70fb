-- What the names of a file are bound to decides what it is linked to, and what the rules that look names up find.
use Rattle.std.proofs.Common.{◌≡◌, ◌∙◌, ℕ, ◌==◌, ◌&&◌, ◌||◌, not, nat_lt, length, List, [], ◌∷◌, ◌++◌, map, filter, Bool, if◌then◌else◌, Option, None, Some}
use Rattle.std.proofs.Common.{is_some, refl, ap}
use Rattle.std.proofs.Math.Path.{fun_ext}
use Rattle.std.specs.List.{flat_map}
use Rattle.std.specs.Option.{option_or}
use Rattle.pbx_desc_records.specs.declared.field.FieldDescriptorProto.{FieldDescriptorProto}
use Rattle.pbx_desc_records.specs.declared.file.FileDescriptorProto.{FileDescriptorProto}
use Rattle.pbx_desc_records.specs.declared.message.DescriptorProto.{DescriptorProto, roll-DescriptorProto, fold-DescriptorProto}
use Rattle.pbx_desc_records.specs.declared.message.DescriptorProto.TheOpen.{DescriptorProto-F}
use Rattle.pbx_desc_records.specs.declared.service.MethodDescriptorProto.{MethodDescriptorProto}
use Rattle.pbx_desc_records.specs.declared.service.ServiceDescriptorProto.{ServiceDescriptorProto}
use Rattle.pbx_link_definitions.specs.Names.{text_or_empty, qualified, first_part, has_dot, outward}
use Rattle.pbx_link_definitions.specs.Says.{is_proto3, is_repeated, own_fields}
use Rattle.pbx_link_definitions.specs.Definitions.{Place, Part, at, layer_with, package_of, fields_in, messages, fields, extensions, methods}
use Rattle.pbx_link_definitions.specs.Places.{places_where, repeated}
use Rattle.pbx_link_definitions.specs.Ranges.{is_field_number}
use Rattle.pbx_link_scope.specs.declared.types.Bound.{Bound}
use Rattle.pbx_link_scope.specs.Scope.{type_named, is_scope_name, first_type, type_in_first, type_from, bound, bound_if, is_message}
use Rattle.pbx_link_rules_scope.specs.Rules.{places_by, is_bad_type_name, is_bad_message_name, unbound_names}
use Rattle.pbx_link_rules_scope.specs.Defaults.{is_default_of, bad_defaults}
use Rattle.pbx_link_rules_scope.specs.MapFields.{is_entry_type, is_held_in, same_type, bad_map_fields}
use Rattle.pbx_link_rules_scope.specs.ExtensionNumbers.{message_name_of, is_outside, is_unfit, is_taken, has_taken_number, Extending, like_extending}
use Rattle.pbx_link_rules_scope.specs.ExtensionNumbers.{extended_again}
use Rattle.pbx_link_record.specs.Linked.{exact_by, type_by, json_name_or_default, linked_with}

abbrev File : Type 0
File = FileDescriptorProto

-- what names in scopes are bound to
abbrev Binding : Type 0
Binding = List ℕ → Option (List ℕ) → Option Bound

-- ---- the rules that look names up, by what names are bound to

module _ (b : Binding) where
  abbrev bad_type_name : List ℕ → FieldDescriptorProto → Bool
  bad_type_name scope x = is_bad_type_name x.type_name (b scope x.type_name) x.kind

  abbrev bad_extendee : List ℕ → FieldDescriptorProto → Bool
  bad_extendee scope x = is_bad_message_name x.extendee (b scope x.extendee)

  abbrev no_extendee : List ℕ → FieldDescriptorProto → Bool
  no_extendee scope x = not (is_message (b scope x.extendee))

  abbrev no_input : List ℕ → MethodDescriptorProto → Bool
  no_input scope m = not (is_message (b scope m.input_type))

  abbrev no_output : List ℕ → MethodDescriptorProto → Bool
  no_output scope m = not (is_message (b scope m.output_type))

  abbrev unbound_by : File → List Place
  unbound_by f =
      (places_by bad_type_name 6 (fields f) ++ places_by bad_extendee 2 (fields f))
      ++ (places_by bad_type_name 6 (extensions f) ++ places_by no_extendee 2 (extensions f))
      ++ (places_by no_input 2 (methods f) ++ places_by no_output 3 (methods f))

  abbrev bad_default : Bool → List ℕ → FieldDescriptorProto → Bool
  bad_default proto3 scope x =
      is_some x.default_value
      && (proto3 || is_repeated x || not (is_default_of (b scope x.type_name) x.kind (text_or_empty x.default_value)))

  abbrev defaults_by : File → List Place
  defaults_by f = places_by (bad_default (is_proto3 f)) 7 (fields f) ++ places_by (bad_default (is_proto3 f)) 7 (extensions f)

  abbrev bad_map_field : List FieldDescriptorProto → List ℕ → FieldDescriptorProto → Bool
  bad_map_field xs scope x =
      is_entry_type (b scope x.type_name)
      && (not (is_repeated x) || not (is_held_in scope (b scope x.type_name))
      || nat_lt 1 (length (filter (λ (y : FieldDescriptorProto). same_type (b scope x.type_name) (b scope y.type_name)) xs)))

  abbrev map_fields_in : Part DescriptorProto → List Place
  map_fields_in m =
      places_where (λ (p : Part FieldDescriptorProto). bad_map_field (own_fields m.item) p.scope p.item) (λ p. p.place) (fields_in m)

  abbrev map_fields_by : File → List Place
  map_fields_by f =
      flat_map map_fields_in (messages f)
      ++ places_where (λ (p : Part FieldDescriptorProto). is_entry_type (b p.scope p.item.type_name)) (λ p. p.place) (extensions f)

  abbrev unfit_by : List (Part FieldDescriptorProto) → List Place
  unfit_by ps = places_by (λ scope (x : FieldDescriptorProto). not (is_field_number x.number) || is_outside (b scope x.extendee) x.number) 3 ps

  abbrev taken_by : List File → List (Part FieldDescriptorProto) → List Place
  taken_by files ps = places_by (λ scope (x : FieldDescriptorProto). is_taken files (message_name_of (b scope x.extendee)) x.number) 3 ps

  abbrev extending_by : Part FieldDescriptorProto → Extending
  extending_by p = record { extendee = message_name_of (b p.scope p.item.extendee); number = p.item.number; place = at p 3 }

  abbrev again_by : List (Part FieldDescriptorProto) → List Place
  again_by ps = map (λ (x : Extending). x.place) (repeated like_extending [] (map extending_by ps))

  -- ---- the linked record, by what names are bound to

  abbrev extension_by : List ℕ → FieldDescriptorProto → FieldDescriptorProto
  extension_by scope x = record x {
    extendee = exact_by x.extendee (b scope x.extendee);
    kind = type_by x.kind (b scope x.type_name);
    type_name = exact_by x.type_name (b scope x.type_name);
  }

  abbrev field_by : List ℕ → FieldDescriptorProto → FieldDescriptorProto
  field_by scope x = record (extension_by scope x) { json_name = Some (json_name_or_default x.json_name (text_or_empty x.name)) }

  abbrev layer_by : DescriptorProto-F (List ℕ → DescriptorProto) → List ℕ → DescriptorProto
  layer_by m scope =
      let name = qualified scope (text_or_empty m.name) in
      roll-DescriptorProto (record (layer_with (map (λ (nested : List ℕ → DescriptorProto). nested name) m.nested_type) m) {
        field = map (field_by name) m.field;
        extension = map (extension_by name) m.extension;
      })

  abbrev message_by : List ℕ → DescriptorProto → DescriptorProto
  message_by scope m = fold-DescriptorProto (List ℕ → DescriptorProto) layer_by m scope

  abbrev method_by : List ℕ → MethodDescriptorProto → MethodDescriptorProto
  method_by scope m = record m {
    input_type = exact_by m.input_type (b scope m.input_type);
    output_type = exact_by m.output_type (b scope m.output_type);
  }

  abbrev service_by : List ℕ → ServiceDescriptorProto → ServiceDescriptorProto
  service_by scope s = record s { method = map (method_by (qualified scope (text_or_empty s.name))) s.method }

  abbrev file_by : File → File
  file_by f = record f {
    message_type = map (message_by (package_of f)) f.message_type;
    service = map (service_by (package_of f)) f.service;
    extension = map (extension_by (package_of f)) f.extension;
  }

-- ---- files in which each name is a type alike, and a scope alike

module _ (seen other : List File) (types : (q : List ℕ) → type_named seen q ≡ type_named other q)
    (scopes : (q : List ℕ) → is_scope_name seen q ≡ is_scope_name other q) where
  first_same : (name : List ℕ) (ss : List (List ℕ)) → first_type seen name ss ≡ first_type other name ss
  unfolding first_type
  first_same name [] = refl
  first_same name (s ∷ ss) =
      ap (λ (b : Option Bound). option_or b (first_type seen name ss)) (types (qualified s name))
      ∙ ap (option_or (type_named other (qualified s name))) (first_same name ss)

  in_first_same : (name : List ℕ) (ss : List (List ℕ)) → type_in_first seen name ss ≡ type_in_first other name ss
  unfolding type_in_first
  in_first_same name [] = refl
  in_first_same name (s ∷ ss) =
      ap (λ (b : Bool). if b then type_named seen (qualified s name) else type_in_first seen name ss) (scopes (qualified s (first_part name)))
      ∙ ap (λ (t : Option Bound). if is_scope_name other (qualified s (first_part name)) then t else type_in_first seen name ss) (types (qualified s name))
      ∙ ap (λ (t : Option Bound). if is_scope_name other (qualified s (first_part name)) then type_named other (qualified s name) else t)
      (in_first_same name ss)

  from_same : (scope name : List ℕ) → type_from seen scope name ≡ type_from other scope name
  from_same scope name =
      ap (λ (t : Option Bound). if has_dot name then t else first_type seen name (outward scope)) (in_first_same name (outward scope))
      ∙ ap (λ (t : Option Bound). if has_dot name then type_in_first other name (outward scope) else t) (first_same name (outward scope))

  bound_same : (scope name : List ℕ) → bound seen scope name ≡ bound other scope name
  unfolding bound
  bound_same scope [] = refl
  bound_same scope (b ∷ bs) =
      ap (λ (t : Option Bound). if b == 46 then t else type_from seen scope (b ∷ bs)) (types bs)
      ∙ ap (λ (t : Option Bound). if b == 46 then type_named other bs else t) (from_same scope (b ∷ bs))

  -- names are bound to the same
  pub bound_if_same : bound_if seen ≡ bound_if other
  bound_if_same = fun_ext (λ scope. fun_ext (λ name. at scope name))
    where
      at : (scope : List ℕ) (name : Option (List ℕ)) → bound_if seen scope name ≡ bound_if other scope name
      at scope None = refl
      at scope (Some name) = bound_same scope name

  -- ---- so the rules find the same

  pub unbound_same : (f : File) → unbound_names seen f ≡ unbound_names other f
  unbound_same f = ap (λ (b : Binding). unbound_by b f) bound_if_same

  pub defaults_same : (f : File) → bad_defaults seen f ≡ bad_defaults other f
  defaults_same f = ap (λ (b : Binding). defaults_by b f) bound_if_same

  pub map_fields_same : (f : File) → bad_map_fields seen f ≡ bad_map_fields other f
  map_fields_same f = ap (λ (b : Binding). map_fields_by b f) bound_if_same

  pub unfit_same : (ps : List (Part FieldDescriptorProto)) → places_by (is_unfit seen) 3 ps ≡ places_by (is_unfit other) 3 ps
  unfit_same ps = ap (λ (b : Binding). unfit_by b ps) bound_if_same

  pub taken_same : (files : List File) (ps : List (Part FieldDescriptorProto))
      → places_by (has_taken_number files seen) 3 ps ≡ places_by (has_taken_number files other) 3 ps
  taken_same files ps = ap (λ (b : Binding). taken_by b files ps) bound_if_same

  pub again_same : (ps : List (Part FieldDescriptorProto)) → extended_again seen ps ≡ extended_again other ps
  again_same ps = ap (λ (b : Binding). again_by b ps) bound_if_same

  -- and the linked record is the same
  pub linked_same : (f : File) → linked_with seen f ≡ linked_with other f
  linked_same f = ap (λ (b : Binding). file_by b f) bound_if_same
