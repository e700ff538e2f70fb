-- Linking leaves a linked record as it is.
use Rattle.std.proofs.Common.{◌≡◌, ◌∙◌, ℕ, ℤ, List, [], ◌∷◌, map, Option, None, Some, refl, ap, sym, subst}
use Rattle.pbx_desc_records.specs.declared.field.FieldDescriptorProto.{FieldDescriptorProto}
use Rattle.pbx_desc_records.specs.declared.file.FileDescriptorProto.{FileDescriptorProto}
use Rattle.pbx_desc_records.specs.declared.message.DescriptorProto.{DescriptorProto, out-DescriptorProto, roll-DescriptorProto, roll-out-DescriptorProto}
use Rattle.pbx_desc_records.specs.declared.message.DescriptorProto.{out-roll-DescriptorProto, ind-DescriptorProto}
use Rattle.pbx_desc_records.specs.declared.message.DescriptorProto.TheOpen.{DescriptorProto-F}
use Rattle.pbx_desc_records.specs.declared.service.MethodDescriptorProto.{MethodDescriptorProto}
use Rattle.pbx_desc_records.specs.declared.service.ServiceDescriptorProto.{ServiceDescriptorProto}
use Rattle.pbx_link_definitions.specs.Names.{text_or_empty, qualified}
use Rattle.pbx_link_definitions.specs.Definitions.{package_of}
use Rattle.pbx_link_scope.specs.declared.types.Bound.{Bound}
use Rattle.pbx_link_scope.specs.declared.types.Bound.TheVariants.{Message as to_message, Enum as to_enum}
use Rattle.pbx_link_scope.specs.Scope.{bound_if}
use Rattle.pbx_link_record.specs.Settled.{settled_file}
use Rattle.pbx_link_record.specs.Linked.{exact_by, exact, type_by, linked_extension, linked_field, linked_message, linked_method, linked_service, linked_with}
use Rattle.pbx_link_record.specs.Linked.{linked_record}
use Rattle.pbx_link_record.proofs.Layers.{linked_open, linked_out}
use Rattle.pbx_link_laws.proofs.Lists.{map_through}
use Rattle.pbx_link_laws.proofs.Linking.{linking_is_of_contents}
use Rattle.pbx_link_laws.proofs.Scope.{told_by, asks_exact, asks_kind}
use Rattle.pbx_link_laws.proofs.Rebound.{bare, same_enum, bare_is_blind, seen_by, seen_again, rebound}

exact_twice : (name : Option (List ℕ)) (b : Option Bound) → exact_by (exact_by name b) b ≡ exact_by name b
exact_twice name None = refl
exact_twice name (Some b) = refl

kind_twice : (kind : Option ℤ) (b : Option Bound) → type_by (type_by kind b) b ≡ type_by kind b
kind_twice kind None = refl
kind_twice kind (Some (to_message p)) = refl
kind_twice kind (Some (to_enum p)) = refl

module _ (files : List FileDescriptorProto) (f : FileDescriptorProto) where
  abbrev seen : List FileDescriptorProto
  seen = seen_by files f

  abbrev again : List FileDescriptorProto
  again = seen_again files f

  -- ---- references

  exact_again : (scope : List ℕ) (name : Option (List ℕ)) → exact again scope (exact seen scope name) ≡ exact seen scope name
  exact_again scope name =
      told_by bare same_enum (exact_by (exact seen scope name)) (asks_exact bare same_enum bare_is_blind (exact seen scope name))
      (bound_if again scope (exact seen scope name)) (bound_if seen scope name) (rebound files f scope name)
      ∙ exact_twice name (bound_if seen scope name)

  kind_again : (scope : List ℕ) (x : FieldDescriptorProto)
      → type_by (type_by x.kind (bound_if seen scope x.type_name)) (bound_if again scope (exact seen scope x.type_name))
      ≡ type_by x.kind (bound_if seen scope x.type_name)
  kind_again scope x =
      let kind : Option ℤ = type_by x.kind (bound_if seen scope x.type_name) in
      told_by bare same_enum (type_by kind) (asks_kind bare same_enum bare_is_blind kind) (bound_if again scope (exact seen scope x.type_name))
      (bound_if seen scope x.type_name) (rebound files f scope x.type_name)
      ∙ kind_twice x.kind (bound_if seen scope x.type_name)

  -- ---- fields and extensions

  extension_again : (scope : List ℕ) (x : FieldDescriptorProto) → linked_extension again scope (linked_extension seen scope x) ≡ linked_extension seen scope x
  extension_again scope x =
      let once : FieldDescriptorProto = linked_extension seen scope x in
      let twice : FieldDescriptorProto = linked_extension again scope once in
      ap (λ (n : Option (List ℕ)). record x { extendee = n; kind = twice.kind; type_name = twice.type_name }) (exact_again scope x.extendee)
      ∙ ap (λ (k : Option ℤ). record x { extendee = once.extendee; kind = k; type_name = twice.type_name }) (kind_again scope x)
      ∙ ap (λ (n : Option (List ℕ)). record x { extendee = once.extendee; kind = once.kind; type_name = n }) (exact_again scope x.type_name)

  field_again : (scope : List ℕ) (x : FieldDescriptorProto) → linked_field again scope (linked_field seen scope x) ≡ linked_field seen scope x
  field_again scope x =
      ap (λ (y : FieldDescriptorProto). record y { json_name = (linked_field seen scope x).json_name }) (extension_again scope x)

  -- ---- messages

  abbrev IsAgain : DescriptorProto → Type 0
  IsAgain m = (scope : List ℕ) → linked_message again scope (linked_message seen scope m) ≡ linked_message seen scope m

  abbrev AreAgain : List DescriptorProto → Type 0
  AreAgain ms = (scope : List ℕ) → map (linked_message again scope) (map (linked_message seen scope) ms) ≡ map (linked_message seen scope) ms

  layer_again : (scope : List ℕ) (o : DescriptorProto-F DescriptorProto) → AreAgain o.nested_type
      → linked_open again scope (linked_open seen scope o) ≡ linked_open seen scope o
  layer_again scope o e =
      let name : List ℕ = qualified scope (text_or_empty o.name) in
      let once : DescriptorProto-F DescriptorProto = linked_open seen scope o in
      let twice : DescriptorProto-F DescriptorProto = linked_open again scope once in
      ap (λ (xs : List FieldDescriptorProto). record twice { field = xs })
      (map_through (linked_field seen name) (linked_field again name) (linked_field seen name) (field_again name) o.field)
      ∙ ap (λ (ms : List DescriptorProto). record twice { field = once.field; nested_type = ms }) (e name)
      ∙ ap (λ (xs : List FieldDescriptorProto). record once { extension = xs })
      (map_through (linked_extension seen name) (linked_extension again name) (linked_extension seen name) (extension_again name) o.extension)

  each_again : {S : Type 0} (v : S → DescriptorProto) → ((s : S) → IsAgain (v s)) → (ss : List S) → AreAgain (map v ss)
  each_again v h [] scope = refl
  each_again v h (s ∷ ss) scope =
      ap (λ (m : DescriptorProto). m ∷ map (linked_message again scope) (map (linked_message seen scope) (map v ss))) (h s scope)
      ∙ ap (λ (ms : List DescriptorProto). linked_message seen scope (v s) ∷ ms) (each_again v h ss scope)

  rolled_again : (o : DescriptorProto-F DescriptorProto) → AreAgain o.nested_type → IsAgain (roll-DescriptorProto o)
  rolled_again o e scope =
      let m : DescriptorProto = roll-DescriptorProto o in
      let once : DescriptorProto = linked_message seen scope m in
      let once_is : out-DescriptorProto once ≡ linked_open seen scope o = linked_out seen scope m ∙ ap (linked_open seen scope) (out-roll-DescriptorProto o) in
      sym (roll-out-DescriptorProto (linked_message again scope once))
      ∙ ap roll-DescriptorProto (linked_out again scope once ∙ ap (linked_open again scope) once_is ∙ layer_again scope o e ∙ sym once_is)
      ∙ roll-out-DescriptorProto once

  message_again : (m : DescriptorProto) → IsAgain m
  message_again =
      ind-DescriptorProto IsAgain
      (λ o inside e. rolled_again o
      (subst (λ (p : DescriptorProto-F DescriptorProto). AreAgain p.nested_type) e (each_again (λ s. s.0) (λ s. s.1) inside.nested_type)))

  -- ---- services

  method_again : (scope : List ℕ) (m : MethodDescriptorProto) → linked_method again scope (linked_method seen scope m) ≡ linked_method seen scope m
  method_again scope m =
      let once : MethodDescriptorProto = linked_method seen scope m in
      ap (λ (n : Option (List ℕ)). record m { input_type = n; output_type = exact again scope once.output_type }) (exact_again scope m.input_type)
      ∙ ap (λ (n : Option (List ℕ)). record m { input_type = once.input_type; output_type = n }) (exact_again scope m.output_type)

  service_again : (scope : List ℕ) (s : ServiceDescriptorProto) → linked_service again scope (linked_service seen scope s) ≡ linked_service seen scope s
  service_again scope s =
      let name : List ℕ = qualified scope (text_or_empty s.name) in
      ap (λ (ms : List MethodDescriptorProto). record s { method = ms })
      (map_through (linked_method seen name) (linked_method again name) (linked_method seen name) (method_again name) s.method)

  -- ---- the file

  pub linked_again : linked_with again (linked_with seen f) ≡ linked_with seen f
  linked_again =
      let scope : List ℕ = package_of f in
      let once : FileDescriptorProto = linked_with seen f in
      let twice : FileDescriptorProto = linked_with again once in
      ap (λ (ms : List DescriptorProto). record twice { message_type = ms })
      (map_through (linked_message seen scope) (linked_message again scope) (linked_message seen scope) (λ m. message_again m scope) f.message_type)
      ∙ ap (λ (ss : List ServiceDescriptorProto). record twice { message_type = once.message_type; service = ss })
      (map_through (linked_service seen scope) (linked_service again scope) (linked_service seen scope) (service_again scope) f.service)
      ∙ ap (λ (xs : List FieldDescriptorProto). record once { extension = xs })
      (map_through (linked_extension seen scope) (linked_extension again scope) (linked_extension seen scope) (extension_again scope) f.extension)

  -- the linked record of a linked record is that record
  pub record_again : linked_record files (linked_record files f) ≡ linked_record files f
  record_again = linking_is_of_contents files (linked_with seen f) ∙ ap settled_file linked_again
