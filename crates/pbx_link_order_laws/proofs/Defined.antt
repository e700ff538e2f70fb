-- Each message and enum of a file is a definition of its full name.
use Rattle.std.proofs.Common.{◌≡◌, ◌∙◌, ℕ, ◌+◌, ◌≤◌, List, [], ◌∷◌, ◌++◌, map, cond, Bool, true, false, ◌||◌, if◌then◌else◌, Some, refl, ap, arith}
use Rattle.std.specs.Prelude.{find}
use Rattle.std.specs.List.{list_any, flat_map}
use Rattle.std.specs.Str.{bytes_eq}
use Rattle.std.proofs.lemmas.Grind.{flat_map-append}
use Rattle.std.proofs.lemmas.List.{append-nil}
use Rattle.pbx_desc_records.specs.declared.enumeration.EnumDescriptorProto.{EnumDescriptorProto}
use Rattle.pbx_desc_records.specs.declared.field.OneofDescriptorProto.{OneofDescriptorProto}
use Rattle.pbx_desc_records.specs.declared.file.FileDescriptorProto.{FileDescriptorProto}
use Rattle.pbx_desc_records.specs.declared.message.DescriptorProto.{DescriptorProto}
use Rattle.pbx_link_definitions.specs.Names.{among}
use Rattle.pbx_link_definitions.specs.Definitions.{Part, Defined, full_name, message_name, enum_name, nested_in, enums_in, extensions_in, oneofs_in}
use Rattle.pbx_link_definitions.specs.Definitions.{messages_from, messages, enums, top_messages, top_enums, top_extensions, services}
use Rattle.pbx_link_definitions.specs.Definitions.{definitions, definitions_from, before_nested, after_nested, enum_definitions, service_definitions}
use Rattle.pbx_link_definitions.specs.Definitions.{field_definition, defined}
use Rattle.pbx_link_definitions.specs.declared.definitions.Sort.TheVariants.{Extension as an_extension, Oneof as a_oneof}
use Rattle.pbx_link_definitions.proofs.Told.{Each, ind_part, messages_from_at, definitions_from_at}
use Rattle.pbx_link_scope.specs.declared.types.Bound.{Bound}
use Rattle.pbx_link_scope.specs.declared.types.Bound.TheVariants.{Message as to_message, Enum as to_enum}
use Rattle.pbx_link_scope.specs.Scope.{bound_name}
use Rattle.pbx_link_scope.specs.Pooled.{file_types}
use Rattle.pbx_link_rules.specs.PoolLaws.{defined_names}
use Rattle.pbx_link_rules.proofs.Counted.{count, count_append, count_map, is_called}
use Rattle.pbx_link_rules.proofs.Lists.{any_mapped}

module _ (q : List ℕ) where
  abbrev is_of_message : Part DescriptorProto → Bool
  is_of_message p = bytes_eq (message_name p) q

  abbrev is_of_enum : Part EnumDescriptorProto → Bool
  is_of_enum p = bytes_eq (enum_name p) q

  -- the messages of this name, with those nested in them, and the enums of this name in these
  abbrev types_in : List (Part DescriptorProto) → ℕ
  types_in ps = count is_of_message ps + count is_of_enum (flat_map enums_in ps)

  enums_defined : (es : List (Part EnumDescriptorProto)) → count is_of_enum es ≤ count (is_called q) (flat_map enum_definitions es)
  enums_defined [] = omega arith
  enums_defined (e ∷ es) =
      let others = enums_defined es in
      let all = count_append (is_called q) (enum_definitions e) (flat_map enum_definitions es) in
      omega (arith, others, all)

  abbrev Holds : Part DescriptorProto → Type 0
  Holds p = types_in (messages_from p) ≤ count (is_called q) (definitions_from p)

  together : (ps rs : List (Part DescriptorProto)) → types_in (ps ++ rs) ≡ types_in ps + types_in rs
  together ps rs =
      let a = count_append is_of_message ps rs in
      let b = ap (count is_of_enum) (flat_map-append enums_in ps rs) ∙ count_append is_of_enum (flat_map enums_in ps) (flat_map enums_in rs) in
      omega (arith, a, b)

  nested_defined : (ps : List (Part DescriptorProto)) → Each Holds ps
      → types_in (flat_map messages_from ps) ≤ count (is_called q) (flat_map definitions_from ps)
  nested_defined [] h = omega arith
  nested_defined (p ∷ ps) h =
      let others = nested_defined ps h.1 in
      let here : types_in (messages_from p) ≤ count (is_called q) (definitions_from p) = h.0 in
      let a = together (messages_from p) (flat_map messages_from ps) in
      let b = count_append (is_called q) (definitions_from p) (flat_map definitions_from ps) in
      omega (arith, others, here, a, b)

  message_defined : (p : Part DescriptorProto) → Each Holds (nested_in p) → Holds p
  message_defined p inside =
      let a : types_in (messages_from p) ≡ types_in (p ∷ flat_map messages_from (nested_in p)) = ap types_in (messages_from_at p) in
      let own : types_in (p ∷ flat_map messages_from (nested_in p))
      ≡ types_in (p ∷ []) + types_in (flat_map messages_from (nested_in p)) = together (p ∷ []) (flat_map messages_from (nested_in p)) in
      let d : count (is_called q) (definitions_from p)
      ≡ count (is_called q) (before_nested p ++ flat_map definitions_from (nested_in p) ++ after_nested p) = ap (count (is_called q)) (definitions_from_at p) in
      let d1 = count_append (is_called q) (before_nested p ++ flat_map definitions_from (nested_in p)) (after_nested p) in
      let d2 = count_append (is_called q) (before_nested p) (flat_map definitions_from (nested_in p)) in
      let nested = nested_defined (nested_in p) inside in
      let inner = enums_defined (enums_in p) in
      let behind = after_enums p in
      let alone = ap (count is_of_enum) (append-nil (enums_in p)) in
      omega (arith, a, own, d, d1, d2, nested, inner, behind, alone)
    where
      extensions_defined : Part DescriptorProto → List Defined
      extensions_defined r = map (field_definition an_extension) (extensions_in r)

      oneofs_defined : Part DescriptorProto → List Defined
      oneofs_defined r = map (defined a_oneof (λ (o : OneofDescriptorProto). o.name)) (oneofs_in r)

      after_enums : (p : Part DescriptorProto) → count (is_called q) (flat_map enum_definitions (enums_in p)) ≤ count (is_called q) (after_nested p)
      after_enums p =
          let a = count_append (is_called q) (flat_map enum_definitions (enums_in p) ++ extensions_defined p) (oneofs_defined p) in
          let b = count_append (is_called q) (flat_map enum_definitions (enums_in p)) (extensions_defined p) in
          omega (arith, a, b)

  each_holds : (ps : List (Part DescriptorProto)) → Each Holds ps
  each_holds [] = tt
  each_holds (p ∷ ps) = (ind_part Holds message_defined p, each_holds ps)

  abbrev is_of_type : Bound → Bool
  is_of_type b = bytes_eq (bound_name b) q

  types_defined : (f : FileDescriptorProto) → count is_of_type (file_types f) ≤ count (is_called q) (definitions f)
  types_defined f =
      let a = count_append is_of_type (map to_message (messages f)) (map to_enum (enums f)) in
      let m = count_map is_of_type to_message (messages f) in
      let e = count_map is_of_type to_enum (enums f) in
      let e1 = count_append is_of_enum (flat_map enums_in (messages f)) (top_enums f) in
      let nested = nested_defined (top_messages f) (each_holds (top_messages f)) in
      let top = enums_defined (top_enums f) in
      let d = count_append (is_called q)
      (flat_map definitions_from (top_messages f) ++ flat_map enum_definitions (top_enums f) ++ flat_map service_definitions (services f))
      (map (field_definition an_extension) (top_extensions f)) in
      let d1 = count_append (is_called q) (flat_map definitions_from (top_messages f) ++ flat_map enum_definitions (top_enums f))
      (flat_map service_definitions (services f)) in
      let d2 = count_append (is_called q) (flat_map definitions_from (top_messages f)) (flat_map enum_definitions (top_enums f)) in
      omega (arith, a, m, e, e1, nested, top, d, d1, d2)

  found_counts : {X : Type 0} (test : X → Bool) (xs : List X) (x : X) → find test xs ≡ Some x → 1 ≤ count test xs
  found_counts test [] x e = absurd (cc)
  found_counts {X} test (y ∷ ys) x e = at (test y) e (found_counts test ys x)
    where
      at : (b : Bool) → cond b (Some y) (find test ys) ≡ Some x → (find test ys ≡ Some x → 1 ≤ count test ys) → 1 ≤ (if b then 1 else 0) + count test ys
      at true h ih = omega arith
      at false h ih = let more = ih h in omega (arith, more)

  counted_any : {X : Type 0} (test : X → Bool) (xs : List X) → 1 ≤ count test xs → list_any test xs ≡ true
  counted_any test [] le = absurd (omega (arith, le))
  counted_any {X} test (y ∷ ys) le = at (test y) le (counted_any test ys)
    where
      at : (b : Bool) → 1 ≤ (if b then 1 else 0) + count test ys → (1 ≤ count test ys → list_any test ys ≡ true) → (b || list_any test ys) ≡ true
      at true h ih = refl
      at false h ih = ih (omega (arith, h))

  -- a type of this name is there, and so the file defines the name
  pub type_defined : (f : FileDescriptorProto) (b : Bound) → find is_of_type (file_types f) ≡ Some b → among (defined_names f) q ≡ true
  type_defined f b e =
      let types = types_defined f in
      let some = found_counts is_of_type (file_types f) b e in
      any_mapped (λ (other : List ℕ). bytes_eq other q) full_name (definitions f) ∙ counted_any (is_called q) (definitions f) (omega (arith, types, some))
