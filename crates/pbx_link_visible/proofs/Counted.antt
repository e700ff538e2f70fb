-- How many definitions and types have a full name.
use Rattle.std.proofs.Common.{◌≡◌, ◌∙◌, ℕ, ◌+◌, ◌≤◌, List, [], ◌∷◌, ◌++◌, map, Bool, true, false, ◌||◌, if◌then◌else◌, refl, ap, sym, arith}
use Rattle.std.specs.List.{list_any, flat_map}
use Rattle.std.specs.Str.{bytes_eq}
use Rattle.std.proofs.lemmas.Grind.{flat_map-append}
use Rattle.std.proofs.lemmas.Slice.Eq.{bytes_eq-Decides}
use Rattle.pbx_desc_records.specs.declared.message.DescriptorProto.{DescriptorProto}
use Rattle.pbx_desc_records.specs.declared.enumeration.EnumDescriptorProto.{EnumDescriptorProto}
use Rattle.pbx_desc_records.specs.declared.field.OneofDescriptorProto.{OneofDescriptorProto}
use Rattle.pbx_desc_records.specs.declared.file.FileDescriptorProto.{FileDescriptorProto}
use Rattle.pbx_link_definitions.specs.Definitions.{Part, Defined, full_name, message_name, enum_name, nested_in, enums_in, messages_from, messages, enums, top_messages, top_enums, top_extensions, services}
use Rattle.pbx_link_definitions.specs.Definitions.{definitions, definitions_from, before_nested, after_nested, enum_definitions, service_definitions, field_definition, defined, extensions_in, oneofs_in}
use Rattle.pbx_link_definitions.specs.declared.definitions.Sort.TheVariants.{Extension, Oneof}
use Rattle.pbx_link_definitions.specs.Places.{repeated}
use Rattle.pbx_link_definitions.proofs.Told.{Each, ind_part, messages_from_at, definitions_from_at}
use Rattle.pbx_link_scope.specs.Pooled.{file_types, like_named, AreDistinct}
use Rattle.pbx_link_scope.specs.declared.types.Bound.{Bound}
use Rattle.pbx_link_scope.specs.declared.types.Bound.TheVariants.{Message as to_message, Enum as to_enum}
use Rattle.pbx_link_scope.specs.Scope.{bound_name}

-- ---- counts

-- how many pass the test
abbrev pub count : {X : Type 0} → (X → Bool) → List X → ℕ
count test [] = 0
count test (x ∷ xs) = (if test x then 1 else 0) + count test xs

pub count_append : {X : Type 0} (test : X → Bool) (xs ys : List X) → count test (xs ++ ys) ≡ count test xs + count test ys
count_append test [] ys = omega arith
count_append test (x ∷ xs) ys = let rest = count_append test xs ys in omega (arith, rest)

count_map : {X Y : Type 0} (test : Y → Bool) (f : X → Y) (xs : List X) → count test (map f xs) ≡ count (λ x. test (f x)) xs
count_map test f [] = refl
count_map test f (x ∷ xs) = ap (λ (n : ℕ). (if test (f x) then 1 else 0) + n) (count_map test f xs)

-- ---- no name twice

abbrev pub is_called : List ℕ → Defined → Bool
is_called q d = bytes_eq (full_name d) q

some_like : (q : List ℕ) (d : Defined) → is_called q d ≡ true → (before : List Defined) → list_any (is_called q) before ≡ true → list_any (like_named d) before ≡ true
some_like q d is [] e = absurd (cc)
some_like q d is (b ∷ before) e = by_test (is_called q b) refl e (some_like q d is before)
  where
    by_test : (c : Bool) → is_called q b ≡ c → (c || list_any (is_called q) before) ≡ true → (list_any (is_called q) before ≡ true → list_any (like_named d) before ≡ true)
        → (like_named d b || list_any (like_named d) before) ≡ true
    by_test true w h ih =
        let same : full_name d ≡ full_name b = (bytes_eq-Decides (full_name d) q).0 is ∙ sym ((bytes_eq-Decides (full_name b) q).0 w) in
        ap (λ (c : Bool). c || list_any (like_named d) before) ((bytes_eq-Decides (full_name d) (full_name b)).1 same)
    by_test false w h ih = either (like_named d b) (ih h)
      where
        either : (c : Bool) {e : Bool} → e ≡ true → (c || e) ≡ true
        either true p = refl
        either false p = p

abbrev at_most : Bool → ℕ
at_most seen = if seen then 0 else 1

counted_once : (q : List ℕ) (before ds : List Defined) → repeated like_named before ds ≡ [] → count (is_called q) ds ≤ at_most (list_any (is_called q) before)
unfolding repeated
counted_once q before [] e = omega arith
counted_once q before (d ∷ ds) e = by_like (list_any (like_named d) before) refl e (counted_once q (d ∷ before) ds)
  where
    by_tests : (b c : Bool) → is_called q d ≡ b → list_any (is_called q) before ≡ c → list_any (like_named d) before ≡ false → count (is_called q) ds ≤ at_most (b || c)
        → (if b then 1 else 0) + count (is_called q) ds ≤ at_most c
    by_tests true true v u w less = absurd (let like = some_like q d v before u in cc)
    by_tests true false v u w less = omega (arith, less)
    by_tests false c v u w less = omega (arith, less)

    by_like : (c : Bool) → list_any (like_named d) before ≡ c → (if c then d ∷ [] else []) ++ repeated like_named (d ∷ before) ds ≡ []
        → (repeated like_named (d ∷ before) ds ≡ [] → count (is_called q) ds ≤ at_most (list_any (is_called q) (d ∷ before))) → (if is_called q d then 1 else 0) + count (is_called q) ds ≤ at_most (list_any (is_called q) before)
    by_like true w h ih = absurd (cc)
    by_like false w h ih = by_tests (is_called q d) (list_any (is_called q) before) refl refl w (ih h)

-- a full name has at most one definition
pub defined_once : (files : List FileDescriptorProto) → AreDistinct files → (q : List ℕ) → count (is_called q) (flat_map definitions files) ≤ 1
defined_once files distinct q = counted_once q [] (flat_map definitions files) distinct

-- ---- types among definitions

-- the extensions in a message's body, as definitions
abbrev extensions_defined : Part DescriptorProto → List Defined
extensions_defined p = map (field_definition Extension) (extensions_in p)

-- the oneofs of a message, as definitions
abbrev oneofs_defined : Part DescriptorProto → List Defined
oneofs_defined p = map (defined Oneof (λ (o : OneofDescriptorProto). o.name)) (oneofs_in p)

module _ (q : List ℕ) where
  abbrev is_of_message : Part DescriptorProto → Bool
  is_of_message p = bytes_eq (message_name p) q

  abbrev is_of_enum : Part EnumDescriptorProto → Bool
  is_of_enum p = bytes_eq (enum_name p) q

  -- the messages of this name, with those nested in them, and the enums of this name in these
  abbrev types_in : List (Part DescriptorProto) → ℕ
  types_in ps = count is_of_message ps + count is_of_enum (flat_map enums_in ps)

  enums_defined : (es : List (Part EnumDescriptorProto)) → count is_of_enum es ≤ count (is_called q) (flat_map enum_definitions es)
  enums_defined [] = omega arith
  enums_defined (e ∷ es) =
      let others = enums_defined es in
      let all = count_append (is_called q) (enum_definitions e) (flat_map enum_definitions es) in
      omega (arith, others, all)

  abbrev Holds : Part DescriptorProto → Type 0
  Holds p = types_in (messages_from p) ≤ count (is_called q) (definitions_from p)

  together : (ps rs : List (Part DescriptorProto)) → types_in (ps ++ rs) ≡ types_in ps + types_in rs
  together ps rs =
      let a = count_append is_of_message ps rs in
      let b = ap (count is_of_enum) (flat_map-append enums_in ps rs) ∙ count_append is_of_enum (flat_map enums_in ps) (flat_map enums_in rs) in
      omega (arith, a, b)

  nested_defined : (ps : List (Part DescriptorProto)) → Each Holds ps → types_in (flat_map messages_from ps) ≤ count (is_called q) (flat_map definitions_from ps)
  nested_defined [] h = omega arith
  nested_defined (p ∷ ps) h =
      let others = nested_defined ps h.1 in
      let here : types_in (messages_from p) ≤ count (is_called q) (definitions_from p) = h.0 in
      let a = together (messages_from p) (flat_map messages_from ps) in
      let b = count_append (is_called q) (definitions_from p) (flat_map definitions_from ps) in
      omega (arith, others, here, a, b)

  message_defined : (p : Part DescriptorProto) → Each Holds (nested_in p) → Holds p
  message_defined p inside =
      let a : types_in (messages_from p) ≡ types_in (p ∷ flat_map messages_from (nested_in p)) = ap types_in (messages_from_at p) in
      let own : types_in (p ∷ flat_map messages_from (nested_in p)) ≡ types_in (p ∷ []) + types_in (flat_map messages_from (nested_in p)) = together (p ∷ []) (flat_map messages_from (nested_in p)) in
      let d : count (is_called q) (definitions_from p) ≡ count (is_called q) (before_nested p ++ flat_map definitions_from (nested_in p) ++ after_nested p) = ap (count (is_called q)) (definitions_from_at p) in
      let d1 = count_append (is_called q) (before_nested p ++ flat_map definitions_from (nested_in p)) (after_nested p) in
      let d2 = count_append (is_called q) (before_nested p) (flat_map definitions_from (nested_in p)) in
      let nested = nested_defined (nested_in p) inside in
      let inner = enums_defined (enums_in p) in
      let behind = after_enums p in
      let alone = ap (count is_of_enum) (append_nothing (enums_in p)) in
      omega (arith, a, own, d, d1, d2, nested, inner, behind, alone)
    where
      append_nothing : {X : Type 0} (xs : List X) → xs ++ [] ≡ xs
      append_nothing [] = refl
      append_nothing (x ∷ xs) = ap (λ ys. x ∷ ys) (append_nothing xs)

      after_enums : (p : Part DescriptorProto) → count (is_called q) (flat_map enum_definitions (enums_in p)) ≤ count (is_called q) (after_nested p)
      after_enums p =
          let a = count_append (is_called q) (flat_map enum_definitions (enums_in p) ++ extensions_defined p) (oneofs_defined p) in
          let b = count_append (is_called q) (flat_map enum_definitions (enums_in p)) (extensions_defined p) in
          omega (arith, a, b)

  each_holds : (ps : List (Part DescriptorProto)) → Each Holds ps
  each_holds [] = tt
  each_holds (p ∷ ps) = (ind_part Holds message_defined p, each_holds ps)

  -- each message and enum of a file is a definition of its full name
  types_defined : (f : FileDescriptorProto) → count (λ b. bytes_eq (bound_name b) q) (file_types f) ≤ count (is_called q) (definitions f)
  types_defined f =
      let test : Bound → Bool = λ b. bytes_eq (bound_name b) q in
      let a = count_append test (map to_message (messages f)) (map to_enum (enums f)) in
      let m = count_map test to_message (messages f) in
      let e = count_map test to_enum (enums f) in
      let e1 = count_append is_of_enum (flat_map enums_in (messages f)) (top_enums f) in
      let nested = nested_defined (top_messages f) (each_holds (top_messages f)) in
      let top = enums_defined (top_enums f) in
      let d = count_append (is_called q) (flat_map definitions_from (top_messages f) ++ flat_map enum_definitions (top_enums f) ++ flat_map service_definitions (services f)) (map (field_definition Extension) (top_extensions f)) in
      let d1 = count_append (is_called q) (flat_map definitions_from (top_messages f) ++ flat_map enum_definitions (top_enums f)) (flat_map service_definitions (services f)) in
      let d2 = count_append (is_called q) (flat_map definitions_from (top_messages f)) (flat_map enum_definitions (top_enums f)) in
      omega (arith, a, m, e, e1, nested, top, d, d1, d2)

  all_types_defined : (files : List FileDescriptorProto) → count (λ b. bytes_eq (bound_name b) q) (flat_map file_types files) ≤ count (is_called q) (flat_map definitions files)
  all_types_defined [] = omega arith
  all_types_defined (f ∷ files) =
      let others = all_types_defined files in
      let here = types_defined f in
      let a = count_append (λ (b : Bound). bytes_eq (bound_name b) q) (file_types f) (flat_map file_types files) in
      let b = count_append (is_called q) (definitions f) (flat_map definitions files) in
      omega (arith, others, here, a, b)

-- a full name has at most one message or enum
pub typed_once : (files : List FileDescriptorProto) → AreDistinct files → (q : List ℕ) → count (λ b. bytes_eq (bound_name b) q) (flat_map file_types files) ≤ 1
typed_once files distinct q = let types = all_types_defined q files in let once = defined_once files distinct q in omega (arith, types, once)
