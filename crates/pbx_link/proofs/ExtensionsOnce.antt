-- A full name has at most one extension in a pool.
use Rattle.std.proofs.Common.{◌≡◌, ◌∙◌, ℕ, ◌+◌, ◌≤◌, List, [], ◌∷◌, ◌++◌, map, cond, Bool, Option, Some, None, find, refl, ap, sym, arith}
use Rattle.std.specs.Prelude.{filter, option_and_then}
use Rattle.std.specs.List.{flat_map}
use Rattle.std.specs.Str.{bytes_eq}
use Rattle.pbx_desc_records.specs.declared.field.FieldDescriptorProto.{FieldDescriptorProto}
use Rattle.pbx_desc_records.specs.declared.field.OneofDescriptorProto.{OneofDescriptorProto}
use Rattle.pbx_desc_records.specs.declared.file.FileDescriptorProto.{FileDescriptorProto}
use Rattle.pbx_desc_records.specs.declared.message.DescriptorProto.{DescriptorProto}
use Rattle.pbx_link_definitions.specs.Names.{is_named, dotted}
use Rattle.pbx_link_definitions.specs.Definitions.{Part, Defined, message_name, field_name, nested_in, extensions_in, oneofs_in, enums_in}
use Rattle.pbx_link_definitions.specs.Definitions.{extensions_from, extensions}
use Rattle.pbx_link_definitions.specs.Definitions.{top_messages, top_enums, top_extensions, services, definitions, definitions_from, before_nested, after_nested}
use Rattle.pbx_link_definitions.specs.Definitions.{enum_definitions, service_definitions, field_definition, defined}
use Rattle.pbx_link_definitions.specs.declared.definitions.Sort.TheVariants.{Extension as an_extension, Oneof as a_oneof}
use Rattle.pbx_link_definitions.proofs.Told.{Each, ind_part, extensions_from_at, definitions_from_at}
use Rattle.pbx_link_rules.specs.Pool.{ArePooled}
use Rattle.pbx_link_rules.proofs.Counted.{count, count_append, count_map, is_called, defined_once}
use Rattle.pbx_link_rules.proofs.Distinct.{pooled_are_distinct}
use Rattle.pbx_link_meaning.specs.Descriptors.{Described, described, all_extensions, extension_of_name, extensions_of_message}
use Rattle.pbx_link.proofs.Sole.{found_by_both, kept}

module _ (q : List ℕ) where
  abbrev is_of : Part FieldDescriptorProto → Bool
  is_of x = bytes_eq (field_name x) q

  abbrev Holds : Part DescriptorProto → Type 0
  Holds p = count is_of (extensions_from p) ≤ count (is_called q) (definitions_from p)

  nested_defined : (ps : List (Part DescriptorProto)) → Each Holds ps
      → count is_of (flat_map extensions_from ps) ≤ count (is_called q) (flat_map definitions_from ps)
  nested_defined [] h = omega arith
  nested_defined (p ∷ ps) h =
      let others = nested_defined ps h.1 in
      let here : count is_of (extensions_from p) ≤ count (is_called q) (definitions_from p) = h.0 in
      let a = count_append is_of (extensions_from p) (flat_map extensions_from ps) in
      let b = count_append (is_called q) (definitions_from p) (flat_map definitions_from ps) in
      omega (arith, others, here, a, b)

  -- the extensions in a message's body are among what it defines
  body_defined : (p : Part DescriptorProto) → count is_of (extensions_in p) ≤ count (is_called q) (after_nested p)
  body_defined p =
      let oneofs_defined : List Defined = map (defined a_oneof (λ (o : OneofDescriptorProto). o.name)) (oneofs_in p) in
      let a = count_append (is_called q) (flat_map enum_definitions (enums_in p) ++ map (field_definition an_extension) (extensions_in p)) oneofs_defined in
      let b = count_append (is_called q) (flat_map enum_definitions (enums_in p)) (map (field_definition an_extension) (extensions_in p)) in
      let same = count_map (is_called q) (field_definition an_extension) (extensions_in p) in
      omega (arith, a, b, same)

  message_defined : (p : Part DescriptorProto) → Each Holds (nested_in p) → Holds p
  message_defined p inside =
      let a : count is_of (extensions_from p)
      ≡ count is_of (flat_map extensions_from (nested_in p) ++ extensions_in p) = ap (count is_of) (extensions_from_at p) in
      let a1 = count_append is_of (flat_map extensions_from (nested_in p)) (extensions_in p) in
      let d : count (is_called q) (definitions_from p)
      ≡ count (is_called q) (before_nested p ++ flat_map definitions_from (nested_in p) ++ after_nested p) = ap (count (is_called q)) (definitions_from_at p) in
      let d1 = count_append (is_called q) (before_nested p ++ flat_map definitions_from (nested_in p)) (after_nested p) in
      let d2 = count_append (is_called q) (before_nested p) (flat_map definitions_from (nested_in p)) in
      let nested = nested_defined (nested_in p) inside in
      let body = body_defined p in
      omega (arith, a, a1, d, d1, d2, nested, body)

  each_holds : (ps : List (Part DescriptorProto)) → Each Holds ps
  each_holds [] = tt
  each_holds (p ∷ ps) = (ind_part Holds message_defined p, each_holds ps)

  -- each extension of a file is a definition of its full name
  file_defined : (f : FileDescriptorProto) → count is_of (extensions f) ≤ count (is_called q) (definitions f)
  file_defined f =
      let a = count_append is_of (flat_map extensions_from (top_messages f)) (top_extensions f) in
      let nested = nested_defined (top_messages f) (each_holds (top_messages f)) in
      let top = count_map (is_called q) (field_definition an_extension) (top_extensions f) in
      let d = count_append (is_called q)
      (flat_map definitions_from (top_messages f) ++ flat_map enum_definitions (top_enums f) ++ flat_map service_definitions (services f))
      (map (field_definition an_extension) (top_extensions f)) in
      let d1 = count_append (is_called q) (flat_map definitions_from (top_messages f) ++ flat_map enum_definitions (top_enums f))
      (flat_map service_definitions (services f)) in
      let d2 = count_append (is_called q) (flat_map definitions_from (top_messages f)) (flat_map enum_definitions (top_enums f)) in
      omega (arith, a, nested, top, d, d1, d2)

  files_defined : (files : List FileDescriptorProto) → count is_of (flat_map extensions files) ≤ count (is_called q) (flat_map definitions files)
  files_defined [] = omega arith
  files_defined (f ∷ files) =
      let others = files_defined files in
      let here = file_defined f in
      let a = count_append is_of (extensions f) (flat_map extensions files) in
      let b = count_append (is_called q) (definitions f) (flat_map definitions files) in
      omega (arith, others, here, a, b)

  counted : (pool files : List FileDescriptorProto)
      → count (λ (d : Described FieldDescriptorProto). is_of d.part) (flat_map (λ f. map (described pool f) (extensions f)) files)
      ≡ count is_of (flat_map extensions files)
  counted pool [] = refl
  counted pool (f ∷ fs) =
      let rest : List (Described FieldDescriptorProto) = flat_map (λ g. map (described pool g) (extensions g)) fs in
      count_append (λ (d : Described FieldDescriptorProto). is_of d.part) (map (described pool f) (extensions f)) rest
      ∙ ap (λ (n : ℕ). n + count (λ (d : Described FieldDescriptorProto). is_of d.part) rest)
      (count_map (λ (d : Described FieldDescriptorProto). is_of d.part) (described pool f) (extensions f))
      ∙ ap (λ (n : ℕ). count is_of (extensions f) + n) (counted pool fs) ∙ sym (count_append is_of (extensions f) (flat_map extensions fs))

  pub extension_once : (pool : List FileDescriptorProto) → ArePooled [] pool
      → count (λ (d : Described FieldDescriptorProto). bytes_eq (field_name d.part) q) (all_extensions pool) ≤ 1
  extension_once pool pooled =
      let same = counted pool pool in
      let all = files_defined pool in
      let once = defined_once pool (pooled_are_distinct pool pooled) q in
      omega (arith, same, all, once)

  -- the extension of a name among those that pass a test
  pub extension_among : (pool : List FileDescriptorProto) (o : Described FieldDescriptorProto → Bool) → ArePooled [] pool
      → find (λ (d : Described FieldDescriptorProto). bytes_eq (field_name d.part) q) (filter o (all_extensions pool))
      ≡ option_and_then (kept (λ (d : Described FieldDescriptorProto). bytes_eq (field_name d.part) q) o)
      (find (λ (d : Described FieldDescriptorProto). bytes_eq (field_name d.part) q) (all_extensions pool))
  extension_among pool o pooled =
      found_by_both (λ (d : Described FieldDescriptorProto). bytes_eq (field_name d.part) q) o (all_extensions pool) (extension_once pool pooled)

  -- the extension of a name that extends a message, by that of the name in the pool
  module _ (d : Described DescriptorProto) (p : List FileDescriptorProto) (same : p ≡ d.pool) (pooled : ArePooled [] d.pool) where
    abbrev called : Described FieldDescriptorProto → Bool
    called x = bytes_eq (field_name x.part) q

    abbrev extends : Described FieldDescriptorProto → Bool
    extends x = is_named x.part.item.extendee (dotted (message_name d.part))

    found_so : (r o : Option (Described FieldDescriptorProto)) → r ≡ extension_of_name p q → r ≡ o
        → find called (extensions_of_message d) ≡ option_and_then (kept called extends) o
    found_so r o is e =
        extension_among d.pool extends pooled
        ∙ ap (option_and_then (kept called extends)) (ap (λ (fs : List FileDescriptorProto). extension_of_name fs q) (sym same) ∙ sym is ∙ e)

    pub named_none : (r : Option (Described FieldDescriptorProto)) → r ≡ extension_of_name p q → r ≡ None → None ≡ find called (extensions_of_message d)
    named_none r is e = sym (found_so r None is e)

    pub named_one : (r : Option (Described FieldDescriptorProto)) (x : Described FieldDescriptorProto) (b : Bool) → r ≡ extension_of_name p q → r ≡ Some x
        → extends x ≡ b → cond b (Some x) None ≡ find called (extensions_of_message d)
    named_one r x b is e was = sym (found_so r (Some x) is e ∙ ap (λ (c : Bool). cond c (Some x) None) was)
