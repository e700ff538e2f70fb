-- Fields, extensions and values of enums among the definitions of a file.
use Rattle.std.proofs.Common.{◌≡◌, ◌∙◌, ◌⊎◌, ℕ, ◌+◌, ◌≤◌, List, [], ◌∷◌, ◌++◌, map, Bool, refl, ap, sym, subst, inl, inr, arith}
use Rattle.std.specs.Prelude.{Contains}
use Rattle.std.specs.List.{flat_map}
use Rattle.std.specs.Str.{bytes_eq}
use Rattle.std.proofs.lemmas.List.Elements.{Contains-append_cases}
use Rattle.std.proofs.lemmas.Grind.{flat_map-append}
use Rattle.pbx_desc_records.specs.declared.enumeration.EnumDescriptorProto.{EnumDescriptorProto}
use Rattle.pbx_desc_records.specs.declared.field.FieldDescriptorProto.{FieldDescriptorProto}
use Rattle.pbx_desc_records.specs.declared.field.OneofDescriptorProto.{OneofDescriptorProto}
use Rattle.pbx_desc_records.specs.declared.file.FileDescriptorProto.{FileDescriptorProto}
use Rattle.pbx_desc_records.specs.declared.message.DescriptorProto.{DescriptorProto}
use Rattle.pbx_link_definitions.specs.Definitions.{Part, Defined, defined, field_definition, field_name, fields_in, nested_in, enums_in, extensions_in, oneofs_in}
use Rattle.pbx_link_definitions.specs.Definitions.{messages_from, messages, enums, extensions_from, extensions, top_messages, top_enums, top_extensions, services}
use Rattle.pbx_link_definitions.specs.Definitions.{definitions, definitions_from, before_nested, after_nested, enum_definitions, service_definitions, value_definitions}
use Rattle.pbx_link_definitions.specs.declared.definitions.Sort.TheVariants.{Field as a_field, Extension as an_extension, Oneof as a_oneof}
use Rattle.pbx_link_definitions.proofs.Told.{Each, ind_part, messages_from_at, extensions_from_at, definitions_from_at}
use Rattle.pbx_link_rules.specs.Pool.{ArePooled}
use Rattle.pbx_link_rules.proofs.Counted.{count, count_append, count_map, is_called, defined_once}
use Rattle.pbx_link_rules.proofs.Distinct.{pooled_are_distinct}
use Rattle.pbx_message_laws.proofs.Listed.{split}
use Rattle.pbx_link_meaning.proofs.Lists.{told_of}
use Rattle.pbx_json_laws.proofs.Once.{count_inside}

each_at : {A : Type 0} (P : A → Type 0) (xs : List A) (x : A) → Each P xs → Contains xs x → P x
each_at P [] x h c = absurd (omega (arith, c.1))
each_at P (y ∷ ys) x h c = at (split y ys x c) (λ d. each_at P ys x h.1 d)
  where
    at : (y ≡ x) ⊎ Contains ys x → (Contains ys x → P x) → P x
    at (inl same) more = subst P same h.0
    at (inr d) more = more d

module _ (q : List ℕ) where
  -- what a message defines itself is a part of what it defines with those nested in it
  parts_of : (p : Part DescriptorProto) → count (is_called q) (definitions_from p)
      ≡ count (is_called q) (before_nested p) + count (is_called q) (flat_map definitions_from (nested_in p)) + count (is_called q) (after_nested p)
  parts_of p =
      let d = ap (count (is_called q)) (definitions_from_at p) in
      let d1 = count_append (is_called q) (before_nested p ++ flat_map definitions_from (nested_in p)) (after_nested p) in
      let d2 = count_append (is_called q) (before_nested p) (flat_map definitions_from (nested_in p)) in
      omega (arith, d, d1, d2)

  -- ---- what one message defines

  module _ (own : Part DescriptorProto → ℕ)
      (is_own : (p : Part DescriptorProto) → own p ≤ count (is_called q) (before_nested p) + count (is_called q) (after_nested p)) where
    abbrev Holds : Part DescriptorProto → Type 0
    Holds r = (p : Part DescriptorProto) → Contains (messages_from r) p → own p ≤ count (is_called q) (definitions_from r)

    message_holds : (r : Part DescriptorProto) → Each Holds (nested_in r) → Holds r
    message_holds r inside p c =
        at (split r (flat_map messages_from (nested_in r)) p (subst (λ (ps : List (Part DescriptorProto)). Contains ps p) (messages_from_at r) c))
      where
        at : (r ≡ p) ⊎ Contains (flat_map messages_from (nested_in r)) p → own p ≤ count (is_called q) (definitions_from r)
        at (inl same) =
            let here : own r ≡ own p = ap own same in
            let less = is_own r in
            let all = parts_of r in
            omega (arith, here, less, all)
        at (inr d) =
            let t = told_of messages_from (nested_in r) p d in
            let within : Holds t.holder = each_at Holds (nested_in r) t.holder inside t.within in
            let less = within p t.inside in
            let more = count_inside definitions_from (is_called q) (nested_in r) t.holder t.within in
            let all = parts_of r in
            omega (arith, less, more, all)

    -- a message's own definitions are among those of its file
    pub own_defined : (f : FileDescriptorProto) (p : Part DescriptorProto) → Contains (messages f) p → own p ≤ count (is_called q) (definitions f)
    own_defined f p c =
        let t = told_of messages_from (top_messages f) p c in
        let less = ind_part Holds message_holds t.holder p t.inside in
        let more = count_inside definitions_from (is_called q) (top_messages f) t.holder t.within in
        let rest : ℕ = count (is_called q) (flat_map enum_definitions (top_enums f)) in
        let d = count_append (is_called q)
        (flat_map definitions_from (top_messages f) ++ flat_map enum_definitions (top_enums f) ++ flat_map service_definitions (services f))
        (map (field_definition an_extension) (top_extensions f)) in
        let d1 = count_append (is_called q) (flat_map definitions_from (top_messages f) ++ flat_map enum_definitions (top_enums f))
        (flat_map service_definitions (services f)) in
        let d2 = count_append (is_called q) (flat_map definitions_from (top_messages f)) (flat_map enum_definitions (top_enums f)) in
        omega (arith, less, more, d, d1, d2)

  -- ---- fields

  abbrev fields_called : Part DescriptorProto → ℕ
  fields_called p = count (is_called q) (map (field_definition a_field) (fields_in p))

  fields_own : (p : Part DescriptorProto) → fields_called p ≤ count (is_called q) (before_nested p) + count (is_called q) (after_nested p)
  fields_own p = omega arith

  pub fields_defined : (f : FileDescriptorProto) (p : Part DescriptorProto) → Contains (messages f) p → fields_called p ≤ count (is_called q) (definitions f)
  fields_defined f p c = own_defined fields_called fields_own f p c

  -- ---- values of enums

  abbrev enums_called : Part DescriptorProto → ℕ
  enums_called p = count (is_called q) (flat_map enum_definitions (enums_in p))

  enums_own : (p : Part DescriptorProto) → enums_called p ≤ count (is_called q) (before_nested p) + count (is_called q) (after_nested p)
  enums_own p =
      let a = count_append (is_called q) (flat_map enum_definitions (enums_in p) ++ map (field_definition an_extension) (extensions_in p))
      (map (defined a_oneof (λ (o : OneofDescriptorProto). o.name)) (oneofs_in p)) in
      let b = count_append (is_called q) (flat_map enum_definitions (enums_in p)) (map (field_definition an_extension) (extensions_in p)) in
      omega (arith, a, b)

  pub values_defined : (f : FileDescriptorProto) (e : Part EnumDescriptorProto) → Contains (enums f) e
      → count (is_called q) (value_definitions e) ≤ count (is_called q) (definitions f)
  values_defined f e c = at (Contains-append_cases (flat_map enums_in (messages f)) (top_enums f) e c)
    where
      own : count (is_called q) (value_definitions e) ≤ count (is_called q) (enum_definitions e)
      own = omega arith

      at : Contains (flat_map enums_in (messages f)) e ⊎ Contains (top_enums f) e → count (is_called q) (value_definitions e) ≤ count (is_called q) (definitions f)
      at (inl k) =
          let t = told_of enums_in (messages f) e k in
          let inside = count_inside enum_definitions (is_called q) (enums_in t.holder) e t.inside in
          let all = own_defined enums_called enums_own f t.holder t.within in
          omega (arith, own, inside, all)
      at (inr k) =
          let inside = count_inside enum_definitions (is_called q) (top_enums f) e k in
          let d = count_append (is_called q)
          (flat_map definitions_from (top_messages f) ++ flat_map enum_definitions (top_enums f) ++ flat_map service_definitions (services f))
          (map (field_definition an_extension) (top_extensions f)) in
          let d1 = count_append (is_called q) (flat_map definitions_from (top_messages f) ++ flat_map enum_definitions (top_enums f))
          (flat_map service_definitions (services f)) in
          let d2 = count_append (is_called q) (flat_map definitions_from (top_messages f)) (flat_map enum_definitions (top_enums f)) in
          omega (arith, own, inside, d, d1, d2)

  -- ---- extensions

  abbrev is_of : Part FieldDescriptorProto → Bool
  is_of p = bytes_eq (field_name p) q

  abbrev Extends : Part DescriptorProto → Type 0
  Extends p = count is_of (extensions_from p) ≤ count (is_called q) (definitions_from p)

  nested_extends : (ps : List (Part DescriptorProto)) → Each Extends ps → count is_of (flat_map extensions_from ps) ≤ count (is_called q) (flat_map definitions_from ps)
  nested_extends [] h = omega arith
  nested_extends (p ∷ ps) h =
      let others = nested_extends ps h.1 in
      let here : count is_of (extensions_from p) ≤ count (is_called q) (definitions_from p) = h.0 in
      let a = count_append is_of (extensions_from p) (flat_map extensions_from ps) in
      let b = count_append (is_called q) (definitions_from p) (flat_map definitions_from ps) in
      omega (arith, others, here, a, b)

  message_extends : (p : Part DescriptorProto) → Each Extends (nested_in p) → Extends p
  message_extends p inside =
      let e = ap (count is_of) (extensions_from_at p) ∙ count_append is_of (flat_map extensions_from (nested_in p)) (extensions_in p) in
      let nested = nested_extends (nested_in p) inside in
      let own = count_map (is_called q) (field_definition an_extension) (extensions_in p) in
      let all = parts_of p in
      let a = count_append (is_called q) (flat_map enum_definitions (enums_in p) ++ map (field_definition an_extension) (extensions_in p))
      (map (defined a_oneof (λ (o : OneofDescriptorProto). o.name)) (oneofs_in p)) in
      let b = count_append (is_called q) (flat_map enum_definitions (enums_in p)) (map (field_definition an_extension) (extensions_in p)) in
      omega (arith, e, nested, own, all, a, b)

  each_extends : (ps : List (Part DescriptorProto)) → Each Extends ps
  each_extends [] = tt
  each_extends (p ∷ ps) = (ind_part Extends message_extends p, each_extends ps)

  file_extends : (f : FileDescriptorProto) → count is_of (extensions f) ≤ count (is_called q) (definitions f)
  file_extends f =
      let e = count_append is_of (flat_map extensions_from (top_messages f)) (top_extensions f) in
      let nested = nested_extends (top_messages f) (each_extends (top_messages f)) in
      let top = count_map (is_called q) (field_definition an_extension) (top_extensions f) in
      let d = count_append (is_called q)
      (flat_map definitions_from (top_messages f) ++ flat_map enum_definitions (top_enums f) ++ flat_map service_definitions (services f))
      (map (field_definition an_extension) (top_extensions f)) in
      let d1 = count_append (is_called q) (flat_map definitions_from (top_messages f) ++ flat_map enum_definitions (top_enums f))
      (flat_map service_definitions (services f)) in
      let d2 = count_append (is_called q) (flat_map definitions_from (top_messages f)) (flat_map enum_definitions (top_enums f)) in
      omega (arith, e, nested, top, d, d1, d2)

  pool_extends : (pool : List FileDescriptorProto) → count is_of (flat_map extensions pool) ≤ count (is_called q) (flat_map definitions pool)
  pool_extends [] = omega arith
  pool_extends (f ∷ fs) =
      let others = pool_extends fs in
      let here = file_extends f in
      let a = count_append is_of (extensions f) (flat_map extensions fs) in
      let b = count_append (is_called q) (definitions f) (flat_map definitions fs) in
      omega (arith, others, here, a, b)

  -- ---- a pool

  module _ (pool : List FileDescriptorProto) (pooled : ArePooled [] pool) where
    once : count (is_called q) (flat_map definitions pool) ≤ 1
    once = defined_once pool (pooled_are_distinct pool pooled) q

    file_once : (f : FileDescriptorProto) → Contains pool f → count (is_called q) (definitions f) ≤ 1
    file_once f c = let inside = count_inside definitions (is_called q) pool f c in let one = once in omega (arith, inside, one)

    pub extension_once : count is_of (flat_map extensions pool) ≤ 1
    extension_once = let all = pool_extends pool in let one = once in omega (arith, all, one)

    pub fields_once : (f : FileDescriptorProto) (p : Part DescriptorProto) → Contains pool f → Contains (messages f) p → fields_called p ≤ 1
    fields_once f p c d = let inside = fields_defined f p d in let one = file_once f c in omega (arith, inside, one)

    pub values_once : (f : FileDescriptorProto) (e : Part EnumDescriptorProto) → Contains pool f → Contains (enums f) e
        → count (is_called q) (value_definitions e) ≤ 1
    values_once f e c d = let inside = values_defined f e d in let one = file_once f c in omega (arith, inside, one)
