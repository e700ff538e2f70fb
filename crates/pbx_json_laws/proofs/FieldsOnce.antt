-- Among the fields and extensions of a message each name is found once.
use Rattle.std.proofs.Common.{◌≡◌, ◌∙◌, ◌⊎◌, ℕ, ◌+◌, ◌≤◌, ◌&&◌, not, if◌then◌else◌, List, [], ◌∷◌, ◌++◌, map, Bool, true, false, Option, Some, None, refl, ap, sym, subst, inl, inr, arith}
use Rattle.std.specs.Prelude.{Contains, codes, find, filter}
use Rattle.std.specs.List.{flat_map, enumerate_from}
use Rattle.std.specs.Str.{bytes_eq}
use Rattle.std.proofs.lemmas.Slice.Eq.{bytes_eq-Decides}
use Rattle.std.proofs.lemmas.List.{append_cancel_right}
use Rattle.std.proofs.lemmas.List.Elements.{Contains-append_cases}
use Rattle.pbx_content.specs.declared.shape.FieldShape.{FieldShape}
use Rattle.pbx_desc_records.specs.declared.field.FieldDescriptorProto.{FieldDescriptorProto}
use Rattle.pbx_desc_records.specs.declared.file.FileDescriptorProto.{FileDescriptorProto}
use Rattle.pbx_desc_records.specs.declared.message.DescriptorProto.{DescriptorProto}
use Rattle.pbx_link_definitions.specs.Names.{text_or_empty, qualified, is_ident, is_named, dotted}
use Rattle.pbx_link_definitions.specs.Says.{own_fields}
use Rattle.pbx_link_definitions.specs.Definitions.{Part, Place, part, field_name, message_name, fields_in, field_definition, messages, extensions}
use Rattle.pbx_link_definitions.specs.declared.definitions.Sort.TheVariants.{Field as a_field}
use Rattle.pbx_link_rules.specs.Pool.{ArePooled}
use Rattle.pbx_link_rules.proofs.Counted.{count, count_append, count_map, is_called}
use Rattle.pbx_link_rules.proofs.Types.{source}
use Rattle.pbx_link_meaning.specs.Descriptors.{Described, described, all_extensions, fields_of_message, extensions_of_message, extension_json_name}
use Rattle.pbx_link_meaning.specs.Shapes.{field_shape, extension_shape, message_shape}
use Rattle.pbx_link_meaning.proofs.DescribedLists.{parts_back, parts_of_described}
use Rattle.pbx_message_laws.specs.Pools.{IsPooled}
use Rattle.pbx_message_laws.proofs.FieldNames.{field_named}
use Rattle.pbx_json_meaning.specs.Names.{name_is, extension_is}
use Rattle.pbx_json_meaning.specs.Urls.{is_type_key}
use Rattle.pbx_json_laws.proofs.Once.{find_only, find_none, count_fewer, count_left, count_none}
use Rattle.pbx_json_laws.proofs.Defined.{fields_once, extension_once}
use Rattle.pbx_json_laws.proofs.Places.{IsPart}

same_bytes : (s : List ℕ) → bytes_eq s s ≡ true
same_bytes s = (bytes_eq-Decides s s).1 refl

are_same : (s t : List ℕ) → bytes_eq s t ≡ true → s ≡ t
are_same s t h = (bytes_eq-Decides s t).0 h

-- ---- names of fields

abbrev own : Part FieldDescriptorProto → List ℕ
own p = text_or_empty p.item.name

-- fields of one scope and one name have one full name
scoped : (scope name : List ℕ) (place : Place) (n : ℕ) (xs : List (ℕ × FieldDescriptorProto))
    → count (λ p. bytes_eq (own p) name) (map (λ (x : ℕ × FieldDescriptorProto). part scope place n x.0 x.1) xs)
    ≤ count (is_called (qualified scope name)) (map (field_definition a_field) (map (λ (x : ℕ × FieldDescriptorProto). part scope place n x.0 x.1) xs))
scoped scope name place n [] = omega arith
scoped scope name place n (x ∷ xs) = at (bytes_eq (text_or_empty x.1.name) name) refl (scoped scope name place n xs)
  where
    rest : ℕ
    rest = count (λ p. bytes_eq (own p) name) (map (λ (y : ℕ × FieldDescriptorProto). part scope place n y.0 y.1) xs)

    all : ℕ
    all = count (is_called (qualified scope name)) (map (field_definition a_field) (map (λ (y : ℕ × FieldDescriptorProto). part scope place n y.0 y.1) xs))

    called : bytes_eq (text_or_empty x.1.name) name ≡ true → bytes_eq (qualified scope (text_or_empty x.1.name)) (qualified scope name) ≡ true
    called h = ap (λ (s : List ℕ). bytes_eq (qualified scope s) (qualified scope name)) (are_same (text_or_empty x.1.name) name h) ∙ same_bytes (qualified scope name)

    at : (b : Bool) → bytes_eq (text_or_empty x.1.name) name ≡ b → rest ≤ all
        → (if b then 1 else 0) + rest ≤ (if bytes_eq (qualified scope (text_or_empty x.1.name)) (qualified scope name) then 1 else 0) + all
    at true h less = rw (called h) (omega (arith, less))
    at false h less = omega (arith, less)

-- how many fields of a message have a name
abbrev named : List ℕ → Part DescriptorProto → ℕ
named name p = count (λ x. bytes_eq (own x) name) (fields_in p)

module _ (pool : List FileDescriptorProto) (pooled : ArePooled [] pool) (d : Described DescriptorProto) (is : IsPart messages pool d) where
  abbrev fs : List FieldShape
  fs = (message_shape d).fields

  abbrev xs : List (Described FieldDescriptorProto)
  xs = fields_of_message d

  abbrev es : List (Described FieldDescriptorProto)
  es = extensions_of_message d

  its_pool : d.pool ≡ pool
  its_pool = ap (λ (x : Described DescriptorProto). x.pool) (sym is.made)

  its_part : d.part ≡ is.part
  its_part = ap (λ (x : Described DescriptorProto). x.part) (sym is.made)

  named_once : (name : List ℕ) → named name d.part ≤ 1
  named_once name =
      let P : Part DescriptorProto → Type 0 = λ p. named name p ≤ 1 in
      let less = scoped (message_name is.part) name is.part.place 2 (enumerate_from 0 (own_fields is.part.item)) in
      let one = fields_once (qualified (message_name is.part) name) pool pooled is.file is.part is.in_pool is.in_file in
      subst P (sym its_part) (omega (arith, less, one))

  -- ---- fields

  fields_counted : (name : List ℕ) → count (name_is name) (map field_shape xs) ≡ named name d.part
  fields_counted name =
      count_map (name_is name) field_shape xs
      ∙ sym (count_map (λ (p : Part FieldDescriptorProto). bytes_eq (own p) name) (λ (x : Described FieldDescriptorProto). x.part) xs)
      ∙ ap (count (λ (p : Part FieldDescriptorProto). bytes_eq (own p) name)) (parts_of_described d.pool d.file (fields_in d.part))

  extensions_uncounted : (name : List ℕ) (ys : List (Described FieldDescriptorProto)) → count (name_is name) (map extension_shape ys) ≡ 0
  extensions_uncounted name [] = refl
  extensions_uncounted name (y ∷ ys) = let rest = extensions_uncounted name ys in omega (arith, rest)

  name_once : (name : List ℕ) → count (name_is name) fs ≤ 1
  name_once name =
      let a = count_append (name_is name) (map field_shape xs) (map extension_shape es) in
      let b = fields_counted name in
      let c = extensions_uncounted name es in
      let one = named_once name in
      omega (arith, a, b, c, one)

  -- a field that is no extension is that of a descriptor
  of_field : (f : FieldShape) → Contains fs f → f.is_extension ≡ false → (x : Described FieldDescriptorProto) × Contains xs x × (field_shape x ≡ f)
  of_field f c own_field = at (Contains-append_cases (map field_shape xs) (map extension_shape es) f c)
    where
      at : Contains (map field_shape xs) f ⊎ Contains (map extension_shape es) f → (x : Described FieldDescriptorProto) × Contains xs x × (field_shape x ≡ f)
      at (inl k) = let s = source field_shape xs f k in (s.item, s.within, s.made)
      at (inr k) =
          let s = source extension_shape es f k in
          let bad : true ≡ false = ap (λ (g : FieldShape). g.is_extension) s.made ∙ own_field in
          absurd (cc)

  -- and an extension that of one that extends the message
  of_extension : (f : FieldShape) → Contains fs f → f.is_extension ≡ true → (x : Described FieldDescriptorProto) × Contains es x × (extension_shape x ≡ f)
  of_extension f c extends = at (Contains-append_cases (map field_shape xs) (map extension_shape es) f c)
    where
      at : Contains (map field_shape xs) f ⊎ Contains (map extension_shape es) f → (x : Described FieldDescriptorProto) × Contains es x × (extension_shape x ≡ f)
      at (inr k) = let s = source extension_shape es f k in (s.item, s.within, s.made)
      at (inl k) =
          let s = source field_shape xs f k in
          let bad : false ≡ true = ap (λ (g : FieldShape). g.is_extension) s.made ∙ extends in
          absurd (cc)

  -- a field is found by its name
  pub field_found : (f : FieldShape) → Contains fs f → f.is_extension ≡ false → find (name_is f.name) fs ≡ Some f
  field_found f c own_field =
      let is_it : name_is f.name f ≡ true =
      ap (λ (b : Bool). not b && bytes_eq f.name f.name) own_field ∙ same_bytes f.name in
      find_only (name_is f.name) fs f c is_it (name_once f.name)

  -- ---- extensions

  -- the brackets tell it from every identifier
  no_bracket : (name rest : List ℕ) → is_ident name ≡ true → bytes_eq (91 ∷ rest) name ≡ false
  no_bracket name rest h = at (bytes_eq (91 ∷ rest) name) refl
    where
      at : (b : Bool) → bytes_eq (91 ∷ rest) name ≡ b → b ≡ false
      at false e = refl
      at true e =
          let same : 91 ∷ rest ≡ name = are_same (91 ∷ rest) name e in
          let bad : false ≡ true = ap is_ident same ∙ h in
          absurd (cc)

  ident : (x : Described FieldDescriptorProto) → IsPooled d → Contains xs x → is_ident (own x.part) ≡ true
  ident x of c = at (is_ident (own x.part)) (field_named d of x c)
    where
      at : (b : Bool) → not b ≡ false → b ≡ true
      at true h = refl
      at false h = absurd (cc)

  apart_by : (name : List ℕ) → is_ident name ≡ true → (g : FieldShape) → Contains fs g → extension_is name g ≡ false
  apart_by name h g c = at g.is_extension refl
    where
      at : (b : Bool) → g.is_extension ≡ b → extension_is name g ≡ false
      at false e = rw e refl
      at true e =
          let x = of_extension g c e in
          let bracket : bytes_eq g.json_name name ≡ false =
          ap (λ (y : FieldShape). bytes_eq y.json_name name) (sym x.2) ∙ no_bracket name _ h in
          rw (e, bracket) refl

  -- no extension is found by a field's name
  pub field_apart : (f : FieldShape) → IsPooled d → Contains fs f → f.is_extension ≡ false → find (extension_is f.name) fs ≡ None
  field_apart f of c own_field =
      let x = of_field f c own_field in
      let named_so : is_ident f.name ≡ true = ap (λ (g : FieldShape). is_ident g.name) (sym x.2) ∙ ident x.0 of x.1 in
      find_none (extension_is f.name) fs (apart_by f.name named_so)

  -- a field's name is no key of the type of an `Any`
  pub field_plain : (f : FieldShape) → IsPooled d → Contains fs f → f.is_extension ≡ false → is_type_key f.name ≡ false
  field_plain f of c own_field =
      let x = of_field f c own_field in
      let named_so : is_ident f.name ≡ true = ap (λ (g : FieldShape). is_ident g.name) (sym x.2) ∙ ident x.0 of x.1 in
      at (is_type_key f.name) refl named_so
    where
      at : (b : Bool) → is_type_key f.name ≡ b → is_ident f.name ≡ true → b ≡ false
      at false e named_so = refl
      at true e named_so =
          let same : f.name ≡ codes "@type" = are_same f.name (codes "@type") e in
          let bad : true ≡ false = sym named_so ∙ ap is_ident same in
          absurd (cc)

  -- nor is an extension's name in brackets
  pub extension_plain : (f : FieldShape) → Contains fs f → f.is_extension ≡ true → is_type_key f.json_name ≡ false
  extension_plain f c extends =
      let x = of_extension f c extends in
      ap (λ (g : FieldShape). is_type_key g.json_name) (sym x.2)

  fields_unextended : (key : List ℕ) (ys : List (Described FieldDescriptorProto)) → count (extension_is key) (map field_shape ys) ≡ 0
  fields_unextended key [] = refl
  fields_unextended key (y ∷ ys) = let rest = fields_unextended key ys in omega (arith, rest)

  -- keys in brackets are equal where the names are
  unbracketed : (s t : List ℕ) → bytes_eq (91 ∷ s ++ 93 ∷ []) (91 ∷ t ++ 93 ∷ []) ≡ true → bytes_eq s t ≡ true
  unbracketed s t h =
      let same : 91 ∷ s ++ 93 ∷ [] ≡ 91 ∷ t ++ 93 ∷ [] = are_same _ _ h in
      (bytes_eq-Decides s t).1 (last_off s t (ap rest same))
    where
      rest : List ℕ → List ℕ
      rest [] = []
      rest (b ∷ bs) = bs

      last_off : (s t : List ℕ) → s ++ 93 ∷ [] ≡ t ++ 93 ∷ [] → s ≡ t
      last_off s t e = append_cancel_right s t (93 ∷ []) e

  all_counted : (q : List ℕ) → count (λ (x : Described FieldDescriptorProto). bytes_eq (field_name x.part) q) (all_extensions d.pool) ≤ 1
  all_counted q =
      let P : List FileDescriptorProto → Type 0 = λ fs. count (λ (x : Described FieldDescriptorProto). bytes_eq (field_name x.part) q) (all_extensions fs) ≤ 1 in
      let same = sym (count_map (λ (p : Part FieldDescriptorProto). bytes_eq (field_name p) q) (λ (x : Described FieldDescriptorProto). x.part) (all_extensions pool))
      ∙ ap (count (λ (p : Part FieldDescriptorProto). bytes_eq (field_name p) q)) (parts_back pool extensions pool) in
      let one = extension_once q pool pooled in
      subst P (sym its_pool) (omega (arith, same, one))

  extension_counted : (x : Described FieldDescriptorProto) → count (extension_is (extension_json_name x)) fs ≤ 1
  extension_counted x =
      let key : List ℕ = extension_json_name x in
      let test : Described FieldDescriptorProto → Bool = λ (y : Described FieldDescriptorProto). bytes_eq (field_name y.part) (field_name x.part) in
      let a = count_append (extension_is key) (map field_shape xs) (map extension_shape es) in
      let b = fields_unextended key xs in
      let c = count_map (extension_is key) extension_shape es in
      let fewer = count_fewer (λ (y : Described FieldDescriptorProto). extension_is key (extension_shape y)) test
      (λ y h. unbracketed (field_name y.part) (field_name x.part) h) es in
      let left = count_left test (λ (y : Described FieldDescriptorProto). is_named y.part.item.extendee (dotted (message_name d.part))) (all_extensions d.pool) in
      let one = all_counted (field_name x.part) in
      omega (arith, a, b, c, fewer, left, one)

  -- an extension is found by its name in brackets
  pub extension_found : (f : FieldShape) → Contains fs f → f.is_extension ≡ true → find (extension_is f.json_name) fs ≡ Some f
  extension_found f c extends =
      let x = of_extension f c extends in
      let key : f.json_name ≡ extension_json_name x.0 = ap (λ (g : FieldShape). g.json_name) (sym x.2) in
      let once : count (extension_is f.json_name) fs ≤ 1 =
      (let P : List ℕ → Type 0 = λ k. count (extension_is k) fs ≤ 1 in subst P (sym key) (extension_counted x.0)) in
      let is_it : extension_is f.json_name f ≡ true = ap (λ (b : Bool). b && bytes_eq f.json_name f.json_name) extends ∙ same_bytes f.json_name in
      find_only (extension_is f.json_name) fs f c is_it once
