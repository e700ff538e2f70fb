-- What one message of a file alone has: no two messages of a pool have one full name.
use Rattle.std.proofs.Common.{◌≡◌, ◌∙◌, ℕ, zero, suc, ◌+◌, ◌<◌, ◌≤◌, cond, List, [], ◌∷◌, map, length, Bool, true, false, Option, Some, None, find}
use Rattle.std.proofs.Common.{refl, ap, sym, arith}
use Rattle.std.specs.Prelude.{Contains, filter, slice_get, option_map, option_and_then, ◌&&◌, ◌==◌, ℤ, pos, negsuc}
use Rattle.std.specs.List.{flat_map, enumerate_from}
use Rattle.std.specs.Str.{bytes_eq}
use Rattle.std.proofs.lemmas.Bool.{false≢true}
use Rattle.std.proofs.lemmas.Bool.Decides.{nat_tests}
use Rattle.std.proofs.lemmas.List.{get_or-map, length-map}
use Rattle.std.proofs.lemmas.List.FromFn.{length-enumerate_from, get_or-enumerate_from}
use Rattle.std.proofs.lemmas.Option.{slice_get-map}
use Rattle.std.proofs.lemmas.Slice.Eq.{bytes_eq-Decides}
use Rattle.pbx_desc_records.specs.declared.field.FieldDescriptorProto.{FieldDescriptorProto}
use Rattle.pbx_desc_records.specs.declared.field.OneofDescriptorProto.{OneofDescriptorProto}
use Rattle.pbx_desc_records.specs.declared.file.FileDescriptorProto.{FileDescriptorProto}
use Rattle.pbx_desc_records.specs.declared.message.DescriptorProto.{DescriptorProto}
use Rattle.pbx_link_definitions.specs.Definitions.{Part, Place, part, parts, message_name, messages, fields, fields_in, oneofs, oneofs_in}
use Rattle.pbx_link_definitions.specs.Says.{is_number, own_fields}
use Rattle.pbx_link_rules.specs.Pool.{ArePooled}
use Rattle.pbx_link_rules.proofs.Counted.{count, count_append, message_once}
use Rattle.pbx_link_rules.proofs.Distinct.{pooled_are_distinct}
use Rattle.pbx_link_rules.proofs.Named.{only_found, same_name}
use Rattle.pbx_link_meaning.specs.Descriptors.{Described, described, is_member}
use Rattle.pbx_link.specs.Tables.{part_at, own_oneofs, index_of}
use Rattle.pbx_link.proofs.Parts.{find_mapped}
use Rattle.pbx_link.proofs.Sole.{find_filtered, first_of, filter_mapped, filter_none, filter_same, find_same, only_piece}

-- no more are counted in a piece than in all
count_piece : {X A : Type 0} (test : A → Bool) (f : X → List A) (xs : List X) (x : X) → Contains xs x → count test (f x) ≤ count test (flat_map f xs)
count_piece test f [] x h = absurd (omega (arith, h.1))
count_piece test f (y ∷ ys) x (zero, lt, is) =
    let all = count_append test (f y) (flat_map f ys) in
    let same : count test (f y) ≡ count test (f x) = ap (λ z. count test (f z)) is in
    omega (arith, all, same)
count_piece test f (y ∷ ys) x (suc k, lt, is) =
    let all = count_append test (f y) (flat_map f ys) in
    let less = count_piece test f ys x (k, omega (arith, lt), is) in
    omega (arith, all, less)

-- ---- scopes and indexes of the parts of a list

module _ {X : Type 0} (none : X) (scope : List ℕ) (place : Place) (n : ℕ) (xs : List X) (i : ℕ) (lt : i < length (parts scope place n xs)) where
  abbrev as_part : ℕ × X → Part X
  as_part e = part scope place n e.0 e.1

  within : i < length (enumerate_from 0 xs)
  within = omega (arith, length-map (enumerate_from 0 xs) as_part, lt)

  pub part_scope : (part_at none (parts scope place n xs) i).scope ≡ scope
  part_scope = ap (λ (p : Part X). p.scope) (get_or-map as_part (enumerate_from 0 xs) i (0, none) _ within)

  pub part_index : (part_at none (parts scope place n xs) i).index ≡ i
  part_index =
      ap (λ (p : Part X). p.index) (get_or-map as_part (enumerate_from 0 xs) i (0, none) _ within)
      ∙ ap (λ (e : ℕ × X). e.0) (get_or-enumerate_from 0 xs i (0, none) (omega (arith, within, length-enumerate_from 0 xs))) ∙ none_before
    where
      none_before : 0 + i ≡ i
      none_before = omega arith

-- the item of an index among those that are numbered
numbered : {X : Type 0} (k j m : ℕ) (xs : List X) → m ≡ k + j → find (λ (e : ℕ × X). m == e.0) (enumerate_from k xs) ≡ slice_get (enumerate_from k xs) j
numbered k j m [] is = refl
numbered {X} k zero m (x ∷ xs) is =
    let yes : (m == k) ≡ true = grind (arith, nat_tests, is) in
    ap (λ (b : Bool). cond b (Some (k, x)) (find (λ (e : ℕ × X). m == e.0) (enumerate_from (k + 1) xs))) yes
numbered {X} k (suc j) m (x ∷ xs) is =
    let no : (m == k) ≡ false = grind (arith, nat_tests, is) in
    ap (λ (b : Bool). cond b (Some (k, x)) (find (λ (e : ℕ × X). m == e.0) (enumerate_from (k + 1) xs))) no ∙ numbered (k + 1) j m xs (omega (arith, is))

-- ---- a message of a pool

module _ (pool : List FileDescriptorProto) (pooled : ArePooled [] pool) (file : FileDescriptorProto) (held : Contains pool file)
    (m : Part DescriptorProto) (there : Contains (messages file) m) where
  abbrev is_it : Part DescriptorProto → Bool
  is_it p = bytes_eq (message_name p) (message_name m)

  once : count is_it (messages file) ≤ 1
  once =
      let all = message_once pool (pooled_are_distinct pool pooled) (message_name m) in
      let fewer = count_piece is_it messages pool file held in
      omega (arith, all, fewer)

  -- it is the one of its name
  pub parent_is_it : (s : List ℕ) → s ≡ message_name m
      → find (λ (d : Described DescriptorProto). bytes_eq (message_name d.part) s) (map (described pool file) (messages file)) ≡ Some (described pool file m)
  parent_is_it s same =
      ap (λ (t : List ℕ). find (λ (d : Described DescriptorProto). bytes_eq (message_name d.part) t) (map (described pool file) (messages file))) same
      ∙ find_mapped (λ (d : Described DescriptorProto). bytes_eq (message_name d.part) (message_name m)) (described pool file) (messages file)
      ∙ ap (option_map (described pool file)) (only_found is_it m (same_name (message_name m)) (messages file) there once)

  -- what stands in its scope is told of it
  own_alone : {Y : Type 0} (f : Part DescriptorProto → List Y) (p : Y → Bool) → ((x : Part DescriptorProto) → is_it x ≡ false → filter p (f x) ≡ [])
      → filter p (flat_map f (messages file)) ≡ filter p (f m)
  own_alone f p others = only_piece is_it f p others m (same_name (message_name m)) (messages file) there once

  -- no other has its name
  other_scope : (x : Part DescriptorProto) → is_it x ≡ false → bytes_eq (message_name m) (message_name x) ≡ false
  other_scope x unlike = at (bytes_eq (message_name m) (message_name x)) refl
    where
      at : (b : Bool) → bytes_eq (message_name m) (message_name x) ≡ b → b ≡ false
      at false e = refl
      at true e =
          absurd
          (false≢true
          (sym unlike ∙ (bytes_eq-Decides (message_name x) (message_name m)).1 (sym ((bytes_eq-Decides (message_name m) (message_name x)).0 e))))

  -- the oneof that a field of it is a member of
  module _ (x : Part FieldDescriptorProto) (scoped : x.scope ≡ message_name m) where
    abbrev as_oneof : ℕ × OneofDescriptorProto → Part OneofDescriptorProto
    as_oneof e = part (message_name m) m.place 8 e.0 e.1

    by_scope : (scope : List ℕ) (b : Bool) → bytes_eq (message_name m) scope ≡ b → (i : ℕ)
        → (bytes_eq x.scope scope && is_number x.item.oneof_index i) ≡ (b && is_number x.item.oneof_index i)
    by_scope scope b e i = ap (λ (c : Bool). c && is_number x.item.oneof_index i) (ap (λ (s : List ℕ). bytes_eq s scope) scoped ∙ e)

    none_of_others : (y : Part DescriptorProto) → is_it y ≡ false → filter (is_member x) (oneofs_in y) ≡ []
    none_of_others y unlike =
        filter_mapped (is_member x) (λ (e : ℕ × OneofDescriptorProto). part (message_name y) y.place 8 e.0 e.1) (enumerate_from 0 (own_oneofs y.item))
        ∙ ap (map (λ (e : ℕ × OneofDescriptorProto). part (message_name y) y.place 8 e.0 e.1))
        (filter_none (λ (e : ℕ × OneofDescriptorProto). bytes_eq x.scope (message_name y) && is_number x.item.oneof_index e.0)
        (λ e. by_scope (message_name y) false (other_scope y unlike) e.0) (enumerate_from 0 (own_oneofs y.item)))

    by_index : (number : Option ℤ) → find (λ (e : ℕ × OneofDescriptorProto). is_number number e.0) (enumerate_from 0 (own_oneofs m.item))
        ≡ option_and_then (λ i. slice_get (enumerate_from 0 (own_oneofs m.item)) i) (index_of number)
    by_index None = nowhere (enumerate_from 0 (own_oneofs m.item))
      where
        nowhere : (es : List (ℕ × OneofDescriptorProto)) → find (λ e. false) es ≡ None
        nowhere [] = refl
        nowhere (e ∷ es) = nowhere es
    by_index (Some (pos i)) = numbered 0 i i (own_oneofs m.item) (omega arith)
    by_index (Some (negsuc i)) = nowhere (enumerate_from 0 (own_oneofs m.item))
      where
        nowhere : (es : List (ℕ × OneofDescriptorProto)) → find (λ e. false) es ≡ None
        nowhere [] = refl
        nowhere (e ∷ es) = nowhere es

    taken : (o : Option ℕ)
        → option_map as_oneof (option_and_then (λ i. slice_get (enumerate_from 0 (own_oneofs m.item)) i) o) ≡ option_and_then (slice_get (oneofs_in m)) o
    taken None = refl
    taken (Some i) = sym (slice_get-map as_oneof (enumerate_from 0 (own_oneofs m.item)) i)

    pub oneof_is : find (λ (o : Described OneofDescriptorProto). is_member x o.part) (map (described pool file) (oneofs file))
        ≡ option_map (described pool file) (option_and_then (slice_get (oneofs_in m)) (index_of x.item.oneof_index))
    oneof_is =
        find_mapped (λ (o : Described OneofDescriptorProto). is_member x o.part) (described pool file) (oneofs file)
        ∙ ap (option_map (described pool file))
        (find_filtered (is_member x) (oneofs file) ∙ ap first_of (own_alone oneofs_in (is_member x) none_of_others)
        ∙ sym (find_filtered (is_member x) (oneofs_in m))
        ∙ find_mapped (is_member x) as_oneof (enumerate_from 0 (own_oneofs m.item))
        ∙ ap (option_map as_oneof)
        (find_same (λ (e : ℕ × OneofDescriptorProto). bytes_eq x.scope (message_name m) && is_number x.item.oneof_index e.0)
        (λ (e : ℕ × OneofDescriptorProto). is_number x.item.oneof_index e.0) (λ e. by_scope (message_name m) true (same_name (message_name m)) e.0)
        (enumerate_from 0 (own_oneofs m.item))
        ∙ by_index x.item.oneof_index)
        ∙ taken (index_of x.item.oneof_index))

  -- the members of a oneof of it
  module _ (o : Part OneofDescriptorProto) (scoped : o.scope ≡ message_name m) (i : ℕ) (indexed : o.index ≡ i) where
    abbrev is_of : Part FieldDescriptorProto → Bool
    is_of x = is_member x o

    no_member : (y : Part DescriptorProto) → is_it y ≡ false → (e : ℕ × FieldDescriptorProto)
        → (bytes_eq (message_name y) o.scope && is_number e.1.oneof_index o.index) ≡ false
    no_member y unlike e = ap (λ (b : Bool). b && is_number e.1.oneof_index o.index) (ap (bytes_eq (message_name y)) scoped ∙ unlike)

    none_in_others : (y : Part DescriptorProto) → is_it y ≡ false → filter is_of (fields_in y) ≡ []
    none_in_others y unlike =
        filter_mapped is_of (λ (e : ℕ × FieldDescriptorProto). part (message_name y) y.place 2 e.0 e.1) (enumerate_from 0 (own_fields y.item))
        ∙ ap (map (λ (e : ℕ × FieldDescriptorProto). part (message_name y) y.place 2 e.0 e.1))
        (filter_none (λ (e : ℕ × FieldDescriptorProto). bytes_eq (message_name y) o.scope && is_number e.1.oneof_index o.index) (no_member y unlike)
        (enumerate_from 0 (own_fields y.item)))

    member_by_index : (e : ℕ × FieldDescriptorProto) → (bytes_eq (message_name m) o.scope && is_number e.1.oneof_index o.index) ≡ is_number e.1.oneof_index i
    member_by_index e =
        ap (λ (b : Bool). b && is_number e.1.oneof_index o.index) (ap (bytes_eq (message_name m)) scoped ∙ same_name (message_name m))
        ∙ ap (is_number e.1.oneof_index) indexed

    own_members : filter is_of (fields_in m) ≡ filter (λ (x : Part FieldDescriptorProto). is_number x.item.oneof_index i) (fields_in m)
    own_members =
        let told = λ (e : ℕ × FieldDescriptorProto). part (message_name m) m.place 2 e.0 e.1 in
        filter_mapped is_of told (enumerate_from 0 (own_fields m.item))
        ∙ ap (map told)
        (filter_same (λ (e : ℕ × FieldDescriptorProto). bytes_eq (message_name m) o.scope && is_number e.1.oneof_index o.index)
        (λ (e : ℕ × FieldDescriptorProto). is_number e.1.oneof_index i) member_by_index (enumerate_from 0 (own_fields m.item)))
        ∙ sym (filter_mapped (λ (x : Part FieldDescriptorProto). is_number x.item.oneof_index i) told (enumerate_from 0 (own_fields m.item)))

    pub members_are : filter (λ (x : Described FieldDescriptorProto). is_number x.part.item.oneof_index i) (map (described pool file) (fields_in m))
        ≡ map (described pool file) (filter is_of (fields file))
    members_are =
        filter_mapped (λ (x : Described FieldDescriptorProto). is_number x.part.item.oneof_index i) (described pool file) (fields_in m)
        ∙ ap (map (described pool file)) (sym own_members ∙ sym (own_alone fields_in is_of none_in_others))
