-- Shapes of parts beside their pool, told by their records.
use Rattle.std.proofs.Common.{◌≡◌, ◌∙◌, ℕ, ◌+◌, List, [], ◌∷◌, ◌++◌, map, Bool, true, false, Option, Some, None, refl, ap, sym}
use Rattle.std.specs.Prelude.{find, option_map, option_and_then, slice_get, ◌&&◌, if◌then◌else◌}
use Rattle.std.specs.List.{flat_map}
use Rattle.std.specs.Str.{bytes_eq}
use Rattle.pbx_content.specs.declared.shape.Kind.{Kind}
use Rattle.pbx_content.specs.declared.shape.Cardinality.{Cardinality}
use Rattle.pbx_content.specs.declared.shape.Cardinality.TheVariants.{Singular, Repeated, Map}
use Rattle.pbx_desc_records.specs.declared.enumeration.EnumDescriptorProto.{EnumDescriptorProto}
use Rattle.pbx_desc_records.specs.declared.field.FieldDescriptorProto.{FieldDescriptorProto}
use Rattle.pbx_desc_records.specs.declared.message.DescriptorProto.{DescriptorProto}
use Rattle.pbx_link_definitions.specs.Definitions.{Part, messages, message_name, enum_name, fields_in}
use Rattle.pbx_link_definitions.specs.Says.{is_number, is_repeated, is_entry, is_proto3, own_fields}
use Rattle.pbx_link_scope.specs.Pooled.{by_file}
use Rattle.pbx_link_pool.specs.Places.{place_with_file}
use Rattle.pbx_link_pool.proofs.Found.{told_from, stands_at, no_place}
use Rattle.pbx_link_meaning.specs.Descriptors.{Described, described, all_parts, message_of_name, message_referred, referred, is_entry_described, fields_of_message, with_number}
use Rattle.pbx_link_meaning.specs.Shapes.{place_of_message, kind_of, part_kind, entry_kind, value_kind, cardinality_of, entry_place, field_shape, extension_shape, value_shape, enum_shape}
use Rattle.pbx_link_shapes.specs.declared.kinds.FieldType.{FieldType}
use Rattle.pbx_link_shapes.specs.Items.{message_item, item_at, item_kind, if_entry, entry_of, item_kind_if, item_numbered, item_entry_kind, value_kind_by, cardinality_by, entry_place_by, item_type, item_shape, part_shape, item_value, part_enum}
use Rattle.pbx_link_meaning.proofs.DescribedLists.{File, parts_back}
use Rattle.pbx_link_shapes.proofs.Lists.{find_mapped, items_of_parts, mapped_items, has_pool}

-- ---- the message that a reference names

module _ {X : Type 0} (tell : File → List (Part X)) (test : Part X → Bool) where
  without_number : (k : ℕ) (files : List File) → map (λ (m : ℕ × Part X). m.1) (told_from tell k files) ≡ flat_map tell files
  without_number k [] = refl
  without_number k (f ∷ fs) = joined k (tell f) (told_from tell (k + 1) fs) ∙ ap (λ (ps : List (Part X)). tell f ++ ps) (without_number (k + 1) fs)
    where
      joined : (n : ℕ) (ps : List (Part X)) (ms : List (ℕ × Part X))
          → map (λ (m : ℕ × Part X). m.1) (map (λ x. (n, x)) ps ++ ms) ≡ ps ++ map (λ (m : ℕ × Part X). m.1) ms
      joined n [] ms = refl
      joined n (p ∷ ps) ms = ap (λ (qs : List (Part X)). p ∷ qs) (joined n ps ms)

  -- found beside the pool and beside the number of the file it is one part
  found_alike : (pool : List File)
      → option_map (λ (d : Described X). d.part) (find (λ (d : Described X). test d.part) (all_parts tell pool))
      ≡ option_map (λ (m : ℕ × Part X). m.1) (find (λ (m : ℕ × Part X). test m.1) (by_file tell pool))
  found_alike pool =
      sym (find_mapped test (λ (d : Described X). d.part) (all_parts tell pool)) ∙ ap (find test) (parts_back pool tell pool)
      ∙ sym (ap (find test) (without_number 0 pool)) ∙ find_mapped test (λ (m : ℕ × Part X). m.1) (told_from tell 0 pool)

item_of_part : (o : Option (Described DescriptorProto)) (p : Option (Part DescriptorProto)) → option_map (λ (d : Described DescriptorProto). d.part) o ≡ p
    → option_map (λ (d : Described DescriptorProto). d.part.item) o ≡ option_map (λ (m : Part DescriptorProto). m.item) p
item_of_part None p e = ap (option_map (λ (m : Part DescriptorProto). m.item)) e
item_of_part (Some d) p e = ap (option_map (λ (m : Part DescriptorProto). m.item)) e

module _ (pool : List File) (name : Option (List ℕ)) (q : List ℕ) (named : Some q ≡ referred name) where
  named_item : message_item pool name ≡ option_map (λ (d : Described DescriptorProto). d.part.item) (message_of_name pool q)
  unfolding message_item
  named_item = ap (λ (o : Option (List ℕ)). option_map (λ (d : Described DescriptorProto). d.part.item) (option_and_then (message_of_name pool) o)) (sym named)

  pub no_item : (o : Option (ℕ × ℕ)) → o ≡ place_with_file messages message_name pool q → o ≡ None → None ≡ message_item pool name
  no_item o is h =
      sym (named_item ∙ item_of_part (message_of_name pool q) None
      (found_alike messages (λ p. bytes_eq (message_name p) q) pool
      ∙ ap (option_map (λ (m : ℕ × Part DescriptorProto). m.1)) (sym (no_place messages message_name pool q (sym is ∙ h)))))

  pub item_there : (o : Option (ℕ × ℕ)) (i j : ℕ) → o ≡ place_with_file messages message_name pool q → o ≡ Some (i, j) → item_at pool i j ≡ message_item pool name
  unfolding item_at
  item_there o i j is h =
      let s = stands_at messages message_name pool q i j (sym is ∙ h) in
      ap (option_and_then (λ f. option_map (λ (p : Part DescriptorProto). p.item) (slice_get (messages f) j))) s.at
      ∙ ap (option_map (λ (p : Part DescriptorProto). p.item)) s.told
      ∙ sym (named_item ∙ item_of_part (message_of_name pool q) (Some s.part)
      (found_alike messages (λ p. bytes_eq (message_name p) q) pool ∙ ap (option_map (λ (m : ℕ × Part DescriptorProto). m.1)) s.found))

pub unnamed_item : (pool : List File) (name : Option (List ℕ)) → None ≡ referred name → None ≡ message_item pool name
unfolding message_item
unnamed_item pool name none = ap (λ (o : Option (List ℕ)). option_map (λ (d : Described DescriptorProto). d.part.item) (option_and_then (message_of_name pool) o)) none

-- ---- kinds

-- the message that is found has the pool
referred_pool : (pool : List File) (name : Option (List ℕ)) (m : Described DescriptorProto) → message_referred pool name ≡ Some m → m.pool ≡ pool
referred_pool pool name m h = at (referred name) h
  where
    at : (o : Option (List ℕ)) → option_and_then (message_of_name pool) o ≡ Some m → m.pool ≡ pool
    at None e = absurd (cc)
    at (Some q) e = has_pool pool messages (λ (d : Described DescriptorProto). bytes_eq (message_name d.part) q) pool m e

kind_if : (pool : List File) (f : File) (o : Option (Part FieldDescriptorProto))
    → part_kind (option_map (described pool f) o) ≡ item_kind_if pool (option_map (λ (p : Part FieldDescriptorProto). p.item) o)
unfolding item_kind
kind_if pool f None = refl
kind_if pool f (Some p) = refl

-- a field of an entry
in_entry : (n : ℕ) (m : Described DescriptorProto) → part_kind (with_number (fields_of_message m) n) ≡ item_entry_kind m.pool n m.part.item
unfolding item_entry_kind
in_entry n m =
    let ps : List (Part FieldDescriptorProto) = fields_in m.part in
    ap part_kind (find_mapped (λ (x : Described FieldDescriptorProto). is_number x.part.item.number n) (described m.pool m.file) ps)
    ∙ kind_if m.pool m.file (find (λ (p : Part FieldDescriptorProto). is_number p.item.number n) ps)
    ∙ ap (item_kind_if m.pool)
    (sym (find_mapped (λ (x : FieldDescriptorProto). is_number x.number n) (λ (p : Part FieldDescriptorProto). p.item) ps)
    ∙ ap (item_numbered n) (items_of_parts (message_name m.part) m.part.place 2 (own_fields m.part.item)))

module _ (pool : List File) (f : File) (p : Part FieldDescriptorProto) where
  abbrev item : FieldDescriptorProto
  item = p.item

  abbrev type : Option (Described DescriptorProto)
  type = message_referred pool item.type_name

  abbrev entry : Bool → Option (Described DescriptorProto) → Option DescriptorProto
  entry r o = if r then if_entry (option_map (λ (d : Described DescriptorProto). d.part.item) o) else None

  value_by : (r : Bool) (o : Option (Described DescriptorProto)) → ((m : Described DescriptorProto) → o ≡ Some m → m.pool ≡ pool)
      → (if (r && is_entry_described o) then entry_kind 2 o else kind_of (described pool f p)) ≡ value_kind_by pool item (entry r o)
  unfolding item_kind
  value_by false o h = refl
  value_by true None h = refl
  value_by true (Some m) h = at (is_entry m.part.item)
    where
      at : (b : Bool) → (if b then part_kind (with_number (fields_of_message m) 2) else kind_of (described pool f p))
          ≡ value_kind_by pool item (if b then Some m.part.item else None)
      at true = in_entry 2 m ∙ ap (λ (fs : List File). item_entry_kind fs 2 m.part.item) (h m refl)
      at false = refl

  cardinality_at : (r : Bool) (o : Option (Described DescriptorProto)) → is_repeated item ≡ r → ((m : Described DescriptorProto) → o ≡ Some m → m.pool ≡ pool)
      → (if (r && is_entry_described o) then Map (entry_kind 1 o) else (if r then Repeated else Singular)) ≡ cardinality_by pool item (entry r o)
  cardinality_at false o w h = sym (ap (λ (b : Bool). if b then Repeated else Singular) w)
  cardinality_at true None w h = sym (ap (λ (b : Bool). if b then Repeated else Singular) w)
  cardinality_at true (Some m) w h = at (is_entry m.part.item)
    where
      at : (b : Bool) → (if b then Map (part_kind (with_number (fields_of_message m) 1)) else Repeated) ≡ cardinality_by pool item (if b then Some m.part.item else None)
      at true = ap Map (in_entry 1 m ∙ ap (λ (fs : List File). item_entry_kind fs 1 m.part.item) (h m refl))
      at false = sym (ap (λ (b : Bool). if b then Repeated else Singular) w)

  entry_at : (r : Bool) (o : Option (Described DescriptorProto))
      → (if (r && is_entry_described o) then Some (place_of_message pool item.type_name) else None) ≡ entry_place_by pool item (entry r o)
  entry_at false o = refl
  entry_at true None = refl
  entry_at true (Some m) = at (is_entry m.part.item)
    where
      at : (b : Bool) → (if b then Some (place_of_message pool item.type_name) else None) ≡ entry_place_by pool item (if b then Some m.part.item else None)
      at true = refl
      at false = refl

  abbrev typed : FieldType
  typed = record { kind = value_kind (described pool f p); cardinality = cardinality_of (described pool f p); entry = entry_place (described pool f p) }

  type_same : typed ≡ item_type pool item
  unfolding item_type entry_of message_item
  type_same =
      ap (λ (k : Kind). record typed { kind = k }) (value_by (is_repeated item) type (referred_pool pool item.type_name))
      ∙ ap (λ (c : Cardinality). record typed { kind = value_kind_by pool item (entry_of pool item); cardinality = c })
      (cardinality_at (is_repeated item) type refl (referred_pool pool item.type_name))
      ∙ ap (λ (e : Option ℕ).
      record { kind = value_kind_by pool item (entry_of pool item); cardinality = cardinality_by pool item (entry_of pool item); entry = e })
      (entry_at (is_repeated item) type)

  pub field_same : field_shape (described pool f p) ≡ item_shape pool (is_proto3 f) item
  unfolding item_shape
  field_same = ap (λ (t : FieldType). record (field_shape (described pool f p)) { kind = t.kind; cardinality = t.cardinality; entry = t.entry }) type_same

  pub extension_same : extension_shape (described pool f p) ≡ part_shape pool (is_proto3 f) p
  unfolding part_shape
  extension_same = ap (λ (t : FieldType). record (extension_shape (described pool f p)) { kind = t.kind; cardinality = t.cardinality; entry = t.entry }) type_same

pub enum_same : (pool : List File) (f : File) (p : Part EnumDescriptorProto) → enum_shape (described pool f p) ≡ part_enum p
unfolding part_enum
enum_same pool f p =
    ap (λ vs. record { full_name = enum_name p; values = vs })
    (mapped_items pool f value_shape item_value (λ v. refl) _ ∙ ap (map item_value) (items_of_parts p.scope p.place 2 p.item.value))
