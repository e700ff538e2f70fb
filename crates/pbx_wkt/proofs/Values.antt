-- What one value of a field is, and how many there are, told by descriptors and by the shape.
use Rattle.std.proofs.Common.{◌≡◌, ◌∙◌, ℕ, ◌&&◌, if◌then◌else◌, not, List, Bool, true, false, Option, Some, None, refl, ap, sym, subst}
use Rattle.std.specs.Prelude.{Contains}
use Rattle.pbx_content.specs.declared.shape.Kind.TheVariants as kind
use Rattle.pbx_content.specs.declared.shape.Cardinality.{Cardinality}
use Rattle.pbx_content.specs.declared.shape.Cardinality.TheVariants.{Singular, Repeated, Map}
use Rattle.pbx_desc_records.specs.declared.field.FieldDescriptorProto.{FieldDescriptorProto}
use Rattle.pbx_desc_records.specs.declared.file.FileDescriptorProto.{FileDescriptorProto}
use Rattle.pbx_desc_records.specs.declared.message.DescriptorProto.{DescriptorProto}
use Rattle.pbx_link_definitions.specs.Definitions.{messages}
use Rattle.pbx_link_definitions.specs.Says.{is_number, is_repeated}
use Rattle.pbx_link_meaning.specs.Descriptors.{Described, fields_of_message, with_number, message_referred, is_entry_described, is_map}
use Rattle.pbx_link_meaning.specs.Shapes.{kind_of, part_kind, entry_kind, type_of_field, value_kind, cardinality_of, place_of_message, shape_of}
use Rattle.pbx_link_meaning.proofs.Lists.{both_parts, is_told}
use Rattle.pbx_link_meaning.proofs.PoolParts.{found_there}
use Rattle.pbx_message_laws.specs.Pools.{IsPooled}
use Rattle.pbx_message_laws.specs.Types.{IsTypeAt}
use Rattle.pbx_message_laws.proofs.Typed.{referred_has_place}
use Rattle.pbx_link.specs.declared.kind.Kind.{Kind as Answer}
use Rattle.pbx_link.specs.declared.kind.Kind.TheVariants as answers
use Rattle.pbx_link.specs.Kinds.{described_kind, kind_in}
use Rattle.pbx_wkt_types.specs.Known.{Sort, scalar}
use Rattle.pbx_wkt_types.specs.Shapes.{has_sort, same_cardinality}
use Rattle.pbx_wkt.specs.Kinds.{has_sort_if, part_told, entry_told, value_told}
use Rattle.pbx_wkt.specs.Told.{has_cardinality}
use Rattle.pbx_wkt.proofs.Lists.{some_is}
use Rattle.pbx_wkt.proofs.Places.{field_stands}
use Rattle.pbx_wkt.proofs.Alike.{floats_alike, sorts_alike, record_alike, is_message, kind_there}
use Rattle.pbx_wkt.proofs.Rules.{fields_are_ruled}

-- the kind of a field, of a map that of the entry
plain_alike : (d : Described DescriptorProto) → IsPooled d → (x : Described FieldDescriptorProto) → Contains (fields_of_message d) x → (s : Sort)
    → has_sort_if s (described_kind x) ≡ has_sort (shape_of d.pool) s (kind_of x)
plain_alike d of x c s =
    let t = field_stands d of x c in
    let m = t.message in
    let k = some_is (kind_in d.pool t.part.item) (kind_there d.pool of.pooled m.file m.held m.part m.there t.part t.there) in
    subst (λ (z : Described FieldDescriptorProto). has_sort_if s (described_kind z) ≡ has_sort (shape_of d.pool) s (kind_of z)) t.is
    (ap (has_sort_if s) k.1 ∙ record_alike d.pool of.pooled t.part.item k.0 k.1 s)

-- ---- maps

-- the entry of a map, as the descriptor answers it and as the shape has it
pub record IsMapOf (pool : List FileDescriptorProto) (x : Described FieldDescriptorProto) : Type 0 where
  pub entry : Described DescriptorProto
  pub kind : described_kind x ≡ Some (answers.Message entry)
  pub type : type_of_field x ≡ Some entry
  pub at : IsTypeAt pool (place_of_message pool x.part.item.type_name) entry

entry_there : (o : Option (Described DescriptorProto)) → is_entry_described o ≡ true → (m : Described DescriptorProto) × (o ≡ Some m)
entry_there None e = absurd cc
entry_there (Some m) e = (m, refl)

pub map_entry : (d : Described DescriptorProto) → IsPooled d → (x : Described FieldDescriptorProto) → Contains (fields_of_message d) x → is_map x ≡ true
    → IsMapOf d.pool x
map_entry d of x c e =
    let t = field_stands d of x c in
    let m = t.message in
    let item : FieldDescriptorProto = t.part.item in
    let k = some_is (kind_in d.pool item) (kind_there d.pool of.pooled m.file m.held m.part m.there t.part t.there) in
    let ruled = fields_are_ruled d.pool of.pooled m.part (is_told messages d.pool m.file m.part m.held m.there) t.part t.there in
    let map : (is_repeated item && is_entry_described (message_referred d.pool item.type_name)) ≡ true =
    ap (λ (z : Described FieldDescriptorProto). is_map z) t.is ∙ e in
    let own = entry_there (message_referred d.pool item.type_name) (both_parts (is_repeated item) _ map).1 in
    subst (IsMapOf d.pool) t.is
    (record {
      entry = own.0;
      kind = k.1 ∙ ap (λ (a : Answer). Some a) (is_message d.pool of.pooled item k.0 own.0 ruled.typed own.1 k.1);
      type = own.1;
      at = referred_has_place d.pool item.type_name own.0 of.pooled own.1;
    })

part_alike : (d : Described DescriptorProto) → IsPooled d → (x : Described FieldDescriptorProto) → Contains (fields_of_message d) x → is_map x ≡ true
    → (n : ℕ) (s : Sort) → has_sort_if s (entry_told n (described_kind x)) ≡ has_sort (shape_of d.pool) s (entry_kind n (type_of_field x))
part_alike d of x c e n s =
    let m = map_entry d of x c e in
    ap (λ (o : Option Answer). has_sort_if s (entry_told n o)) m.kind ∙ at m.entry m.at.pooled m.at.pool (with_number (fields_of_message m.entry) n) refl
    ∙ sym (ap (λ (o : Option (Described DescriptorProto)). has_sort (shape_of d.pool) s (entry_kind n o)) m.type)
  where
    at : (m : Described DescriptorProto) → IsPooled m → m.pool ≡ d.pool → (o : Option (Described FieldDescriptorProto))
        → with_number (fields_of_message m) n ≡ o → has_sort_if s (part_told o) ≡ has_sort (shape_of d.pool) s (part_kind o)
    at m by same None is = sorts_alike (shape_of d.pool) answers.Float kind.Float floats_alike s
    at m by same (Some y) is =
        plain_alike m by y (found_there (λ (z : Described FieldDescriptorProto). is_number z.part.item.number n) (fields_of_message m) y is) s
        ∙ ap (λ (fs : List FileDescriptorProto). has_sort (shape_of fs) s (kind_of y)) same

-- ---- fields

module _ (d : Described DescriptorProto) (of : IsPooled d) (x : Described FieldDescriptorProto) (c : Contains (fields_of_message d) x) where
  pub value_alike : (s : Sort) → has_sort_if s (value_told x) ≡ has_sort (shape_of d.pool) s (value_kind x)
  value_alike s = at (is_map x) refl
    where
      at : (b : Bool) → is_map x ≡ b
          → has_sort_if s (if b then entry_told 2 (described_kind x) else described_kind x)
          ≡ has_sort (shape_of d.pool) s (if b then entry_kind 2 (type_of_field x) else kind_of x)
      at true e = part_alike d of x c e 2 s
      at false e = plain_alike d of x c s

  pub cardinality_alike : (a : Cardinality) → has_cardinality a x ≡ same_cardinality a (cardinality_of x)
  cardinality_alike Singular = at (is_map x) (is_repeated x.part.item)
    where
      at : (b r : Bool) → (not b && not (r && not b)) ≡ same_cardinality Singular (if b then Map (entry_kind 1 (type_of_field x)) else (if r then Repeated else Singular))
      at true r = refl
      at false true = refl
      at false false = refl
  cardinality_alike Repeated = at (is_map x) (is_repeated x.part.item)
    where
      at : (b r : Bool) → (r && not b) ≡ same_cardinality Repeated (if b then Map (entry_kind 1 (type_of_field x)) else (if r then Repeated else Singular))
      at true true = refl
      at true false = refl
      at false true = refl
      at false false = refl
  cardinality_alike (Map k) = at (is_map x) (is_repeated x.part.item) refl
    where
      at : (b r : Bool) → is_map x ≡ b
          → (b && has_sort_if (scalar k) (entry_told 1 (described_kind x)))
          ≡ same_cardinality (Map k) (if b then Map (entry_kind 1 (type_of_field x)) else (if r then Repeated else Singular))
      at true r e = part_alike d of x c e 1 (scalar k)
      at false true e = refl
      at false false e = refl
