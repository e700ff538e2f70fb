-- The shape of a message, told by its descriptor and by the shape of its pool.
use Rattle.std.proofs.Common.{◌≡◌, ◌∙◌, ℕ, ◌+◌, ◌&&◌, ◌==◌, not, if◌then◌else◌, length, List, [], ◌∷◌, Bool, true, false, codes, Option, Some, None, refl, ap, sym}
use Rattle.std.specs.Prelude.{Contains, is_some}
use Rattle.std.specs.List.{list_all, AllByRecursion}
use Rattle.std.specs.Str.{bytes_eq}
use Rattle.pbx_content.specs.Shape.{fields_of, field_of}
use Rattle.pbx_content.specs.declared.shape.Cardinality.TheVariants.{Map}
use Rattle.pbx_content.specs.declared.shape.Kind.TheVariants as kind
use Rattle.pbx_content.specs.declared.shape.Shape.{Shape}
use Rattle.pbx_desc_records.specs.declared.field.FieldDescriptorProto.{FieldDescriptorProto}
use Rattle.pbx_desc_records.specs.declared.file.FileDescriptorProto.{FileDescriptorProto}
use Rattle.pbx_desc_records.specs.declared.message.DescriptorProto.{DescriptorProto}
use Rattle.pbx_link_definitions.specs.Definitions.{message_name}
use Rattle.pbx_link_definitions.specs.Says.{is_proto3}
use Rattle.pbx_link_meaning.specs.Descriptors.{Described, all_messages, fields_of_message, extensions_of_message, with_number, is_map}
use Rattle.pbx_link_meaning.specs.Shapes.{shape_of, place_of, place_of_message}
use Rattle.pbx_link_meaning.proofs.Lists.{both_parts}
use Rattle.pbx_message_laws.specs.Pools.{IsPooled}
use Rattle.pbx_message_laws.proofs.Placed.{message_is_placed}
use Rattle.pbx_link.specs.Kinds.{described_kind}
use Rattle.pbx_wkt_types.specs.declared.form.Form.{Form}
use Rattle.pbx_wkt_types.specs.declared.form.Form.TheVariants as forms
use Rattle.pbx_wkt_types.specs.Types.{message_name as shape_name}
use Rattle.pbx_wkt_types.specs.Known.{Row, Known, google, message, several, known_types, known_of, struct_entry, struct_entry_name}
use Rattle.pbx_wkt_types.specs.Shapes.{is_proto3_at, form_of, form_by, is_misshapen, meets_shape, is_as_declared as is_shape_declared}
use Rattle.pbx_wkt_types.specs.Shapes.{has_rows as has_shape_rows, has_entry as has_shape_entry, has_struct_entry as has_shape_struct_entry, is_struct_entry as is_shape_struct_entry}
use Rattle.pbx_wkt_types.proofs.WellKnown.{found}
use Rattle.pbx_wkt.specs.Told.{has_row, is_row_there, has_rows, is_struct_entry, has_struct_entry, has_entry, is_as_declared, has_shape, has_shape_by}
use Rattle.pbx_wkt.proofs.Lists.{and_same}
use Rattle.pbx_wkt.proofs.Places.{message_named, message_proto3, field_stands}
use Rattle.pbx_wkt.proofs.Rows.{found_listed, rows_alike}
use Rattle.pbx_wkt.proofs.Values.{IsMapOf, map_entry}

-- ---- the types of the table

-- a row of the number 1 is among the rows
abbrev HasFirst : List Row → Type 0
HasFirst rs = (p : Row → Bool) → list_all p rs ≡ true → (r : Row) × (r.number ≡ 1) × (p r ≡ true)

-- the form is that of a well-known type, and `Struct` has a first field
abbrev IsSound : Known → Type 0
IsSound k = (is_misshapen k.form ≡ false) × (k.form ≡ forms.Struct → HasFirst k.rows)

struct_first : HasFirst (several 1 (codes "fields") (message (google (codes "Value"))) (Map kind.String) ∷ [])
struct_first p e = (several 1 (codes "fields") (message (google (codes "Value"))) (Map kind.String), refl, (both_parts _ true e).0)

each_sound : AllByRecursion IsSound known_types
each_sound = (
  (refl, λ e. absurd cc),
  (
    (refl, λ e. absurd cc),
    (
      (refl, λ e. absurd cc),
      (
        (refl, λ e. struct_first),
        (
          (refl, λ e. absurd cc),
          (
            (refl, λ e. absurd cc),
            (
              (refl, λ e. absurd cc),
              (
                (refl, λ e. absurd cc),
                (
                  (refl, λ e. absurd cc),
                  (
                    (refl, λ e. absurd cc),
                    (
                      (refl, λ e. absurd cc),
                      (
                        (refl, λ e. absurd cc),
                        ((refl, λ e. absurd cc), ((refl, λ e. absurd cc), ((refl, λ e. absurd cc), ((refl, λ e. absurd cc), ((refl, λ e. absurd cc), tt))))),
                      ),
                    ),
                  ),
                ),
              ),
            ),
          ),
        ),
      ),
    ),
  ),
)

known_sound : (q : List ℕ) (k : Known) → known_of q ≡ Some k → IsSound k
unfolding known_of
known_sound q k is = found IsSound (λ (k : Known). bytes_eq k.name q) known_types k is each_sound

-- ---- a message of a pool

module _ (d : Described DescriptorProto) (of : IsPooled d) where
  abbrev shape : Shape
  shape = shape_of d.pool

  abbrev t : ℕ
  t = place_of d

  -- ---- the entry of `Struct`

  map_alike : (x : Described FieldDescriptorProto) (m : IsMapOf d.pool x)
      → is_struct_entry (described_kind x) ≡ is_shape_struct_entry shape (Some (place_of_message d.pool x.part.item.type_name))
  map_alike x m =
      let e : Described DescriptorProto = m.entry in
      let place : ℕ = place_of_message d.pool x.part.item.type_name in
      ap is_struct_entry m.kind
      ∙ ap (λ (q : List ℕ). bytes_eq q struct_entry_name && has_rows e struct_entry) (sym (message_named (all_messages d.pool) place e m.at.at))
      ∙ ap (λ (b : Bool). bytes_eq (shape_name shape place) struct_entry_name && b)
      (rows_alike e m.at.pooled struct_entry ∙ ap (λ (fs : List FileDescriptorProto). has_shape_rows (shape_of fs) (place_of e) struct_entry) m.at.pool
      ∙ ap (λ (n : ℕ). has_shape_rows shape n struct_entry) m.at.place)

  struct_alike : (o : Option (Described FieldDescriptorProto)) → with_number (fields_of_message d) 1 ≡ o → is_some o ≡ true
      → has_struct_entry o ≡ has_shape_struct_entry shape (field_of 1 (fields_of shape t))
  struct_alike None is e = absurd cc
  struct_alike (Some x) is e =
      let own = found_listed d of 1 x is in
      at own.0 (is_map x) refl ∙ sym (ap (has_shape_struct_entry shape) own.1)
    where
      at : Contains (fields_of_message d) x → (b : Bool) → is_map x ≡ b
          → (b && is_struct_entry (described_kind x))
          ≡ is_shape_struct_entry shape (if b then Some (place_of_message x.pool x.part.item.type_name) else None)
      at c true w =
          let pools : d.pool ≡ x.pool = ap (λ (z : Described FieldDescriptorProto). z.pool) (field_stands d of x c).is in
          map_alike x (map_entry d of x c w)
          ∙ ap (λ (fs : List FileDescriptorProto). is_shape_struct_entry shape (Some (place_of_message fs x.part.item.type_name))) pools
      at c false w = refl

  entry_alike : (form : Form) → (form ≡ forms.Struct → is_some (with_number (fields_of_message d) 1) ≡ true) → has_entry d form ≡ has_shape_entry shape t form
  entry_alike forms.Struct h = struct_alike (with_number (fields_of_message d) 1) refl (h refl)
  entry_alike _ h = refl

  -- ---- the whole

  row_there : (r : Row) → r.number ≡ 1 → has_row d r ≡ true → is_some (with_number (fields_of_message d) 1) ≡ true
  unfolding has_row
  row_there r one e =
      ap (λ (n : ℕ). is_some (with_number (fields_of_message d) n)) (sym one) ∙ at (with_number (fields_of_message d) r.number) e
    where
      at : (o : Option (Described FieldDescriptorProto)) → is_row_there d r o ≡ true → is_some o ≡ true
      at None e = absurd cc
      at (Some x) e = refl

  first_there : (k : Known) → IsSound k → has_rows d k.rows ≡ true → k.form ≡ forms.Struct → is_some (with_number (fields_of_message d) 1) ≡ true
  unfolding has_rows
  first_there k sound e form =
      let r = sound.1 form (has_row d) (both_parts (length (fields_of_message d) + length (extensions_of_message d) == length k.rows) _ e).1 in
      row_there r.0 r.1 r.2

  declared_alike : (k : Known) → IsSound k → is_as_declared d k ≡ is_shape_declared shape t k
  unfolding is_as_declared is_shape_declared
  declared_alike k sound =
      let proto3 : is_proto3 d.file ≡ is_proto3_at shape.messages t = sym (message_proto3 (all_messages d.pool) t d (message_is_placed d of).at) in
      and_same (is_proto3 d.file && has_rows d k.rows) (has_entry d k.form) (has_shape_entry shape t k.form)
      (λ e. entry_alike k.form (first_there k sound (both_parts (is_proto3 d.file) (has_rows d k.rows) e).1))
      ∙ ap (λ (b : Bool). b && has_rows d k.rows && has_shape_entry shape t k.form) proto3
      ∙ ap (λ (b : Bool). is_proto3_at shape.messages t && b && has_shape_entry shape t k.form) (rows_alike d of k.rows)

  -- the descriptor tells what the shape says
  pub shape_alike : has_shape d ≡ meets_shape shape t
  unfolding has_shape form_of
  shape_alike =
      let q : List ℕ = message_name d.part in
      at q (known_of q) refl
      ∙ ap (λ (n : List ℕ). not (is_misshapen (form_by shape t (known_of n)))) (sym (message_named (all_messages d.pool) t d (message_is_placed d of).at))
    where
      by : (k : Known) (b : Bool) → is_misshapen k.form ≡ false → b ≡ not (is_misshapen (if b then k.form else forms.Misshapen))
      by k true h = ap not (sym h)
      by k false h = refl

      at : (q : List ℕ) (o : Option Known) → known_of q ≡ o → has_shape_by d o ≡ not (is_misshapen (form_by shape t o))
      at q None is = refl
      at q (Some k) is =
          let sound = known_sound q k is in
          declared_alike k sound ∙ by k (is_shape_declared shape t k) sound.0
