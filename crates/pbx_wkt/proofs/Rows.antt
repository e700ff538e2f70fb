-- Rows, told by descriptors and by the shape.
use Rattle.std.proofs.Common.{◌≡◌, ◌∙◌, ◌⊎◌, inl, inr, ℕ, ◌+◌, ◌==◌, ◌&&◌, length, map, List, ◌++◌, Bool, true, false, Option, Some, None}
use Rattle.std.proofs.Common.{refl, ap, sym, subst, arith, length-append}
use Rattle.std.specs.Prelude.{ℤ, pos, negsuc, Contains, is_some}
use Rattle.std.specs.List.{list_all}
use Rattle.std.proofs.lemmas.Bool.Decides.{nat_tests}
use Rattle.std.proofs.lemmas.List.{length-map}
use Rattle.std.specs.Str.{bytes_eq}
use Rattle.pbx_wire.specs.Text.{is_record_number}
use Rattle.pbx_content.specs.declared.shape.FieldShape.{FieldShape}
use Rattle.pbx_content.specs.declared.shape.Shape.{Shape}
use Rattle.pbx_content.specs.Shape.{declared_of, fields_of, field_of}
use Rattle.pbx_desc_records.specs.declared.field.FieldDescriptorProto.{FieldDescriptorProto}
use Rattle.pbx_desc_records.specs.declared.message.DescriptorProto.{DescriptorProto}
use Rattle.pbx_link_definitions.specs.Names.{text_or_empty}
use Rattle.pbx_link_definitions.specs.Says.{is_number, number_or_zero}
use Rattle.pbx_link_meaning.specs.Descriptors.{Described, fields_of_message, extensions_of_message, with_number, number_of_field, has_presence}
use Rattle.pbx_link_meaning.specs.Shapes.{field_shape, extension_shape, shape_of, place_of, value_kind, cardinality_of, index_if}
use Rattle.pbx_link_meaning.proofs.Numbers.{number_is}
use Rattle.pbx_link_meaning.proofs.PoolParts.{found_there}
use Rattle.pbx_link_meaning.proofs.ValidNumbers.{numbers_are_valid}
use Rattle.pbx_message_laws.specs.Pools.{IsPooled, IsShapeOf}
use Rattle.pbx_message_laws.proofs.Listed.{listed_is_declared}
use Rattle.pbx_message_laws.proofs.Members.{passes_at}
use Rattle.pbx_message_laws.proofs.Placed.{message_is_placed, field_is_listed, listed_is_field}
use Rattle.pbx_wkt_types.specs.Known.{Row}
use Rattle.pbx_wkt_types.specs.Shapes.{same_cardinality, has_sort, same_oneof, has_member_presence}
use Rattle.pbx_wkt_types.specs.Shapes.{is_row as is_shape_row, is_row_there as is_shape_row_there, has_row as has_shape_row, has_rows as has_shape_rows}
use Rattle.pbx_wkt.specs.Kinds.{has_sort_if, value_told}
use Rattle.pbx_wkt.specs.Told.{has_oneof, is_row, is_row_there, has_row, has_rows}
use Rattle.pbx_wkt.proofs.Lists.{and_true, and_false, passes, found, all_same}
use Rattle.pbx_wkt.proofs.Oneofs.{oneof_alike}
use Rattle.pbx_wkt.proofs.Values.{value_alike, cardinality_alike}

valid_number : (o : Option ℤ) (n : ℕ) → number_or_zero o ≡ n → is_record_number n ≡ true → is_number o n ≡ true
valid_number None n e h = absurd (let bad : is_record_number 0 ≡ true = ap is_record_number e ∙ h in cc)
valid_number (Some (negsuc m)) n e h = absurd (let bad : is_record_number 0 ≡ true = ap is_record_number e ∙ h in cc)
valid_number (Some (pos m)) n e h = grind (arith, nat_tests, e)

module _ (d : Described DescriptorProto) (of : IsPooled d) where
  abbrev shape : Shape
  shape = shape_of d.pool

  abbrev t : ℕ
  t = place_of d

  abbrev has_it : ℕ → Described FieldDescriptorProto → Bool
  has_it n z = is_number z.part.item.number n

  -- ---- one field

  field_alike : (x : Described FieldDescriptorProto) → Contains (fields_of_message d) x → (r : Row) → is_row d r x ≡ is_shape_row shape r (field_shape x)
  field_alike x c r =
      let named : Bool = bytes_eq r.name (text_or_empty x.part.item.name) && bytes_eq r.json_name (text_or_empty x.part.item.json_name) in
      let last : Bool = has_member_presence r.oneof (has_presence x) in
      ap (λ (b : Bool). named && b && has_sort_if r.sort (value_told x) && has_oneof d r.oneof x && last) (cardinality_alike d of x c r.cardinality)
      ∙ ap (λ (b : Bool). named && same_cardinality r.cardinality (cardinality_of x) && b && has_oneof d r.oneof x && last) (value_alike d of x c r.sort)
      ∙ ap (λ (b : Bool). named && same_cardinality r.cardinality (cardinality_of x) && has_sort shape r.sort (value_kind x) && b && last)
      (oneof_alike d of x c r.oneof)
      ∙ ap (λ (b : Bool). b && last)
      (sym (and_true (named && same_cardinality r.cardinality (cardinality_of x) && has_sort shape r.sort (value_kind x)
      && same_oneof r.oneof (index_if x.part.item.oneof_index))))

  pub found_listed : (n : ℕ) (x : Described FieldDescriptorProto) → with_number (fields_of_message d) n ≡ Some x
      → Contains (fields_of_message d) x × (field_of n (fields_of shape t) ≡ Some (field_shape x))
  found_listed n x e =
      let c = found_there (has_it n) (fields_of_message d) x e in
      let is : number_of_field x ≡ n = ap number_or_zero (number_is x.part.item.number n (passes (has_it n) (fields_of_message d) x e)) in
      (c, ap (λ (k : ℕ). field_of k (fields_of shape t)) (sym is) ∙ field_is_listed d x of c)

  -- a number that no field has is that of no field of the shape, or of an extension
  not_own : (r : Row) → with_number (fields_of_message d) r.number ≡ None → false ≡ has_shape_row shape t r
  not_own r none = at (field_of r.number (fields_of shape t)) refl
    where
      none_there : (f : FieldShape) → field_of r.number (fields_of shape t) ≡ Some f → IsShapeOf field_shape (fields_of_message d) r.number f → ⊥
      none_there f e s =
          let own = listed_is_declared shape t r.number f e in
          let valid : is_record_number f.number ≡ true =
          passes_at (λ (g : FieldShape). is_record_number g.number) (declared_of shape t) f (numbers_are_valid d.pool of.pooled t) own.0 in
          let number : is_number s.descriptor.part.item.number r.number ≡ true =
          valid_number s.descriptor.part.item.number r.number s.number (ap is_record_number (sym own.1) ∙ valid) in
          let bad : false ≡ true =
          sym (ap (λ (o : Option (Described FieldDescriptorProto)). is_some o) none) ∙ found (has_it r.number) (fields_of_message d) s.descriptor s.within number in
          cc

      extension_differs : (y : Described FieldDescriptorProto) → false ≡ is_shape_row shape r (extension_shape y)
      extension_differs y = sym (and_false _ _)

      by : (f : FieldShape) → field_of r.number (fields_of shape t) ≡ Some f
          → IsShapeOf field_shape (fields_of_message d) r.number f ⊎ IsShapeOf extension_shape (extensions_of_message d) r.number f
          → false ≡ is_shape_row shape r f
      by f e (inl s) = absurd (none_there f e s)
      by f e (inr s) = subst (λ (g : FieldShape). false ≡ is_shape_row shape r g) s.shape (extension_differs s.descriptor)

      at : (o : Option FieldShape) → field_of r.number (fields_of shape t) ≡ o → false ≡ is_shape_row_there shape r o
      at None e = refl
      at (Some f) e = by f e (listed_is_field d r.number f of e)

  row_alike : (r : Row) → has_row d r ≡ has_shape_row shape t r
  unfolding has_row
  row_alike r = at (with_number (fields_of_message d) r.number) refl
    where
      at : (o : Option (Described FieldDescriptorProto)) → with_number (fields_of_message d) r.number ≡ o → is_row_there d r o ≡ has_shape_row shape t r
      at None e = not_own r e
      at (Some x) e =
          let own = found_listed r.number x e in
          field_alike x own.0 r ∙ sym (ap (is_shape_row_there shape r) own.1)

  -- ---- all fields

  count_alike : length (fields_of_message d) + length (extensions_of_message d) ≡ length (declared_of shape t)
  count_alike =
      let fs : List FieldShape = map field_shape (fields_of_message d) in
      let es : List FieldShape = map extension_shape (extensions_of_message d) in
      let whole : length (declared_of shape t) ≡ length (fs ++ es) = ap (λ (gs : List FieldShape). length gs) (message_is_placed d of).declared in
      omega (arith, whole, length-append fs es, length-map (fields_of_message d) field_shape, length-map (extensions_of_message d) extension_shape)

  pub rows_alike : (rs : List Row) → has_rows d rs ≡ has_shape_rows shape t rs
  unfolding has_rows
  rows_alike rs =
      ap (λ (n : ℕ). (n == length rs) && list_all (has_row d) rs) count_alike
      ∙ ap (λ (b : Bool). (length (declared_of shape t) == length rs) && b) (all_same (has_row d) (has_shape_row shape t) row_alike rs)
