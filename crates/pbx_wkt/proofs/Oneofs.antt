-- The oneof of a field, told by descriptors and by the shape.
use Rattle.std.proofs.Common.{◌≡◌, ◌∙◌, ℕ, ◌<◌, ◌==◌, ◌&&◌, List, length, Bool, true, false, Option, Some, None, refl, ap, sym, subst, arith}
use Rattle.std.specs.Prelude.{ℤ, pos, negsuc, Contains, is_none, option_map, option_and_then, slice_get}
use Rattle.std.specs.List.{list_any, enumerate_from}
use Rattle.std.proofs.lemmas.Bool.{eqb-true, ltb-true}
use Rattle.std.proofs.lemmas.Bool.Decides.{nat_tests}
use Rattle.std.proofs.lemmas.Option.{slice_get-map, slice_get_within}
use Rattle.pbx_content.specs.declared.shape.FieldShape.{FieldShape}
use Rattle.pbx_content.specs.Shape.{fields_of, field_of}
use Rattle.pbx_desc_records.specs.declared.field.FieldDescriptorProto.{FieldDescriptorProto}
use Rattle.pbx_desc_records.specs.declared.field.OneofDescriptorProto.{OneofDescriptorProto}
use Rattle.pbx_desc_records.specs.declared.file.FileDescriptorProto.{FileDescriptorProto}
use Rattle.pbx_desc_records.specs.declared.message.DescriptorProto.{DescriptorProto, out-DescriptorProto}
use Rattle.pbx_link_definitions.specs.Definitions.{Part, part, messages, message_name, fields_in, oneofs_in}
use Rattle.pbx_link_definitions.specs.Says.{is_number, own_fields}
use Rattle.pbx_link_rules.proofs.Types.{source, any_of}
use Rattle.pbx_link_meaning.specs.Descriptors.{Described, described, fields_of_message, number_of_field}
use Rattle.pbx_link_meaning.specs.Shapes.{index_if, field_shape, shape_of, place_of}
use Rattle.pbx_link_meaning.proofs.Lists.{both_parts, both_true, equal_is, is_told, passing}
use Rattle.pbx_link_meaning.proofs.Numbers.{number_is}
use Rattle.pbx_message_laws.specs.Pools.{IsPooled}
use Rattle.pbx_message_laws.proofs.Listed.{mapped}
use Rattle.pbx_message_laws.proofs.Placed.{field_is_listed}
use Rattle.pbx_link.specs.Tables.{part_at, no_oneof, index_of}
use Rattle.pbx_link.proofs.Parts.{part_there, length_parts}
use Rattle.pbx_link.proofs.Only.{oneof_is, members_are, part_scope, part_index}
use Rattle.pbx_wkt_types.specs.Shapes.{same_oneof}
use Rattle.pbx_wkt.specs.Told.{has_number, has_member, has_oneof}
use Rattle.pbx_wkt.proofs.Lists.{alike, any_filtered}
use Rattle.pbx_wkt.proofs.Places.{field_stands}
use Rattle.pbx_wkt.proofs.Rules.{is_within, fields_are_ruled}

same_number : (n : ℕ) → (n == n) ≡ true
same_number n = grind (arith, nat_tests)

module _ (pool : List FileDescriptorProto) (f : FileDescriptorProto) (held : Contains pool f) (p : Part DescriptorProto) (there : Contains (messages f) p)
    (of : IsPooled (described pool f p)) (y : Part FieldDescriptorProto) (inside : Contains (fields_in p) y) where
  abbrev decl : List OneofDescriptorProto
  decl = (out-DescriptorProto p.item).oneof_decl

  abbrev d : Described DescriptorProto
  d = described pool f p

  abbrev x : Described FieldDescriptorProto
  x = described pool f y

  within : is_within (length decl) y.item.oneof_index ≡ true
  within = (fields_are_ruled pool of.pooled p (is_told messages pool f p held there) y inside).within

  scoped : y.scope ≡ message_name p
  scoped =
      let s = source (λ (e : ℕ × FieldDescriptorProto). part (message_name p) p.place 2 e.0 e.1) (enumerate_from 0 (own_fields p.item)) y inside in
      ap (λ (q : Part FieldDescriptorProto). q.scope) (sym s.made)

  below : (i : ℕ) → i < length decl → i < length (oneofs_in p)
  below i lt = omega (arith, lt, length_parts (message_name p) p.place 8 decl)

  oneof_there : (i : ℕ) → i < length decl → slice_get (oneofs_in p) i ≡ Some (part_at no_oneof (oneofs_in p) i)
  oneof_there i lt = part_there no_oneof (oneofs_in p) i (below i lt)

  -- ---- a member of none

  none_alike : (n : Option ℤ) → is_within (length decl) n ≡ true
      → is_none (option_map (described pool f) (option_and_then (slice_get (oneofs_in p)) (index_of n))) ≡ same_oneof None (index_if n)
  none_alike None w = refl
  none_alike (Some (negsuc i)) w = absurd cc
  none_alike (Some (pos i)) w = ap (λ (o : Option (Part OneofDescriptorProto)). is_none (option_map (described pool f) o)) (oneof_there i (ltb-true i (length decl) w))

  -- ---- a member of one

  module _ (i : ℕ) where
    abbrev is_of : Described FieldDescriptorProto → Bool
    is_of z = is_number z.part.item.oneof_index i

    abbrev is_it : Described FieldDescriptorProto → Bool
    is_it z = number_of_field z == number_of_field x

    own : Contains (fields_of_message d) x
    own = mapped (described pool f) (fields_in p) y inside

    -- a field of the number is in the same oneof
    alone : (z : Described FieldDescriptorProto) → Contains (fields_of_message d) z → is_it z ≡ true
        → index_if z.part.item.oneof_index ≡ index_if y.item.oneof_index
    alone z c e =
        let gs : List FieldShape = fields_of (shape_of pool) (place_of d) in
        let both : Some (field_shape z) ≡ Some (field_shape x) =
        sym (field_is_listed d z of c) ∙ ap (λ (n : ℕ). field_of n gs) (equal_is (number_of_field z) (number_of_field x) e) ∙ field_is_listed d x of own in
        ap (λ (o : Option FieldShape). option_and_then (λ (g : FieldShape). g.oneof) o) both

    member_of : (n : Option ℤ) → is_within (length decl) n ≡ true → same_oneof (Some i) (index_if n) ≡ true → n ≡ Some (pos i)
    member_of None w e = absurd cc
    member_of (Some (negsuc j)) w e = absurd cc
    member_of (Some (pos j)) w e = ap (λ (k : ℕ). Some (pos k)) (sym (eqb-true i j e))

    member_from : list_any (λ z. is_of z && is_it z) (fields_of_message d) ≡ true → same_oneof (Some i) (index_if y.item.oneof_index) ≡ true
    member_from e =
        let m = passing (λ (z : Described FieldDescriptorProto). is_of z && is_it z) (fields_of_message d) e in
        let both = both_parts (is_of m.item) (is_it m.item) m.passes in
        let is : index_if y.item.oneof_index ≡ Some i =
        sym (alone m.item m.within both.1) ∙ ap index_if (number_is m.item.part.item.oneof_index i both.0) in
        ap (same_oneof (Some i)) is ∙ same_number i

    member_to : same_oneof (Some i) (index_if y.item.oneof_index) ≡ true → list_any (λ z. is_of z && is_it z) (fields_of_message d) ≡ true
    member_to e =
        any_of (λ (z : Described FieldDescriptorProto). is_of z && is_it z) (fields_of_message d) x own
        (both_true (is_of x) (is_it x) (ap (λ (n : Option ℤ). is_number n i) (member_of y.item.oneof_index within e) ∙ same_number i) (same_number (number_of_field x)))

    outside : slice_get (oneofs_in p) i ≡ None → (n : Option ℤ) → is_within (length decl) n ≡ true → false ≡ same_oneof (Some i) (index_if n)
    outside is None w = refl
    outside is (Some (negsuc j)) w = absurd cc
    outside is (Some (pos j)) w = at (i == j) refl
      where
        at : (b : Bool) → (i == j) ≡ b → false ≡ b
        at false e = refl
        at true e =
            let same : i ≡ j = eqb-true i j e in
            let lt : i < length decl = omega (arith, same, ltb-true j (length decl) w) in
            let bad : Some (part_at no_oneof (oneofs_in p) i) ≡ None = sym (oneof_there i lt) ∙ is in
            absurd cc

    at_place : (q : Option (Part OneofDescriptorProto)) → slice_get (oneofs_in p) i ≡ q
        → has_member (number_of_field x) (option_map (described pool f) q) ≡ same_oneof (Some i) (index_if y.item.oneof_index)
    at_place None is = outside is y.item.oneof_index within
    at_place (Some o) is =
        let lt = slice_get_within (oneofs_in p) i o is in
        let both : Some (part_at no_oneof (oneofs_in p) i) ≡ Some o = sym (part_there no_oneof (oneofs_in p) i lt) ∙ is in
        let same : part_at no_oneof (oneofs_in p) i ≡ o = cc in
        let scope : o.scope ≡ message_name p =
        ap (λ (q : Part OneofDescriptorProto). q.scope) (sym same) ∙ part_scope no_oneof (message_name p) p.place 8 decl i lt in
        let index : o.index ≡ i = ap (λ (q : Part OneofDescriptorProto). q.index) (sym same) ∙ part_index no_oneof (message_name p) p.place 8 decl i lt in
        ap (has_number (number_of_field x)) (sym (members_are pool of.pooled f held p there o scope i index))
        ∙ any_filtered is_of is_it (fields_of_message d)
        ∙ alike (list_any (λ z. is_of z && is_it z) (fields_of_message d)) (same_oneof (Some i) (index_if y.item.oneof_index)) member_from member_to

  stood_alike : (o : Option ℕ) → has_oneof d o x ≡ same_oneof o (index_if y.item.oneof_index)
  stood_alike None = ap is_none (oneof_is pool of.pooled f held p there y scoped) ∙ none_alike y.item.oneof_index within
  stood_alike (Some i) = ap (has_member (number_of_field x)) (slice_get-map (described pool f) (oneofs_in p) i) ∙ at_place i (slice_get (oneofs_in p) i) refl

-- a field of a message is in no oneof, or in the one at a place, exactly where the shape says so
pub oneof_alike : (d : Described DescriptorProto) → IsPooled d → (x : Described FieldDescriptorProto) → Contains (fields_of_message d) x → (o : Option ℕ)
    → has_oneof d o x ≡ same_oneof o (index_if x.part.item.oneof_index)
oneof_alike d of x c o =
    let s = field_stands d of x c in
    let m = s.message in
    let stood : IsPooled (described d.pool m.file m.part) = subst IsPooled (sym m.is) of in
    subst (λ (e : Described DescriptorProto). has_oneof e o x ≡ same_oneof o (index_if x.part.item.oneof_index)) m.is
    (subst (λ (z : Described FieldDescriptorProto). has_oneof (described d.pool m.file m.part) o z ≡ same_oneof o (index_if z.part.item.oneof_index)) s.is
    (stood_alike d.pool m.file m.held m.part m.there stood s.part s.there o))
