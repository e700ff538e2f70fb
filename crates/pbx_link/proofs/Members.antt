-- The next member of a oneof.
use Rattle.std.proofs.Common.{◌≡◌, ◌∙◌, ℕ, ◌+◌, ◌<◌, List, [], ◌∷◌, map, drop, length, Bool, Option, Some, None, refl, ap, sym, arith}
use Rattle.std.specs.Prelude.{position}
use Rattle.std.specs.List.{enumerate_from}
use Rattle.std.proofs.lemmas.List.{get_or-map, length-map}
use Rattle.pbx_desc_records.specs.declared.field.FieldDescriptorProto.{FieldDescriptorProto}
use Rattle.pbx_desc_records.specs.declared.message.DescriptorProto.{DescriptorProto}
use Rattle.pbx_link_definitions.specs.Definitions.{Part, part, message_name, fields_in}
use Rattle.pbx_link_definitions.specs.Says.{is_number, own_fields}
use Rattle.pbx_link_meaning.specs.Descriptors.{Described, described, fields_of_message}
use Rattle.pbx_link.specs.Tables.{part_at, no_field, members_from}
use Rattle.pbx_link.proofs.Left.{next_within, next_passing, none_passing}

module _ (m : Described DescriptorProto) (oneof i : ℕ) where
  abbrev is_of : FieldDescriptorProto → Bool
  is_of x = is_number x.oneof_index oneof

  abbrev is_member : Described FieldDescriptorProto → Bool
  is_member x = is_of x.part.item

  abbrev as_field : ℕ × FieldDescriptorProto → Part FieldDescriptorProto
  as_field e = part (message_name m.part) m.part.place 2 e.0 e.1

  alike_from : (k : ℕ) (xs : List FieldDescriptorProto) → map is_member (map (described m.pool m.file) (map as_field (enumerate_from k xs))) ≡ map is_of xs
  alike_from k [] = refl
  alike_from k (x ∷ xs) = ap (λ (bs : List Bool). is_of x ∷ bs) (alike_from (k + 1) xs)

  alike : map is_member (fields_of_message m) ≡ map is_of (own_fields m.part.item)
  alike = alike_from 0 (own_fields m.part.item)

  module _ (xs : List FieldDescriptorProto) (same : xs ≡ own_fields m.part.item) (o : Option ℕ) (is : o ≡ position is_of (drop i xs)) where
    found : o ≡ position is_of (drop i (own_fields m.part.item))
    found = is ∙ ap (λ (ys : List FieldDescriptorProto). position is_of (drop i ys)) same

    pub no_member_left : o ≡ None → members_from m oneof i ≡ []
    no_member_left none = none_passing is_of is_member (own_fields m.part.item) (fields_of_message m) alike i o found none

    pub member_within : (k : ℕ) → o ≡ Some k → i + k < length (fields_in m.part)
    member_within k some =
        let within = next_within is_of is_member (own_fields m.part.item) (fields_of_message m) alike i k o found some in
        omega (arith, within, length-map (fields_in m.part) (described m.pool m.file))

    pub next_member : (k : ℕ) → o ≡ Some k → (x : Described FieldDescriptorProto) → x ≡ described m.pool m.file (part_at no_field (fields_in m.part) (i + k))
        → members_from m oneof i ≡ x ∷ members_from m oneof (i + k + 1)
    next_member k some x at =
        next_passing is_of is_member (own_fields m.part.item) (fields_of_message m) alike i k o x found some
        ∙ ap (λ (y : Described FieldDescriptorProto). y ∷ members_from m oneof (i + k + 1))
        (get_or-map (described m.pool m.file) (fields_in m.part) (i + k) _ x (member_within k some) ∙ sym at)
