-- What the rules of linking say of the type names and the oneofs of the fields of a pool's messages.
use Rattle.std.proofs.Common.{◌≡◌, ◌∙◌, ℕ, suc, ℤ, ◌||◌, not, List, [], ◌∷◌, map, length, Bool, true, false, Option, Some, None}
use Rattle.std.proofs.Common.{refl, ap, sym, subst}
use Rattle.std.specs.Prelude.{Contains}
use Rattle.std.specs.List.{list_any, flat_map}
use Rattle.pbx_desc_records.specs.declared.field.FieldDescriptorProto.{FieldDescriptorProto}
use Rattle.pbx_desc_records.specs.declared.file.FileDescriptorProto.{FileDescriptorProto}
use Rattle.pbx_desc_records.specs.declared.message.DescriptorProto.{DescriptorProto, out-DescriptorProto}
use Rattle.pbx_desc_records.specs.declared.message.DescriptorProto.TheOpen.{DescriptorProto-F}
use Rattle.pbx_link_definitions.specs.Definitions.{Part, at, messages, fields, fields_in}
use Rattle.pbx_link_definitions.specs.Says.{is_number}
use Rattle.pbx_link_scope.specs.declared.types.Bound.{Bound}
use Rattle.pbx_link_scope.specs.declared.types.Bound.TheVariants.{Message as to_message, Enum as to_enum}
use Rattle.pbx_link_scope.specs.Scope.{visible, bound_if}
use Rattle.pbx_link_rules_field.specs.Rules.{has_oneof, bad_member, bad_members_in, empty_oneofs_in, bad_oneofs_in, bad_extension_members, is_below}
use Rattle.pbx_link_rules_scope.specs.Rules.{is_bad_type_name, has_bad_type_name, unbound_in_methods}
use Rattle.pbx_link_record.specs.Linked.{type_by, exact_by}
use Rattle.pbx_link_record.specs.Settled.{settled_oneof}
use Rattle.pbx_link_record.specs.Laws.{linked_part}
use Rattle.pbx_link_rules.specs.Breaches.{keeps_rules}
use Rattle.pbx_link_rules.proofs.First.{rule_7, rule_9}
use Rattle.pbx_link_rules.proofs.RulesKept.{keeps_each}
use Rattle.pbx_link_rules.specs.Pool.{ArePooled}
use Rattle.pbx_link_rules.proofs.Lists.{left_nil, none_where}
use Rattle.pbx_link_rules.proofs.LinkedParts.{changed_in, field_linked}
use Rattle.pbx_link_rules.proofs.Types.{source, not_at}
use Rattle.pbx_link_meaning.proofs.Lists.{nil_inside, none_inside}
use Rattle.pbx_link_meaning.proofs.PoolParts.{linked_layer_is, fields_in_linked}
use Rattle.pbx_link_meaning.proofs.Types.{each_message}

-- ---- one field

-- a field with a type name is of a message type or of an enum
abbrev pub IsTyped : Option ℤ → Option (List ℕ) → Type 0
IsTyped kind name = (q : List ℕ) → name ≡ Some q → (is_number kind 11 || is_number kind 14) ≡ true

typed : (b : Option Bound) (name : Option (List ℕ)) (kind : Option ℤ) → is_bad_type_name name b kind ≡ false → IsTyped (type_by kind b) (exact_by name b)
typed (Some (to_message p)) name kind h q e = refl
typed (Some (to_enum p)) name kind h q e = refl
typed None (Some name) kind h q e = absurd (let bad : true ≡ false = h in cc)
typed None None kind h q e = absurd cc

-- an index of a list of this length, if there is one
abbrev pub is_within : ℕ → Option ℤ → Bool
is_within n None = true
is_within n (Some i) = is_below i n

within_is : (m : Part DescriptorProto) (o : Option ℤ) → has_oneof m o ≡ is_within (length (out-DescriptorProto m.item).oneof_decl) o
within_is m None = refl
within_is m (Some i) = refl

-- what the rules say of a field of a message
pub record IsRuled (m : Part DescriptorProto) (x : FieldDescriptorProto) : Type 0 where
  pub typed : IsTyped x.kind x.type_name
  pub within : is_within (length (out-DescriptorProto m.item).oneof_decl) x.oneof_index ≡ true

length_mapped : {X Y : Type 0} (f : X → Y) (xs : List X) → length (map f xs) ≡ length xs
length_mapped f [] = refl
length_mapped f (x ∷ xs) = ap (λ (n : ℕ). suc n) (length_mapped f xs)

-- the first of three
first_of : (a b c : Bool) → (not a || b || c) ≡ false → a ≡ true
first_of true b c e = refl
first_of false b c e = absurd (let bad : true ≡ false = e in cc)

-- ---- a record that keeps the rules

module _ (before : List FileDescriptorProto) (f : FileDescriptorProto) (kept : keeps_rules before f ≡ true) (m : Part DescriptorProto)
    (inside : Contains (messages f) m) where
  abbrev seen : List FileDescriptorProto
  seen = visible before f

  abbrev bad_name : Part FieldDescriptorProto → Bool
  bad_name p = has_bad_type_name seen p.scope p.item

  no_bad_name : list_any bad_name (fields_in m) ≡ false
  no_bad_name =
      none_inside fields_in bad_name (messages f) m inside
      (none_where bad_name (λ p. at p 6) (fields f)
      (left_nil _ _ (left_nil _ _ (left_nil _ (unbound_in_methods seen f) (sym (rule_7 before seen f) ∙ keeps_each before f kept 7)))))

  no_bad_member : list_any (bad_member f m) (fields_in m) ≡ false
  no_bad_member =
      none_where (bad_member f m) (λ p. p.place) (fields_in m)
      (left_nil (bad_members_in f m) (empty_oneofs_in m)
      (nil_inside (bad_oneofs_in f) (messages f) m inside
      (left_nil (flat_map (bad_oneofs_in f) (messages f)) (bad_extension_members f) (sym (rule_9 before seen f) ∙ keeps_each before f kept 9))))

  oneofs_kept : length (out-DescriptorProto (linked_part seen m).item).oneof_decl ≡ length (out-DescriptorProto m.item).oneof_decl
  oneofs_kept =
      ap (λ (l : DescriptorProto-F DescriptorProto). length l.oneof_decl) (linked_layer_is seen m.scope m.item)
      ∙ length_mapped settled_oneof (out-DescriptorProto m.item).oneof_decl

  linked_ruled : (x : Part FieldDescriptorProto) → Contains (fields_in (linked_part seen m)) x → IsRuled (linked_part seen m) x.item
  linked_ruled x c =
      let s = source (changed_in (field_linked seen)) (fields_in m) x
      (subst (λ (ps : List (Part FieldDescriptorProto)). Contains ps x) (fields_in_linked seen m) c) in
      let y : Part FieldDescriptorProto = s.item in
      subst (λ (p : Part FieldDescriptorProto). IsRuled (linked_part seen m) p.item) s.made
      (record {
        typed = typed (bound_if seen y.scope y.item.type_name) y.item.type_name y.item.kind (not_at bad_name (fields_in m) y no_bad_name s.within);
        within =
            ap (λ (n : ℕ). is_within n y.item.oneof_index) oneofs_kept ∙ sym (within_is m y.item.oneof_index)
            ∙ first_of (has_oneof m y.item.oneof_index) _ _ (not_at (bad_member f m) (fields_in m) y no_bad_member s.within);
      })

-- ---- a pool

pub fields_are_ruled : (pool : List FileDescriptorProto) → ArePooled [] pool → (m : Part DescriptorProto) → Contains (flat_map messages pool) m
    → (x : Part FieldDescriptorProto) → Contains (fields_in m) x → IsRuled m x.item
fields_are_ruled pool pooled m c =
    each_message (λ (p : Part DescriptorProto). (x : Part FieldDescriptorProto) → Contains (fields_in p) x → IsRuled p x.item) linked_ruled pool pooled m c
