-- Members of one oneof of a message of a pool.
use Rattle.std.proofs.Common.{◌≡◌, ◌∙◌, ℕ, zero, suc, ◌+◌, ◌<◌, ◌==◌, ◌&&◌, ◌||◌, not, List, [], ◌∷◌, map, length, Bool, true, false, Option, Some, None}
use Rattle.std.proofs.Common.{refl, ap, sym, subst, arith}
use Rattle.std.specs.Prelude.{ℤ, pos, negsuc, Contains}
use Rattle.std.specs.List.{list_any, flat_map, enumerate_from}
use Rattle.std.specs.Str.{bytes_eq}
use Rattle.std.proofs.lemmas.Bool.{eqb-true, ltb-true}
use Rattle.std.proofs.lemmas.Bool.Decides.{nat_tests}
use Rattle.pbx_content.specs.Shape.{same_oneof, is_other}
use Rattle.pbx_desc_records.specs.declared.field.FieldDescriptorProto.{FieldDescriptorProto}
use Rattle.pbx_desc_records.specs.declared.field.OneofDescriptorProto.{OneofDescriptorProto}
use Rattle.pbx_desc_records.specs.declared.file.FileDescriptorProto.{FileDescriptorProto}
use Rattle.pbx_desc_records.specs.declared.message.DescriptorProto.{DescriptorProto, out-DescriptorProto}
use Rattle.pbx_desc_records.specs.declared.message.DescriptorProto.TheOpen.{DescriptorProto-F}
use Rattle.pbx_link_definitions.specs.Definitions.{Place, Part, part, message_name, messages, fields_in, oneofs_in}
use Rattle.pbx_link_definitions.specs.Says.{is_number}
use Rattle.pbx_link_scope.specs.Scope.{visible}
use Rattle.pbx_link_rules_field.specs.Rules.{has_oneof, bad_member, bad_members_in, empty_oneofs_in, bad_oneofs_in, bad_extension_members, is_below}
use Rattle.pbx_link_record.specs.Settled.{settled_oneof}
use Rattle.pbx_link_record.specs.Laws.{linked_part}
use Rattle.pbx_link_rules.specs.Breaches.{keeps_rules}
use Rattle.pbx_link_rules.proofs.First.{rule_9}
use Rattle.pbx_link_rules.proofs.RulesKept.{keeps_each}
use Rattle.pbx_link_rules.specs.Pool.{ArePooled}
use Rattle.pbx_link_rules.proofs.Lists.{here, there, left_nil, none_where, any_mapped, parts_from}
use Rattle.pbx_link_rules.proofs.LinkedParts.{changed_in, field_linked}
use Rattle.pbx_link_rules.proofs.Named.{same_name}
use Rattle.pbx_link_rules.proofs.Types.{source, not_at}
use Rattle.pbx_link_meaning.specs.Descriptors.{Described, described, fields_of_message, is_member}
use Rattle.pbx_link_meaning.specs.Shapes.{index_if, field_shape}
use Rattle.pbx_link_meaning.proofs.Lists.{any_weaker, nil_inside, both_parts, both_true}
use Rattle.pbx_link_meaning.proofs.Numbers.{number_is}
use Rattle.pbx_link_meaning.proofs.PoolParts.{linked_layer_is, fields_in_linked}
use Rattle.pbx_link_meaning.proofs.Types.{of_pool, each_message}
use Rattle.pbx_message_laws.specs.Pools.{IsPooled}
use Rattle.pbx_message_laws.specs.Oneofs.{AreMembers, OtherIsMember, ExtensionIsNone}
use Rattle.pbx_message_laws.proofs.Listed.{mapped}

-- ---- indexes of oneofs

-- an index of a list of this length, if there is one
abbrev within : ℕ → Option ℤ → Bool
within n None = true
within n (Some i) = is_below i n

within_is : (m : Part DescriptorProto) (o : Option ℤ) → has_oneof m o ≡ within (length (out-DescriptorProto m.item).oneof_decl) o
within_is m None = refl
within_is m (Some i) = refl

-- the field names no oneof that its message lacks
abbrev lacks_oneof : Part DescriptorProto → Part FieldDescriptorProto → Bool
lacks_oneof m p = not (has_oneof m p.item.oneof_index)

abbrev HasOneofs : Part DescriptorProto → Type 0
HasOneofs m = list_any (lacks_oneof m) (fields_in m) ≡ false

length_mapped : {X Y : Type 0} (f : X → Y) (xs : List X) → length (map f xs) ≡ length xs
length_mapped f [] = refl
length_mapped f (x ∷ xs) = ap (λ (n : ℕ). suc n) (length_mapped f xs)

-- the first of three
first_of : (a b c : Bool) → (not a || b || c) ≡ false → not a ≡ false
first_of true b c e = refl
first_of false b c e = absurd (let bad : true ≡ false = e in cc)

module _ (before : List FileDescriptorProto) (f : FileDescriptorProto) (kept : keeps_rules before f ≡ true) (m : Part DescriptorProto)
    (inside : Contains (messages f) m) where
  abbrev seen : List FileDescriptorProto
  seen = visible before f

  none_bad : bad_members_in f m ≡ []
  none_bad =
      left_nil (bad_members_in f m) (empty_oneofs_in m)
      (nil_inside (bad_oneofs_in f) (messages f) m inside
      (left_nil (flat_map (bad_oneofs_in f) (messages f)) (bad_extension_members f) (sym (rule_9 before seen f) ∙ keeps_each before f kept 9)))

  own_oneofs : HasOneofs m
  own_oneofs =
      any_weaker (bad_member f m) (lacks_oneof m) (λ p e. first_of (has_oneof m p.item.oneof_index) _ _ e) (fields_in m)
      (none_where (bad_member f m) (λ p. p.place) (fields_in m) none_bad)

  oneofs_kept : length (out-DescriptorProto (linked_part seen m).item).oneof_decl ≡ length (out-DescriptorProto m.item).oneof_decl
  oneofs_kept =
      ap (λ (l : DescriptorProto-F DescriptorProto). length l.oneof_decl) (linked_layer_is seen m.scope m.item)
      ∙ length_mapped settled_oneof (out-DescriptorProto m.item).oneof_decl

  linked_oneofs : HasOneofs (linked_part seen m)
  linked_oneofs =
      ap (list_any (lacks_oneof (linked_part seen m))) (fields_in_linked seen m)
      ∙ any_mapped (lacks_oneof (linked_part seen m)) (changed_in (field_linked seen)) (fields_in m)
      ∙ any_weaker (lacks_oneof m) (λ (p : Part FieldDescriptorProto). lacks_oneof (linked_part seen m) p)
      (λ p e. ap not (within_is (linked_part seen m) p.item.oneof_index ∙ ap (λ (n : ℕ). within n p.item.oneof_index) oneofs_kept
      ∙ sym (within_is m p.item.oneof_index)) ∙ e) (fields_in m) own_oneofs

pool_oneofs : (pool : List FileDescriptorProto) → ArePooled [] pool → (m : Part DescriptorProto) → Contains (flat_map messages pool) m → HasOneofs m
pool_oneofs pool pooled m c = each_message HasOneofs linked_oneofs pool pooled m c

-- ---- parts of a message

scope_is : {X : Type 0} (scope : List ℕ) (place : Place) (n : ℕ) (xs : List X) (p : Part X) → Contains (parts_from scope place n 0 xs) p → p.scope ≡ scope
scope_is {X} scope place n xs p c =
    let s = source (λ (x : ℕ × X). part scope place n x.0 x.1) (enumerate_from 0 xs) p c in ap (λ (q : Part X). q.scope) (sym s.made)

-- the part of an index
record IsPartAt {X : Type 0} (name : List ℕ) (ps : List (Part X)) (i : ℕ) : Type 0 where
  item : Part X
  within : Contains ps item
  index : item.index ≡ i
  scope : item.scope ≡ name

part_at : {X : Type 0} (scope : List ℕ) (place : Place) (n k : ℕ) (xs : List X) (i : ℕ) → i < length xs
    → IsPartAt scope (parts_from scope place n k xs) (k + i)
part_at scope place n k [] i lt = absurd (omega (arith, lt))
part_at {X} scope place n k (x ∷ xs) zero lt =
    record { item = part scope place n k x; within = here (part scope place n k x) (parts_from scope place n (k + 1) xs); index = omega arith; scope = refl }
part_at {X} scope place n k (x ∷ xs) (suc i) lt =
    let more = part_at scope place n (k + 1) xs i (omega (arith, lt)) in
    record {
      item = more.item;
      within = there (part scope place n k x) more.item (parts_from scope place n (k + 1) xs) more.within;
      index = omega (arith, more.index);
      scope = more.scope;
    }

-- ---- members

-- both name one oneof, and it is there
record IsShared (n : ℕ) (a b : Option ℤ) : Type 0 where
  index : ℕ
  first : a ≡ Some (pos index)
  second : b ≡ Some (pos index)
  below : index < n

shared_index : (n : ℕ) (a b : Option ℤ) → within n a ≡ true → within n b ≡ true → same_oneof (index_if a) (index_if b) ≡ true → IsShared n a b
shared_index n None b p q e = absurd cc
shared_index n (Some a) None p q e = absurd cc
shared_index n (Some (negsuc i)) (Some b) p q e = absurd cc
shared_index n (Some (pos i)) (Some (negsuc j)) p q e = absurd cc
shared_index n (Some (pos i)) (Some (pos j)) p q e =
    record { index = i; first = refl; second = ap (λ (k : ℕ). Some (pos k)) (sym (eqb-true i j e)); below = ltb-true i n p }

not_false : (b : Bool) → not b ≡ false → b ≡ true
not_false true h = refl
not_false false h = absurd cc

is_false : (b : Bool) → not b ≡ true → b ≡ false
is_false true h = absurd cc
is_false false h = refl

module _ (d : Described DescriptorProto) (of : IsPooled d) where
  abbrev count : ℕ
  count = length (out-DescriptorProto d.part.item).oneof_decl

  -- what is known of a field of the message
  record IsOwn (x : Described FieldDescriptorProto) : Type 0 where
    scope : x.part.scope ≡ message_name d.part
    index : within count x.part.item.oneof_index ≡ true

  has_oneofs : HasOneofs d.part
  has_oneofs =
      let o = of_pool d.pool d of.within in
      subst (λ (e : Described DescriptorProto). HasOneofs e.part) o.is (pool_oneofs d.pool of.pooled o.part o.within)

  own : (x : Described FieldDescriptorProto) → Contains (fields_of_message d) x → IsOwn x
  own x c =
      let s = source (described d.pool d.file) (fields_in d.part) x c in
      subst IsOwn s.made
      (record {
        scope = scope_is (message_name d.part) d.part.place 2 _ s.item s.within;
        index = sym (within_is d.part s.item.item.oneof_index) ∙ not_false _ (not_at (lacks_oneof d.part) (fields_in d.part) s.item has_oneofs s.within);
      })

  member : (x : Described FieldDescriptorProto) (o : Part OneofDescriptorProto) (i : ℕ) → IsOwn x → x.part.item.oneof_index ≡ Some (pos i)
      → o.scope ≡ message_name d.part → o.index ≡ i → is_member x.part o ≡ true
  member x o i is e scope index =
      let here : (i == o.index) ≡ true = grind (arith, nat_tests, index) in
      both_true (bytes_eq x.part.scope o.scope) (is_number x.part.item.oneof_index o.index)
      (ap (λ (s : List ℕ). bytes_eq s o.scope) (is.scope ∙ sym scope) ∙ same_name o.scope)
      (ap (λ (n : Option ℤ). is_number n o.index) e ∙ here)

  are_members : (x y : Described FieldDescriptorProto) → IsOwn x → IsOwn y → is_other (field_shape x) (field_shape y) ≡ true → AreMembers d x y
  are_members x y p q e =
      let parts = both_parts (same_oneof (field_shape x).oneof (field_shape y).oneof) (not ((field_shape x).number == (field_shape y).number)) e in
      let s = shared_index count x.part.item.oneof_index y.part.item.oneof_index p.index q.index parts.0 in
      let o = part_at (message_name d.part) d.part.place 8 0 (out-DescriptorProto d.part.item).oneof_decl s.index s.below in
      let at : o.item.index ≡ s.index = omega (arith, o.index) in
      record {
        oneof = described d.pool d.file o.item;
        within = mapped (described d.pool d.file) (oneofs_in d.part) o.item o.within;
        first = member x o.item s.index p s.first o.scope at;
        second = member y o.item s.index q s.second o.scope at;
        apart = is_false _ parts.1;
      }

  are_others : (x y : Described FieldDescriptorProto) → AreMembers d x y → is_other (field_shape x) (field_shape y) ≡ true
  are_others x y m =
      let i : ℕ = m.oneof.part.index in
      let first = number_is x.part.item.oneof_index i (both_parts (bytes_eq x.part.scope m.oneof.part.scope) _ m.first).1 in
      let second = number_is y.part.item.oneof_index i (both_parts (bytes_eq y.part.scope m.oneof.part.scope) _ m.second).1 in
      let here : (i == i) ≡ true = grind (arith, nat_tests) in
      both_true (same_oneof (field_shape x).oneof (field_shape y).oneof) _
      (ap (λ (a : Option ℤ). same_oneof (index_if a) (index_if y.part.item.oneof_index)) first
      ∙ ap (λ (b : Option ℤ). same_oneof (Some i) (index_if b)) second ∙ here)
      (ap not m.apart)

pub other_is_member : OtherIsMember
other_is_member d x y of c e = (are_members d of x y (own d of x c) (own d of y e), are_others d of x y)

pub extension_is_none : ExtensionIsNone
extension_is_none x g = (refl, at g.oneof)
  where
    at : (o : Option ℕ) → (same_oneof o None && not (g.number == (field_shape x).number)) ≡ false
    at None = refl
    at (Some a) = refl
