-- The place of a message among those of its pool, and in the shape of its types.
use Rattle.std.proofs.Common.{◌≡◌, ◌∙◌, ℕ, suc, ◌<◌, ◌≤◌, cond, List, [], ◌∷◌, map, length, get_or, Bool, true, false, Option, Some, find, refl, ap, sym, arith}
use Rattle.std.specs.Prelude.{Contains, option_map, slice_get, unwrap_or}
use Rattle.std.specs.Str.{bytes_eq}
use Rattle.std.proofs.lemmas.List.{get_or-map, length-map}
use Rattle.pbx_content.specs.declared.shape.MessageShape.{MessageShape}
use Rattle.pbx_desc_records.specs.declared.file.FileDescriptorProto.{FileDescriptorProto}
use Rattle.pbx_desc_records.specs.declared.message.DescriptorProto.{DescriptorProto}
use Rattle.pbx_link_definitions.specs.Definitions.{Part, message_name, messages}
use Rattle.pbx_link_rules.specs.Pool.{ArePooled}
use Rattle.pbx_link_rules.proofs.Counted.{count, count_map, message_once}
use Rattle.pbx_link_rules.proofs.Distinct.{pooled_are_distinct}
use Rattle.pbx_link_rules.proofs.Named.{only_found, same_name}
use Rattle.pbx_link_meaning.specs.Descriptors.{Described, described, all_messages}
use Rattle.pbx_link_meaning.specs.Shapes.{message_named, message_place, message_shape, shape_of}
use Rattle.pbx_link_meaning.proofs.DescribedLists.{parts_back}
use Rattle.pbx_link_shapes.proofs.Lists.{first_at, first_map, position_is}
use Rattle.pbx_link.proofs.Parts.{contains_piece}

-- where the first stands that is found
first_of_found : {X : Type 0} (test : X → Bool) (xs : List X) (x : X) → find test xs ≡ Some x
    → (n : ℕ) × (first_at test xs ≡ Some n) × (slice_get xs n ≡ Some x)
first_of_found test [] x e = absurd (cc)
first_of_found {X} test (y ∷ ys) x e = by_test (test y) e (first_of_found test ys x)
  where
    by_test : (b : Bool) → cond b (Some y) (find test ys) ≡ Some x
        → (find test ys ≡ Some x → (n : ℕ) × (first_at test ys ≡ Some n) × (slice_get ys n ≡ Some x))
        → (n : ℕ) × (cond b (Some 0) (option_map (λ m. suc m) (first_at test ys)) ≡ Some n) × (slice_get (y ∷ ys) n ≡ Some x)
    by_test true e ih = (0, refl, e)
    by_test false e ih = let r = ih e in (suc r.0, ap (option_map (λ m. suc m)) r.1, r.2)

-- the place in the shape is the place in the pool
pub placed_alike : (pool : List FileDescriptorProto) (name : List ℕ) → message_named name (shape_of pool) ≡ message_place pool name
placed_alike pool name =
    let is_it : MessageShape → Bool = λ m. bytes_eq m.full_name name in
    position_is is_it (map message_shape (all_messages pool)) ∙ first_map is_it message_shape (all_messages pool)
    ∙ sym (position_is (λ (d : Described DescriptorProto). bytes_eq (message_name d.part) name) (all_messages pool))

module _ (pool : List FileDescriptorProto) (pooled : ArePooled [] pool) (d : Described DescriptorProto) (there : Contains (all_messages pool) d) where
  abbrev is_it : Described DescriptorProto → Bool
  is_it e = bytes_eq (message_name e.part) (message_name d.part)

  abbrev is_named : Part DescriptorProto → Bool
  is_named p = bytes_eq (message_name p) (message_name d.part)

  once : count is_it (all_messages pool) ≤ 1
  once =
      let all = message_once pool (pooled_are_distinct pool pooled) (message_name d.part) in
      let parts = ap (count is_named) (parts_back pool messages pool) in
      let same = count_map is_named (λ (e : Described DescriptorProto). e.part) (all_messages pool) in
      omega (arith, all, parts, same)

  -- the message stands at its place
  pub stands : slice_get (all_messages pool) (unwrap_or (message_place pool (message_name d.part)) 0) ≡ Some d
  stands =
      let r = first_of_found is_it (all_messages pool) d (only_found is_it d (same_name (message_name d.part)) (all_messages pool) there once) in
      ap (λ (o : Option ℕ). slice_get (all_messages pool) (unwrap_or o 0)) (position_is is_it (all_messages pool) ∙ r.1) ∙ r.2

-- a message of a file of its pool is one of the pool
pub message_within : (d : Described DescriptorProto) → Contains d.pool d.file → Contains (messages d.file) d.part → Contains (all_messages d.pool) d
message_within d file message =
    let beside : Part DescriptorProto → Described DescriptorProto = described d.pool d.file in
    let within : message.0 < length (map beside (messages d.file)) = omega (arith, message.1, length-map (messages d.file) beside) in
    let is : get_or (map beside (messages d.file)) message.0 d ≡ d =
    get_or-map beside (messages d.file) message.0 d.part d message.1 ∙ ap beside message.2 in
    contains_piece (λ (f : FileDescriptorProto). map (described d.pool f) (messages f)) d.pool d.file d file (message.0, within, is)
