-- The message of a pool at a place, by its name.
use Rattle.std.proofs.Common.{◌≡◌, ℕ, zero, suc, ◌<◌, ◌≤◌, length, get_or, List, [], ◌∷◌, map, Option, Some, None, refl, sym, ap, ◌∙◌, subst, arith}
use Rattle.std.specs.Prelude.{Contains, find, slice_get}
use Rattle.pbx_content.specs.declared.shape.MessageShape.{MessageShape}
use Rattle.pbx_desc_records.specs.declared.file.FileDescriptorProto.{FileDescriptorProto}
use Rattle.pbx_desc_records.specs.declared.message.DescriptorProto.{DescriptorProto}
use Rattle.pbx_link_definitions.specs.Definitions.{message_name}
use Rattle.pbx_link_rules.specs.Pool.{ArePooled}
use Rattle.pbx_link_rules.proofs.Named.{same_name}
use Rattle.pbx_link_rules.proofs.Named.{only_found}
use Rattle.pbx_link_meaning.specs.Descriptors.{Described, all_messages, message_of_name}
use Rattle.pbx_link_meaning.specs.Shapes.{message_shape}
use Rattle.pbx_message_laws.proofs.Placed.{has_name, named_once}
use Rattle.pbx_message_laws.specs.Types.{PlaceHasType}
use Rattle.pbx_message_dynamic.specs.Typed.{IsFoundAt}

-- what stands at a place
record IsThere (ds : List (Described DescriptorProto)) (t : ℕ) (d : MessageShape) : Type 0 where
  pub item : Described DescriptorProto
  pub at : slice_get ds t ≡ Some item
  pub within : Contains ds item
  pub shape : get_or (map message_shape ds) t d ≡ message_shape item

there : (ds : List (Described DescriptorProto)) (t : ℕ) (d : MessageShape) → t < length (map message_shape ds) → IsThere ds t d
there [] t d lt = absurd (omega (arith, lt))
there (x ∷ ds) zero d lt = record { item = x; at = refl; within = (0, omega arith, refl); shape = refl }
there (x ∷ ds) (suc t) d lt =
    let more = there ds t d (omega (arith, lt)) in
    record { item = more.item; at = more.at; within = (suc more.within.0, omega (arith, more.within.1), more.within.2); shape = more.shape }

nothing_past : (ds : List (Described DescriptorProto)) (t : ℕ) (m : Described DescriptorProto) → length (map message_shape ds) ≤ t → slice_get ds t ≡ Some m → ⊥
nothing_past [] t m le e = absurd cc
nothing_past (x ∷ ds) zero m le e = absurd (omega (arith, le))
nothing_past (x ∷ ds) (suc t) m le e = nothing_past ds t m (omega (arith, le)) e

pub not_found : (pool : List FileDescriptorProto) (t : ℕ) → length (map message_shape (all_messages pool)) ≤ t → IsFoundAt pool t None
not_found pool t le = λ m is. nothing_past (all_messages pool) t m le is.at

pub found_by_name : (pool : List FileDescriptorProto) (t : ℕ) (d : MessageShape) (name : List ℕ) (r : Option (Described DescriptorProto)) → PlaceHasType → ArePooled [] pool
    → t < length (map message_shape (all_messages pool)) → name ≡ (get_or (map message_shape (all_messages pool)) t d).full_name → r ≡ message_of_name pool name → IsFoundAt pool t r
found_by_name pool t d name r types pooled lt is found =
    let m = there (all_messages pool) t d lt in
    let q : List ℕ = message_name m.item.part in
    let same : name ≡ q = is ∙ ap (λ (s : MessageShape). s.full_name) m.shape in
    let only : find (has_name q) (all_messages pool) ≡ Some m.item = only_found (has_name q) m.item (same_name q) (all_messages pool) m.within (named_once pool pooled q) in
    let r_is : r ≡ Some m.item = found ∙ ap (message_of_name pool) same ∙ only in
    subst (IsFoundAt pool t) (sym r_is) (types pool t m.item pooled m.at)
