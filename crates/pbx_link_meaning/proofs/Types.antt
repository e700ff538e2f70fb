-- The message types of the shape of a pool, by the messages of the pool.
use Rattle.std.proofs.Common.{◌≡◌, ℕ, zero, suc, List, [], ◌∷◌, map, true, subst}
use Rattle.std.specs.Prelude.{Contains}
use Rattle.std.specs.List.{flat_map}
use Rattle.pbx_content.specs.Shape.{declared_at}
use Rattle.pbx_content.specs.declared.shape.FieldShape.{FieldShape}
use Rattle.pbx_desc_records.specs.declared.message.DescriptorProto.{DescriptorProto}
use Rattle.pbx_link_definitions.specs.Definitions.{Part, messages}
use Rattle.pbx_link_scope.specs.Scope.{visible}
use Rattle.pbx_link_record.specs.Laws.{linked_part}
use Rattle.pbx_link_record.specs.Linked.{linked_record}
use Rattle.pbx_link_record.proofs.FileDefines.{linked_record_messages}
use Rattle.pbx_link_rules.specs.Breaches.{keeps_rules}
use Rattle.pbx_link_rules.specs.Pool.{ArePooled}
use Rattle.pbx_link_rules.proofs.Lists.{here, there}
use Rattle.pbx_link_rules.proofs.Types.{source}
use Rattle.pbx_link_meaning.proofs.PoolParts.{in_pool}
use Rattle.pbx_link_meaning.specs.Descriptors.{Described, described, all_messages}
use Rattle.pbx_link_meaning.specs.Shapes.{message_shape}
use Rattle.pbx_link_meaning.proofs.DescribedLists.{File}
use Rattle.pbx_link_meaning.proofs.Lists.{told_of, is_told}

-- what holds of the fields of each message holds of the fields of each type
module _ (Holds : List FieldShape → Type 0) (none : Holds []) where
  each_declared : (ds : List (Described DescriptorProto)) → ((d : Described DescriptorProto) → Contains ds d → Holds (message_shape d).fields) → (t : ℕ)
      → Holds (declared_at (map message_shape ds) t)
  each_declared [] each t = none
  each_declared (d ∷ ds) each zero = each d (here d ds)
  each_declared (d ∷ ds) each (suc t) = each_declared ds (λ e c. each e (there d e ds c)) t

-- a message of the pool, as a part of a file
pub record OfPool (pool : List File) (d : Described DescriptorProto) : Type 0 where
  pub file : File
  pub part : Part DescriptorProto
  pub within : Contains (flat_map messages pool) part
  pub is : described pool file part ≡ d

pub of_pool : (pool : List File) (d : Described DescriptorProto) → Contains (all_messages pool) d → OfPool pool d
of_pool pool d c =
    let t = told_of (λ f. map (described pool f) (messages f)) pool d c in
    let s = source (described pool t.holder) (messages t.holder) d t.inside in
    record { file = t.holder; part = s.item; within = is_told messages pool t.holder s.item t.within s.within; is = s.made }

pub each_type : (pool : List File) (Holds : List FieldShape → Type 0) → Holds []
    → ((f : File) (p : Part DescriptorProto) → Contains (flat_map messages pool) p → Holds (message_shape (described pool f p)).fields) → (t : ℕ)
    → Holds (declared_at (map message_shape (all_messages pool)) t)
each_type pool Holds none each t =
    each_declared Holds none (all_messages pool)
    (λ d c. let o = of_pool pool d c in subst (λ (e : Described DescriptorProto). Holds (message_shape e).fields) o.is (each o.file o.part o.within)) t

-- what holds of each message that is linked holds of each message of a pool
module _ (Holds : Part DescriptorProto → Type 0)
    (of_part : (before : List File) (f : File) → keeps_rules before f ≡ true → (p : Part DescriptorProto) → Contains (messages f) p
    → Holds (linked_part (visible before f) p)) where
  of_linked : (before : List File) (f : File) → keeps_rules before f ≡ true → (after : List File) (x : Part DescriptorProto)
      → Contains (messages (linked_record before f)) x → Holds x
  of_linked before f kept after x c =
      let seen : List File = visible before f in
      let s = source (linked_part seen) (messages f) x (subst (λ (ps : List (Part DescriptorProto)). Contains ps x) (linked_record_messages seen f) c) in
      subst Holds s.made (of_part before f kept s.item s.within)

  pub each_message : (pool : List File) → ArePooled [] pool → (p : Part DescriptorProto) → Contains (flat_map messages pool) p → Holds p
  each_message pool pooled p c = in_pool messages (λ fs x. Holds x) of_linked [] pool pooled p c
