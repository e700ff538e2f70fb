-- The message types that kinds name by their places, as messages of the pool.
use Rattle.std.specs.Prelude.{◌≡◌, ℕ, List, [], Option, Some, slice_get}
use Rattle.pbx_content.specs.declared.shape.Kind.TheVariants as kind
use Rattle.pbx_content.specs.declared.shape.FieldShape.{FieldShape}
use Rattle.pbx_content.specs.Shape.{fields_of, field_of}
use Rattle.pbx_desc_records.specs.declared.file.FileDescriptorProto.{FileDescriptorProto}
use Rattle.pbx_desc_records.specs.declared.message.DescriptorProto.{DescriptorProto}
use Rattle.pbx_link_rules.specs.Pool.{ArePooled}
use Rattle.pbx_link_meaning.specs.Descriptors.{Described, all_messages, message_referred}
use Rattle.pbx_link_meaning.specs.Shapes.{place_of_message, shape_of}
use Rattle.pbx_link_meaning.specs.Shapes.{place_of}
use Rattle.pbx_message_laws.specs.Pools.{IsPooled}

-- the message of the pool stands at the place, which is its own
pub record IsTypeAt (files : List FileDescriptorProto) (t : ℕ) (m : Described DescriptorProto) : Type 0 where
  pub at : slice_get (all_messages files) t ≡ Some m
  pub pooled : IsPooled m
  pub pool : m.pool ≡ files
  pub place : place_of m ≡ t

-- What stands at a place is the message of the place.
abbrev pub PlaceHasType : Type 0
PlaceHasType =
    (pool : List FileDescriptorProto) (t : ℕ) (m : Described DescriptorProto) → ArePooled [] pool → slice_get (all_messages pool) t ≡ Some m → IsTypeAt pool t m

-- The message that a linked reference names stands at the place that the reference has in the shape.
abbrev pub ReferredHasPlace : Type 0
ReferredHasPlace =
    (pool : List FileDescriptorProto) (name : Option (List ℕ)) (m : Described DescriptorProto) → ArePooled [] pool → message_referred pool name ≡ Some m
    → IsTypeAt pool (place_of_message pool name) m

-- Where the kind of a field of a message is a message type, or that of the values of a map, a message of the pool stands at its place.
abbrev pub KindHasType : Type 0
KindHasType =
    (d : Described DescriptorProto) (n t : ℕ) (f : FieldShape) → IsPooled d → field_of n (fields_of (shape_of d.pool) (place_of d)) ≡ Some f
    → f.kind ≡ kind.Message t → (m : Described DescriptorProto) × IsTypeAt d.pool t m
