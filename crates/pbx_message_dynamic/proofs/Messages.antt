-- Messages as values.
use Rattle.std.proofs.Common.{◌≡◌, ℕ, List, Some, None, refl, sym, ap, ◌∙◌, subst}
use Rattle.std.specs.Prelude.{slice_get}
use Rattle.pbx_content.specs.declared.shape.Kind.{Kind}
use Rattle.pbx_content.specs.declared.shape.Kind.TheVariants as kind
use Rattle.pbx_content.specs.Content.{message}
use Rattle.pbx_content.specs.Sound.{IsSound, IsElement}
use Rattle.pbx_desc_records.specs.declared.file.FileDescriptorProto.{FileDescriptorProto}
use Rattle.pbx_desc_records.specs.declared.message.DescriptorProto.{DescriptorProto}
use Rattle.pbx_link_definitions.specs.Definitions.{message_name}
use Rattle.pbx_link_meaning.specs.Descriptors.{Described, IsSame, all_messages}
use Rattle.pbx_link_meaning.specs.Shapes.{shape_of, place_of}
use Rattle.pbx_message_laws.specs.Pools.{IsPooled, SameIsEqual, PlaceIsOwn, MessageIsPlaced}
use Rattle.pbx_message_dynamic.specs.declared.value.Value.TheOpen.{Value-F}
use Rattle.pbx_message_dynamic.specs.Message.{Dynamic}
use Rattle.pbx_message_dynamic.specs.Typed.{IsTypeOf}
use Rattle.pbx_message_dynamic.specs.Values.{IsMessageAt, variant_of, messages}

pub record IsTaken (pool : List FileDescriptorProto) (k : Kind) (m : Dynamic) : Type 0 where
  pub place : IsMessageAt pool (Value-F.Message m) k
  pub element : IsElement (shape_of pool) k (message m.content)

pub message_taken : (pool : List FileDescriptorProto) (k : Kind) (w : Described DescriptorProto) (m : Dynamic) → SameIsEqual → IsPooled m.of → variant_of k ≡ messages
    → IsTypeOf pool k (Some w) → IsSame m.of w → IsSound (shape_of m.of.pool) (place_of m.of) m.content → IsTaken pool k m
message_taken pool (kind.Message t) w m equal of v at same sound =
    let e : m.of ≡ w = equal m.of w of at.pooled same in
    let here : m.of.pool ≡ pool = same.pool ∙ at.pool in
    let place : place_of m.of ≡ t = ap place_of e ∙ at.place in
    record {
      place = (here, place);
      element = (
        t,
        refl,
        subst (λ (p : List FileDescriptorProto). IsSound (shape_of p) t m.content) here
            (subst (λ (n : ℕ). IsSound (shape_of m.of.pool) n m.content) place sound),
      );
    }
message_taken pool kind.Double w m equal of v at same sound = absurd cc
message_taken pool kind.Float w m equal of v at same sound = absurd cc
message_taken pool kind.Int32 w m equal of v at same sound = absurd cc
message_taken pool kind.Int64 w m equal of v at same sound = absurd cc
message_taken pool kind.Uint32 w m equal of v at same sound = absurd cc
message_taken pool kind.Uint64 w m equal of v at same sound = absurd cc
message_taken pool kind.Sint32 w m equal of v at same sound = absurd cc
message_taken pool kind.Sint64 w m equal of v at same sound = absurd cc
message_taken pool kind.Fixed32 w m equal of v at same sound = absurd cc
message_taken pool kind.Fixed64 w m equal of v at same sound = absurd cc
message_taken pool kind.Sfixed32 w m equal of v at same sound = absurd cc
message_taken pool kind.Sfixed64 w m equal of v at same sound = absurd cc
message_taken pool kind.Bool w m equal of v at same sound = absurd cc
message_taken pool kind.String w m equal of v at same sound = absurd cc
message_taken pool kind.Bytes w m equal of v at same sound = absurd cc
message_taken pool (kind.Enum t) w m equal of v at same sound = absurd cc

pub message_refused : (pool : List FileDescriptorProto) (k : Kind) (w : Described DescriptorProto) (m : Dynamic) → PlaceIsOwn → IsPooled m.of → variant_of k ≡ messages
    → IsTypeOf pool k (Some w) → (IsSame m.of w → ⊥) → IsMessageAt pool (Value-F.Message m) k → ⊥
message_refused pool (kind.Message t) w m own of v at other is =
    let e : m.of ≡ w = own m.of w of at.pooled (is.0 ∙ sym at.pool) (is.1 ∙ sym at.place) in
    other (record { name = ap (λ (d : Described DescriptorProto). message_name d.part) e; pool = ap (λ (d : Described DescriptorProto). d.pool) e })
message_refused pool kind.Double w m own of v at other is = absurd cc
message_refused pool kind.Float w m own of v at other is = absurd cc
message_refused pool kind.Int32 w m own of v at other is = absurd cc
message_refused pool kind.Int64 w m own of v at other is = absurd cc
message_refused pool kind.Uint32 w m own of v at other is = absurd cc
message_refused pool kind.Uint64 w m own of v at other is = absurd cc
message_refused pool kind.Sint32 w m own of v at other is = absurd cc
message_refused pool kind.Sint64 w m own of v at other is = absurd cc
message_refused pool kind.Fixed32 w m own of v at other is = absurd cc
message_refused pool kind.Fixed64 w m own of v at other is = absurd cc
message_refused pool kind.Sfixed32 w m own of v at other is = absurd cc
message_refused pool kind.Sfixed64 w m own of v at other is = absurd cc
message_refused pool kind.Bool w m own of v at other is = absurd cc
message_refused pool kind.String w m own of v at other is = absurd cc
message_refused pool kind.Bytes w m own of v at other is = absurd cc
message_refused pool (kind.Enum t) w m own of v at other is = absurd cc

pub message_none : (pool : List FileDescriptorProto) (k : Kind) (m : Dynamic) → MessageIsPlaced → IsPooled m.of → variant_of k ≡ messages
    → IsTypeOf pool k None → IsMessageAt pool (Value-F.Message m) k → ⊥
message_none pool (kind.Message t) m placed of v nothing is = nothing m.of (record {
  at = ap (λ (p : List FileDescriptorProto). slice_get (all_messages p) t) (sym is.0) ∙ ap (slice_get (all_messages m.of.pool)) (sym is.1) ∙ (placed m.of of).at;
  pooled = of;
  pool = is.0;
  place = is.1;
})
message_none pool kind.Double m placed of v nothing is = absurd cc
message_none pool kind.Float m placed of v nothing is = absurd cc
message_none pool kind.Int32 m placed of v nothing is = absurd cc
message_none pool kind.Int64 m placed of v nothing is = absurd cc
message_none pool kind.Uint32 m placed of v nothing is = absurd cc
message_none pool kind.Uint64 m placed of v nothing is = absurd cc
message_none pool kind.Sint32 m placed of v nothing is = absurd cc
message_none pool kind.Sint64 m placed of v nothing is = absurd cc
message_none pool kind.Fixed32 m placed of v nothing is = absurd cc
message_none pool kind.Fixed64 m placed of v nothing is = absurd cc
message_none pool kind.Sfixed32 m placed of v nothing is = absurd cc
message_none pool kind.Sfixed64 m placed of v nothing is = absurd cc
message_none pool kind.Bool m placed of v nothing is = absurd cc
message_none pool kind.String m placed of v nothing is = absurd cc
message_none pool kind.Bytes m placed of v nothing is = absurd cc
message_none pool (kind.Enum t) m placed of v nothing is = absurd cc
