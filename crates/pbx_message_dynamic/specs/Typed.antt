-- Values and what trees hold for them.
use Rattle.std.specs.Prelude.{◌≡◌, ℕ, List, map, Option, Some, None}
use Rattle.pbx_content.specs.declared.shape.Cardinality.{Cardinality}
use Rattle.pbx_content.specs.declared.shape.Kind.{Kind}
use Rattle.pbx_content.specs.declared.shape.Kind.TheVariants as kind
use Rattle.pbx_content.specs.declared.shape.FieldShape.{FieldShape}
use Rattle.pbx_content.specs.Content.{Key, Val, message, many, keyed, vals_of, pairs_of}
use Rattle.pbx_content.specs.Sound.{IsElement, IsKeyOf, AreElements, ArePairs}
use Rattle.pbx_content_codec.specs.declared.contents.Held.{Held}
use Rattle.pbx_content_codec.specs.declared.contents.Pair.{Pair}
use Rattle.pbx_content_codec.specs.declared.key.MapKey.{MapKey}
use Rattle.pbx_content_codec.specs.View.{key_of, val_of, pair_of}
use Rattle.pbx_desc_records.specs.declared.file.FileDescriptorProto.{FileDescriptorProto}
use Rattle.pbx_desc_records.specs.declared.message.DescriptorProto.{DescriptorProto}
use Rattle.pbx_link_meaning.specs.Descriptors.{Described}
use Rattle.pbx_link_meaning.specs.Shapes.{shape_of}
use Rattle.pbx_message_laws.specs.Types.{IsTypeAt}
use Rattle.pbx_message_laws.specs.Settable.{IsSettable, IsSettableBy}
use Rattle.pbx_message_dynamic.specs.declared.error.SetFieldError.{SetFieldError}
use Rattle.pbx_message_dynamic.specs.declared.error.SetFieldError.TheVariants as errors
use Rattle.pbx_message_dynamic.specs.declared.typed.ValueType.{ValueType}
use Rattle.pbx_message_dynamic.specs.declared.value.Value.{Value}
use Rattle.pbx_message_dynamic.specs.Values as values
use Rattle.pbx_message_dynamic.specs.declared.value.Value.TheOpen.{Value-F}
use Rattle.pbx_message_dynamic.specs.Message.{Dynamic}
use Rattle.pbx_message_dynamic.specs.Values.{IsMessageAt, val_of_value, IsOfKind, AreOfKind, IsOfCardinality, IsOfField, variant_of, variant_in_key}

-- ---- types

-- the message of the pool at the place, if there is one
abbrev pub IsFoundAt : List FileDescriptorProto → ℕ → Option (Described DescriptorProto) → Type 0
IsFoundAt pool t None = (m : Described DescriptorProto) → IsTypeAt pool t m → ⊥
IsFoundAt pool t (Some m) = IsTypeAt pool t m

-- the message type that the kind names
abbrev pub IsTypeOf : List FileDescriptorProto → Kind → Option (Described DescriptorProto) → Type 0
IsTypeOf pool (kind.Message t) m = IsFoundAt pool t m
IsTypeOf pool _ m = Unit {0}

-- of the holder's pool
abbrev pub IsTyped : ValueType → Type 0
IsTyped t = IsTypeOf t.holder.pool t.kind t.message

-- ---- setting

-- what is held stands for the value, which is of the kind
pub record IsHeldAs (pool : List FileDescriptorProto) (k : Kind) (v : Value) (h : Held) : Type 0 where
  pub same : val_of h ≡ val_of_value v
  pub one : IsOfKind pool k v
  pub element : IsElement (shape_of pool) k (val_of h)

-- the same of a value of a kind, and otherwise nothing
abbrev pub IsHeldIf : List FileDescriptorProto → Kind → Value → Option Held → Type 0
IsHeldIf pool k v None = IsOfKind pool k v → ⊥
IsHeldIf pool k v (Some h) = IsHeldAs pool k v h

-- a message of the kind's message type, which is held, and otherwise nothing
abbrev pub IsMessageHeldIf : List FileDescriptorProto → Kind → Dynamic → Option Held → Type 0
IsMessageHeldIf pool k m None = IsMessageAt pool (Value-F.Message m) k → ⊥
IsMessageHeldIf pool k m (Some h) =
    (val_of h ≡ message m.content) × IsMessageAt pool (Value-F.Message m) k × IsElement (shape_of pool) k (message m.content)

-- why a value is refused that would have to have the property
abbrev pub IsNotHeld : Type 0 → SetFieldError → Type 0
IsNotHeld P errors.NotFound = ⊥
IsNotHeld P errors.InvalidType = P → ⊥
IsNotHeld P errors.NoMemory = Unit {0}

-- what is held stands for the list of values, each of the kind
pub record IsListHeld (pool : List FileDescriptorProto) (k : Kind) (vs : List Value) (h : Held) : Type 0 where
  pub same : val_of h ≡ many (vals_of (map val_of_value vs))
  pub ones : AreOfKind pool k vs
  pub elements : AreElements (shape_of pool) k (vals_of (map val_of_value vs))

-- a key with a value as those of contents
abbrev pub entry_of_value : MapKey × Value → Key × Val
entry_of_value p = (key_of p.0, val_of_value p.1)

-- what is held stands for the pairs, each of the kinds
pub record IsMapHeld (pool : List FileDescriptorProto) (key k : Kind) (ps : List (MapKey × Value)) (h : Held) : Type 0 where
  pub same : val_of h ≡ keyed (pairs_of (map entry_of_value ps))
  pub pairs : values.AreEntriesOfKinds pool key k ps
  pub elements : ArePairs (shape_of pool) key k (pairs_of (map entry_of_value ps))

-- the key is of the kind
pub record IsKeyOfKind (k : Kind) (key : MapKey) : Type 0 where
  pub variant : variant_in_key key ≡ variant_of k
  pub fits : IsKeyOf k (key_of key)

-- the same key, where it is of the kind
abbrev pub IsKeyHeldIf : Kind → MapKey → Option MapKey → Type 0
IsKeyHeldIf k key None = variant_in_key key ≡ variant_of k → ⊥
IsKeyHeldIf k key (Some same) = (same ≡ key) × IsKeyOfKind k key

-- the pair stands for the key and the value, each of its kind
pub record IsPairHeld (pool : List FileDescriptorProto) (key k : Kind) (p : MapKey × Value) (h : Pair) : Type 0 where
  pub same : pair_of h ≡ (key_of p.0, val_of_value p.1)
  pub own_key : IsKeyOfKind key p.0
  pub one : IsOfKind pool k p.1
  pub element : IsElement (shape_of pool) k (val_of_value p.1)

-- the same of a key and a value of the kinds, and otherwise nothing
abbrev pub IsPairHeldIf : List FileDescriptorProto → Kind → Kind → MapKey × Value → Option Pair → Type 0
IsPairHeldIf pool key k p None = variant_in_key p.0 ≡ variant_of key → IsOfKind pool k p.1 → ⊥
IsPairHeldIf pool key k p (Some h) = IsPairHeld pool key k p h

-- what is held stands for the value, to which a field of the kind and the cardinality may be set
pub record IsFieldHeld (pool : List FileDescriptorProto) (c : Cardinality) (k : Kind) (v : Value) (h : Held) : Type 0 where
  pub same : val_of h ≡ val_of_value v
  pub by : IsOfCardinality pool c k v
  pub settable : IsSettableBy (shape_of pool) c k (val_of h)

-- what is held stands for the value, to which the field may be set
pub record IsHeldFor (pool : List FileDescriptorProto) (f : FieldShape) (v : Value) (h : Held) : Type 0 where
  pub same : val_of h ≡ val_of_value v
  pub of : IsOfField pool f v
  pub settable : IsSettable (shape_of pool) f (val_of h)
