-- Values of fields: which content's value each stands for, and which are of a field's kind.
use Rattle.std.specs.Prelude.{◌≡◌, pos, List, [], ◌∷◌, map, false}
use Rattle.pbx_content_codec.specs.declared.key.MapKey.{MapKey}
use Rattle.pbx_content_codec.specs.declared.key.MapKey.TheVariants as key
use Rattle.pbx_content.specs.declared.shape.Kind.{Kind}
use Rattle.pbx_content.specs.declared.shape.Kind.TheVariants as kind
use Rattle.pbx_content.specs.declared.shape.Cardinality.{Cardinality}
use Rattle.pbx_content.specs.declared.shape.Cardinality.TheVariants.{Singular, Repeated, Map}
use Rattle.pbx_content.specs.declared.shape.FieldShape.{FieldShape}
use Rattle.pbx_content.specs.Content.{Val, number, truth, text, octets, message, many, keyed, vals_of, pairs_of}
use Rattle.pbx_content.specs.Shape.{is_float}
use Rattle.pbx_content_codec.specs.View.{key_of}
use Rattle.pbx_desc_records.specs.declared.file.FileDescriptorProto.{FileDescriptorProto}
use Rattle.pbx_link_meaning.specs.Shapes.{place_of}
use Rattle.pbx_message_dynamic.specs.declared.value.Value.{Value, out-Value, fold-Value}
use Rattle.pbx_message_dynamic.specs.declared.value.Value.TheOpen.{Value-F}

-- ---- what a value stands for

-- a value, with all below it given
abbrev pub val_step : Value-F Val → Val
val_step (Value-F.Bool b) = truth b
val_step (Value-F.I32 z) = number z
val_step (Value-F.I64 z) = number z
val_step (Value-F.U32 n) = number (pos n)
val_step (Value-F.U64 n) = number (pos n)
val_step (Value-F.String s) = text s
val_step (Value-F.Bytes b) = octets b
val_step (Value-F.EnumNumber z) = number z
val_step (Value-F.Message m) = message m.content
val_step (Value-F.List vs) = many (vals_of vs)
val_step (Value-F.Map ps) = keyed (pairs_of (map (λ p. (key_of p.0, p.1)) ps))

-- the value of a content that a value stands for
abbrev pub val_of_value : Value → Val
val_of_value = fold-Value Val val_step

-- ---- variants

-- the variants of `Value`; a float has none
pub data Variant : Type 0 where
  truths : Variant
  numbers_i32 : Variant
  numbers_i64 : Variant
  numbers_u32 : Variant
  numbers_u64 : Variant
  texts : Variant
  octet_strings : Variant
  enum_numbers : Variant
  messages : Variant
  lists : Variant
  maps : Variant
  no_variant : Variant

-- the variant of the values of a kind (Protocol Buffers "Language Guide (proto 3)": Scalar Value Types)
abbrev pub variant_of : Kind → Variant
variant_of kind.Double = no_variant
variant_of kind.Float = no_variant
variant_of kind.Int32 = numbers_i32
variant_of kind.Int64 = numbers_i64
variant_of kind.Uint32 = numbers_u32
variant_of kind.Uint64 = numbers_u64
variant_of kind.Sint32 = numbers_i32
variant_of kind.Sint64 = numbers_i64
variant_of kind.Fixed32 = numbers_u32
variant_of kind.Fixed64 = numbers_u64
variant_of kind.Sfixed32 = numbers_i32
variant_of kind.Sfixed64 = numbers_i64
variant_of kind.Bool = truths
variant_of kind.String = texts
variant_of kind.Bytes = octet_strings
variant_of (kind.Message t) = messages
variant_of (kind.Enum e) = enum_numbers

-- the variant of a value
abbrev pub variant_in : Value-F Value → Variant
variant_in (Value-F.Bool b) = truths
variant_in (Value-F.I32 z) = numbers_i32
variant_in (Value-F.I64 z) = numbers_i64
variant_in (Value-F.U32 n) = numbers_u32
variant_in (Value-F.U64 n) = numbers_u64
variant_in (Value-F.String s) = texts
variant_in (Value-F.Bytes b) = octet_strings
variant_in (Value-F.EnumNumber z) = enum_numbers
variant_in (Value-F.Message m) = messages
variant_in (Value-F.List vs) = lists
variant_in (Value-F.Map ps) = maps

-- the variant of a key
abbrev pub variant_in_key : MapKey → Variant
variant_in_key (key.Bool b) = truths
variant_in_key (key.I32 z) = numbers_i32
variant_in_key (key.I64 z) = numbers_i64
variant_in_key (key.U32 n) = numbers_u32
variant_in_key (key.U64 n) = numbers_u64
variant_in_key (key.String s) = texts

-- ---- values of a field's kind

-- a message value is of the message type at that place of the pool's shape
abbrev pub IsMessageAt : List FileDescriptorProto → Value-F Value → Kind → Type 0
IsMessageAt pool (Value-F.Message m) (kind.Message t) = (m.of.pool ≡ pool) × (place_of m.of ≡ t)
IsMessageAt pool _ _ = Unit {0}

-- the value has the variant of the kind, and a message its type
abbrev pub IsOfKind : List FileDescriptorProto → Kind → Value → Type 0
IsOfKind pool k v = (variant_in (out-Value v) ≡ variant_of k) × IsMessageAt pool (out-Value v) k

-- each has
abbrev pub AreOfKind : List FileDescriptorProto → Kind → List Value → Type 0
AreOfKind pool k [] = Unit {0}
AreOfKind pool k (v ∷ vs) = IsOfKind pool k v × AreOfKind pool k vs

-- each key and each value has
abbrev pub AreEntriesOfKinds : List FileDescriptorProto → Kind → Kind → List (MapKey × Value) → Type 0
AreEntriesOfKinds pool k l [] = Unit {0}
AreEntriesOfKinds pool k l (p ∷ ps) = (variant_in_key p.0 ≡ variant_of k) × IsOfKind pool l p.1 × AreEntriesOfKinds pool k l ps

-- a list of values of the kind
abbrev pub IsListOfKind : List FileDescriptorProto → Kind → Value-F Value → Type 0
IsListOfKind pool k (Value-F.List vs) = AreOfKind pool k vs
IsListOfKind pool k _ = ⊥

-- a map from keys of the one kind to values of the other
abbrev pub IsMapOfKinds : List FileDescriptorProto → Kind → Kind → Value-F Value → Type 0
IsMapOfKinds pool k l (Value-F.Map ps) = AreEntriesOfKinds pool k l ps
IsMapOfKinds pool k l _ = ⊥

-- a value of the kind and the cardinality
abbrev pub IsOfCardinality : List FileDescriptorProto → Cardinality → Kind → Value → Type 0
IsOfCardinality pool Singular k v = IsOfKind pool k v
IsOfCardinality pool Repeated k v = IsListOfKind pool k (out-Value v)
IsOfCardinality pool (Map l) k v = IsMapOfKinds pool l k (out-Value v)

-- The value is of the field's kind. Of a float, a list of floats and a map with float values none is.
abbrev pub IsOfField : List FileDescriptorProto → FieldShape → Value → Type 0
IsOfField pool f v = (is_float f.kind ≡ false) × IsOfCardinality pool f.cardinality f.kind v
