-- Values that are given for what trees hold.
use Rattle.std.specs.Prelude.{◌≡◌, ℤ, List}
use Rattle.pbx_content.specs.declared.shape.Cardinality.{Cardinality}
use Rattle.pbx_content.specs.declared.shape.Kind.{Kind}
use Rattle.pbx_content.specs.declared.shape.Kind.TheVariants as kind
use Rattle.pbx_content.specs.declared.shape.Shape.{Shape}
use Rattle.pbx_content.specs.Content.{Key, Val, number, message, many, keyed, vals_of, pairs_of}
use Rattle.pbx_content.specs.Sound.{IsSound}
use Rattle.pbx_content_codec.specs.declared.key.MapKey.{MapKey}
use Rattle.pbx_content_codec.specs.View.{key_of}
use Rattle.pbx_desc_records.specs.declared.file.FileDescriptorProto.{FileDescriptorProto}
use Rattle.pbx_message_dynamic.specs.declared.value.Value.{Value, out-Value}
use Rattle.pbx_message_dynamic.specs.Values.{val_of_value, IsOfKind, IsOfCardinality, IsListOfKind, IsMapOfKinds, IsMessageAt, variant_in, variant_in_key, variant_of}

-- the value stands for the number, and has the variant of the kind
pub record IsGivenNumber (k : Kind) (z : ℤ) (v : Value) : Type 0 where
  pub same : val_of_value v ≡ number z
  pub variant : variant_in (out-Value v) ≡ variant_of k
  pub plain : (pool : List FileDescriptorProto) → IsMessageAt pool (out-Value v) k

-- the value stands for what is held, and is of the kind
pub record IsGiven (pool : List FileDescriptorProto) (k : Kind) (w : Val) (v : Value) : Type 0 where
  pub same : val_of_value v ≡ w
  pub one : IsOfKind pool k v

-- a message that is held is one that its kind may have
abbrev pub HoldsSound : Shape → Kind → Val → Type 0
HoldsSound shape (kind.Message t) (message c) = IsSound shape t c
HoldsSound shape _ _ = Unit {0}

-- the value is a list that stands for what is held, each of the kind
pub record IsGivenList (pool : List FileDescriptorProto) (k : Kind) (ws : List Val) (v : Value) : Type 0 where
  pub same : val_of_value v ≡ many (vals_of ws)
  pub list : IsListOfKind pool k (out-Value v)

-- the key is the same, of the kind
pub record IsGivenKey (k : Kind) (w : Key) (q : MapKey) : Type 0 where
  pub same : key_of q ≡ w
  pub variant : variant_in_key q ≡ variant_of k

-- the same of what stands under a key
abbrev pub HoldsPair : Shape → Kind → Key × Val → Type 0
HoldsPair shape k p = HoldsSound shape k p.1

-- the value is a map that stands for the pairs, each of the kinds
pub record IsGivenMap (pool : List FileDescriptorProto) (key k : Kind) (ws : List (Key × Val)) (v : Value) : Type 0 where
  pub same : val_of_value v ≡ keyed (pairs_of ws)
  pub map : IsMapOfKinds pool key k (out-Value v)

-- the value stands for what is held, and is of the kind and the cardinality
pub record IsFieldGiven (pool : List FileDescriptorProto) (c : Cardinality) (k : Kind) (w : Val) (v : Value) : Type 0 where
  pub same : val_of_value v ≡ w
  pub by : IsOfCardinality pool c k v
