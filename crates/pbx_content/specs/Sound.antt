-- Shapes that are proper, and contents that a message of a type may have.
use Rattle.std.specs.Prelude.{◌≡◌, ◌⊎◌, ℕ, ◌+◌, ◌^◌, ◌<◌, ◌≤◌, max, ℤ, pos, List, map, Bool, true, false, not, ◌&&◌, IsTrue, Option, Some, None, ◌==◌}
use Rattle.std.specs.Int.{w32, w64}
use Rattle.std.specs.Int.RustNames.{FitsSigned}
use Rattle.std.specs.List.{IsDistinct, list_all}
use Rattle.std.specs.Str.{is_utf8}
use Rattle.pbx_wire.specs.Text.{is_record_number, are_numbered, are_fit, all_true, depth_of}
use Rattle.pbx_wire.specs.declared.rec.Rec.{Rec}
use Rattle.pbx_content.specs.declared.shape.Kind.{Kind}
use Rattle.pbx_content.specs.declared.shape.Kind.TheVariants as kind
use Rattle.pbx_content.specs.declared.shape.Cardinality.{Cardinality}
use Rattle.pbx_content.specs.declared.shape.Cardinality.TheVariants.{Singular, Repeated, Map}
use Rattle.pbx_content.specs.declared.shape.Shape.{Shape}
use Rattle.pbx_content.specs.declared.shape.SchemaError.{SchemaError}
use Rattle.pbx_content.specs.declared.shape.SchemaError.TheVariants.{Improper, NoMemory}
use Rattle.pbx_content.specs.declared.shape.FieldShape.{FieldShape}
use Rattle.pbx_content.specs.Content.{Key, truth_key, number_key, text_key, key_before, Content, content, Fields, no_fields, field, Val, number, truth, text}
use Rattle.pbx_content.specs.Content.{octets, message, many, keyed, Vals, no_vals, val, Pairs, no_pairs, pair, has, IsAscending}
use Rattle.pbx_content.specs.Shape.{declared_of, fields_of, field_of, first_number, is_kept, is_key_kind, is_other}
use Rattle.pbx_content.specs.Meaning.{is_default}

-- ---- shapes

-- the keys of a map are of a kind that keys may have
abbrev pub has_good_keys : Cardinality → Bool
has_good_keys Singular = true
has_good_keys Repeated = true
has_good_keys (Map key) = is_key_kind key

-- Each number is 1 to 536,870,911 and stands once, and keys of maps are of kinds that keys may have
-- (Protocol Buffers "Language Guide (proto 3)": Assigning Field Numbers, Maps).
pub record AreProper (fs : List FieldShape) : Type 0 where
  pub numbered : IsTrue (list_all (λ f. is_record_number f.number) fs)
  pub distinct : IsDistinct (λ m n. m == n) (map (λ f. f.number) fs)
  pub keyed : IsTrue (list_all (λ f. has_good_keys f.cardinality) fs)

-- The fields of each type are proper, and each enum's default is a number of 32 bits, as each value of an enum is
-- (Protocol Buffers "Language Guide (proto 3)": Enumerations).
pub record IsProper (shape : Shape) : Type 0 where
  pub types : (t : ℕ) → AreProper (declared_of shape t)
  pub enums : (e : ℕ) → FitsSigned w32 (first_number shape e)

-- a shape that was refused is handed back, as improper where it is
abbrev pub IsRefused : Shape → SchemaError → Type 0
IsRefused shape (Improper back) = (back ≡ shape) × ¬ (IsProper shape)
IsRefused shape (NoMemory back) = back ≡ shape

-- ---- values

-- a number of the kind (Protocol Buffers "Language Guide (proto 3)": Scalar Value Types; "Enum Behavior": enums are open)
abbrev pub IsNumber : Kind → ℤ → Type 0
IsNumber kind.Int32 z = FitsSigned w32 z
IsNumber kind.Sint32 z = FitsSigned w32 z
IsNumber kind.Sfixed32 z = FitsSigned w32 z
IsNumber (kind.Enum e) z = FitsSigned w32 z
IsNumber kind.Int64 z = FitsSigned w64 z
IsNumber kind.Sint64 z = FitsSigned w64 z
IsNumber kind.Sfixed64 z = FitsSigned w64 z
IsNumber kind.Uint32 (pos n) = n < 2 ^ 32
IsNumber kind.Fixed32 (pos n) = n < 2 ^ 32
IsNumber kind.Uint64 (pos n) = n < 2 ^ 64
IsNumber kind.Fixed64 (pos n) = n < 2 ^ 64
IsNumber _ z = ⊥

-- a key of the kind
abbrev pub IsKeyOf : Kind → Key → Type 0
IsKeyOf kind.Bool (truth_key b) = Unit {0}
IsKeyOf kind.String (text_key s) = IsTrue (is_utf8 s)
IsKeyOf (kind.Enum e) k = ⊥
IsKeyOf k (number_key z) = IsNumber k z
IsKeyOf _ k = ⊥

-- a key stands before those of the pairs, so each key stands once
abbrev pub IsBefore : Key → Pairs → Type 0
IsBefore k no_pairs = Unit {0}
IsBefore k (pair l v ps) = IsTrue (key_before k l)

-- a field without presence has no default as its value (Protocol Buffers "Application Note: Field Presence")
abbrev pub IsShown : Shape → FieldShape → Val → Type 0
IsShown shape f v = IsTrue f.presence ⊎ (is_default shape f.kind v ≡ false)

-- ---- contents

-- kept records are read as no field of the type, and may be written
pub record AreKept (gs : List FieldShape) (kept : List Rec) : Type 0 where
  pub unread : all_true (map (is_kept gs) kept) ≡ true
  pub numbered : are_numbered kept ≡ true
  pub fit : are_fit kept ≡ true

-- of two members of one oneof of the type, not both have a value (Protocol Buffers "Language Guide (proto 3)": Oneof Features)
abbrev pub has_one_member : List FieldShape → Fields → Bool
has_one_member gs fs = list_all (λ f. list_all (λ g. not (is_other f g && has f.number fs && has g.number fs)) gs) gs

abbrev mutual
  -- the fields of a type by ascending number, each with a value of its kind, of each oneof at most one member, and kept records that no field reads
  pub IsSound : Shape → ℕ → Content → Type 0
  IsSound shape t (content fs kept) =
      IsAscending fs × AreSound shape (fields_of shape t) fs × IsTrue (has_one_member (fields_of shape t) fs) × AreKept (fields_of shape t) kept

  -- each number is that of a field, which may have the value
  pub AreSound : Shape → List FieldShape → Fields → Type 0
  AreSound shape gs no_fields = Unit {0}
  AreSound shape gs (field n v fs) = IsSoundAt shape (field_of n gs) v × AreSound shape gs fs

  -- the field may have the value
  pub IsSoundAt : Shape → Option FieldShape → Val → Type 0
  IsSoundAt shape None v = ⊥
  IsSoundAt shape (Some f) (number z) = (f.cardinality ≡ Singular) × IsShown shape f (number z) × IsNumber f.kind z
  IsSoundAt shape (Some f) (truth b) = (f.cardinality ≡ Singular) × IsShown shape f (truth b) × (f.kind ≡ kind.Bool)
  IsSoundAt shape (Some f) (text s) = (f.cardinality ≡ Singular) × IsShown shape f (text s) × (f.kind ≡ kind.String) × IsTrue (is_utf8 s)
  IsSoundAt shape (Some f) (octets b) = (f.cardinality ≡ Singular) × IsShown shape f (octets b) × (f.kind ≡ kind.Bytes)
  IsSoundAt shape (Some f) (message c) = (f.cardinality ≡ Singular) × ((t : ℕ) × (f.kind ≡ kind.Message t) × IsSound shape t c)
  IsSoundAt shape (Some f) (many vs) = (f.cardinality ≡ Repeated) × (is_default shape f.kind (many vs) ≡ false) × AreElements shape f.kind vs
  IsSoundAt shape (Some f) (keyed ps) = (is_default shape f.kind (keyed ps) ≡ false) × ((key : Kind) × (f.cardinality ≡ Map key) × ArePairs shape key f.kind ps)

  -- values of the kind
  pub AreElements : Shape → Kind → Vals → Type 0
  AreElements shape k no_vals = Unit {0}
  AreElements shape k (val v vs) = IsElement shape k v × AreElements shape k vs

  -- values of the kind under keys of the kind, which ascend
  pub ArePairs : Shape → Kind → Kind → Pairs → Type 0
  ArePairs shape key k no_pairs = Unit {0}
  ArePairs shape key k (pair l v ps) = IsKeyOf key l × IsElement shape k v × IsBefore l ps × ArePairs shape key k ps

  -- a value of the kind
  pub IsElement : Shape → Kind → Val → Type 0
  IsElement shape k (number z) = IsNumber k z
  IsElement shape k (truth b) = k ≡ kind.Bool
  IsElement shape k (text s) = (k ≡ kind.String) × IsTrue (is_utf8 s)
  IsElement shape k (octets b) = k ≡ kind.Bytes
  IsElement shape k (message c) = (t : ℕ) × (k ≡ kind.Message t) × IsSound shape t c
  IsElement shape k (many vs) = ⊥
  IsElement shape k (keyed ps) = ⊥

-- ---- levels

abbrev mutual
  -- how many levels of messages, map entries and groups stand below the top, those of groups among the kept records too
  pub depth : Content → ℕ
  depth (content fs kept) = max (fields_depth fs) (depth_of kept)

  -- the deepest of the values
  pub fields_depth : Fields → ℕ
  fields_depth no_fields = 0
  fields_depth (field n v fs) = max (val_depth v) (fields_depth fs)

  -- a message is one level
  pub val_depth : Val → ℕ
  val_depth (number z) = 0
  val_depth (truth b) = 0
  val_depth (text s) = 0
  val_depth (octets b) = 0
  val_depth (message c) = depth c + 1
  val_depth (many vs) = vals_depth vs
  val_depth (keyed ps) = pairs_depth ps

  -- the deepest of the elements
  pub vals_depth : Vals → ℕ
  vals_depth no_vals = 0
  vals_depth (val v vs) = max (val_depth v) (vals_depth vs)

  -- the deepest of the entries, each of which is one level
  pub pairs_depth : Pairs → ℕ
  pairs_depth no_pairs = 0
  pairs_depth (pair k v ps) = max (val_depth v + 1) (pairs_depth ps)

-- each message in a field of the top has at most 100 levels below its own top, and groups that are kept there nest at most 100
abbrev pub PartsFit : Content → Type 0
PartsFit (content fs kept) = (fields_depth fs ≤ 101) × (depth_of kept ≤ 100)
