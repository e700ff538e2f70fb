-- What holds of contents whose fields are set and cleared, of values that may be set, and of keys of maps.
use Rattle.std.specs.Prelude.{◌≡◌, ◌↔◌, ℕ, ◌==◌, nat_lt, ℤ, pos, int_lt, Bool, false, not, ◌&&◌, Some, None, if◌then◌else◌, is_some, List}
use Rattle.std.specs.List.{AllByRecursion}
use Rattle.pbx_content.specs.declared.shape.Kind.{Kind}
use Rattle.pbx_content.specs.declared.shape.FieldShape.{FieldShape}
use Rattle.pbx_content.specs.declared.shape.Shape.{Shape}
use Rattle.pbx_content.specs.Content.{Content, Fields, Val, empty, fields, kept, get, has, without, with_fields, IsAscending, vals_of, pairs_of}
use Rattle.pbx_content.specs.Content.{Key, truth_key, number_key, text_key, key_before, bytes_before}
use Rattle.pbx_content.specs.Shape.{declared_of, fields_of, field_of, is_float}
use Rattle.pbx_content.specs.Sound.{AreProper, IsSound, AreElements, ArePairs, IsElement}
use Rattle.pbx_message_laws.specs.Fields.{is_number_of_other, value_kept, set_value}
use Rattle.pbx_message_laws.specs.Settable.{IsPairOf, AscendByKey, IsSettable}

-- ---- what a message may hold

-- A message of any type may hold nothing.
abbrev pub EmptyIsSound : Type 0
EmptyIsSound = (shape : Shape) (t : ℕ) → IsSound shape t empty

-- Where a field of the type is set to a value that it may have, the message may hold what is then there.
abbrev pub SettingIsSound : Type 0
SettingIsSound =
    (shape : Shape) (t n : ℕ) (f : FieldShape) (v : Val) (c : Content) → AreProper (declared_of shape t) → IsSound shape t c
    → field_of n (fields_of shape t) ≡ Some f → IsSettable shape f v
    → IsSound shape t (set_value shape (fields_of shape t) f v c)

-- The same where the value of any number is taken away.
abbrev pub ClearingIsSound : Type 0
ClearingIsSound = (shape : Shape) (t n : ℕ) (c : Content) → IsSound shape t c → IsSound shape t (with_fields c (without n (fields c)))

-- ---- values by number

-- The numbers of what a message may hold ascend.
abbrev pub SoundAscends : Type 0
SoundAscends = (shape : Shape) (t : ℕ) (c : Content) → IsSound shape t c → IsAscending (fields c)

-- After f is set it has the value that it keeps, the other members of its oneof have none, and all other fields have what they had.
abbrev pub SetIs : Type 0
SetIs =
    (shape : Shape) (gs : List FieldShape) (f : FieldShape) (v : Val) (c : Content) (n : ℕ) → IsAscending (fields c)
    → get n (fields (set_value shape gs f v c))
    ≡ (if n == f.number then value_kept shape f v else (if is_number_of_other f gs n then None else get n (fields c)))

-- Where the value of a number is taken away there is none, and all other fields have what they had.
abbrev pub ClearedIs : Type 0
ClearedIs =
    (c : Content) (m n : ℕ) → IsAscending (fields c) → get n (fields (with_fields c (without m (fields c)))) ≡ (if n == m then None else get n (fields c))

-- So the field that was set has the value that it keeps,
abbrev pub SetIsGot : Type 0
SetIsGot =
    (shape : Shape) (gs : List FieldShape) (f : FieldShape) (v : Val) (c : Content) → IsAscending (fields c)
    → get f.number (fields (set_value shape gs f v c)) ≡ value_kept shape f v

-- and what was taken away is not there.
abbrev pub ClearedIsGone : Type 0
ClearedIsGone = (c : Content) (n : ℕ) → IsAscending (fields c) → get n (fields (with_fields c (without n (fields c)))) ≡ None

-- A field has a value exactly where one is found.
abbrev pub HasIsGet : Type 0
HasIsGet = (n : ℕ) (fs : Fields) → has n fs ≡ is_some (get n fs)

-- Records that no field reads stay.
abbrev pub SettingKeeps : Type 0
SettingKeeps = (c : Content) (fs : Fields) → (kept (with_fields c fs) ≡ kept c) × (fields (with_fields c fs) ≡ fs)

-- ---- values that may be set

-- A value that is there is one of a field of the type, no float, which may be set to it.
abbrev pub SoundIsSettable : Type 0
SoundIsSettable =
    (shape : Shape) (t n : ℕ) (c : Content) (v : Val) → IsSound shape t c → get n (fields c) ≡ Some v
    → (f : FieldShape) × (field_of n (fields_of shape t) ≡ Some f) × (is_float f.kind ≡ false) × IsSettable shape f v

-- The values of a list are of the kind exactly where each is.
abbrev pub ListIsOfKind : Type 0
ListIsOfKind = (shape : Shape) (k : Kind) (vs : List Val) → AreElements shape k (vals_of vs) ↔ AllByRecursion (IsElement shape k) vs

-- The pairs of a map are of the kinds exactly where each is and their keys ascend.
abbrev pub MapIsOfKinds : Type 0
MapIsOfKinds =
    (shape : Shape) (key k : Kind) (ps : List (Key × Val)) → ArePairs shape key k (pairs_of ps) ↔ (AllByRecursion (IsPairOf shape key k) ps × AscendByKey ps)

-- Keys that are numbers ascend as the numbers do,
abbrev pub SignedInOrder : Type 0
SignedInOrder = (a b : ℤ) → key_before (number_key a) (number_key b) ≡ int_lt a b

-- without a sign too,
abbrev pub UnsignedInOrder : Type 0
UnsignedInOrder = (m n : ℕ) → key_before (number_key (pos m)) (number_key (pos n)) ≡ nat_lt m n

-- of truth values false stands before true,
abbrev pub TruthsInOrder : Type 0
TruthsInOrder = (a b : Bool) → key_before (truth_key a) (truth_key b) ≡ (not a && b)

-- and texts ascend by their bytes.
abbrev pub TextsInOrder : Type 0
TextsInOrder = (s t : List ℕ) → key_before (text_key s) (text_key t) ≡ bytes_before s t
