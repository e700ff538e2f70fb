-- Laws of the definitions, each proved as the contract of a public function.
use Rattle.std.specs.Prelude.{◌≡◌, ◌≢◌, ◌⊎◌, ℕ, zero, suc, ◌-◌, ◌≤◌, ◌<◌, ◌^◌, max, ◌↔◌, List, [], ◌∷◌, ◌++◌, length, Bool, true, false, ◌||◌, ◌==◌}
use Rattle.std.specs.Prelude.{Option, Some, None, option_and_then, Ok, Err, if◌then◌else◌}
use Rattle.pbx_wire.specs.declared.error.DecodeError.{DecodeError}
use Rattle.pbx_wire.specs.declared.error.DecodeError.TheVariants as errors
use Rattle.pbx_wire.specs.declared.rec.Rec.{Rec}
use Rattle.pbx_wire.specs.Spelling.{Spells}
use Rattle.pbx_wire.specs.Faults.{shifted, offset_of, SpellsOne, BreaksOne}
use Rattle.pbx_wire.specs.Front.{IsFrontKey}
use Rattle.pbx_wire.specs.Reading.{varint_at}
use Rattle.pbx_content.specs.declared.shape.FieldShape.{FieldShape}
use Rattle.pbx_content.specs.declared.shape.Kind.{Kind}
use Rattle.pbx_content.specs.declared.shape.Shape.{Shape}
use Rattle.pbx_content.specs.Content.{Content, content, empty, fields, kept, Fields, get, IsAscending, Val}
use Rattle.pbx_content.specs.Records.{number_of, bytes_of, those_of, sorted, records_in, varints_in}
use Rattle.pbx_content.specs.Shape.{fields_of, entry_fields, field_of, is_float, is_kept, is_other, as_varint}
use Rattle.pbx_content.specs.Meaning.{records_of, meaning, meaning_within, meaning_of, parts_meaning_of}
use Rattle.pbx_content.specs.Onto.{InnerOnto, value_onto, meaning_onto, merged_of}
use Rattle.pbx_content.specs.Encoding.{encoded}
use Rattle.pbx_content.specs.Same.{Same, Decodes, DecodesWithin, DecodesParts}
use Rattle.pbx_content.specs.Sound.{IsProper, IsSound, depth, PartsFit}
use Rattle.pbx_content.specs.Faults.{reads, payload_fields, HasLongNumber, EndsInNumber, RecBreaks, PayloadFaults, BreaksField, MessageFaults}
use Rattle.pbx_content.specs.Faults.{MessageFaultsLayer, IsFaultOf, IsFaultOfParts, IsFirst}

-- the content's text has a length that a length on the wire may say, as each text in memory has
abbrev pub IsShort : Shape → ℕ → Content → Type 0
IsShort shape t c = length (encoded shape t c) < 2 ^ 64

-- ---- what is written is read

-- What is written for a content decodes to it.
abbrev pub EncodingDecodes : Type 0
EncodingDecodes =
    (shape : Shape) (t : ℕ) (c : Content) → IsProper shape → IsSound shape t c → IsShort shape t c → depth c ≤ 100 → Decodes shape t (encoded shape t c) c

-- the same within any levels that the content does not pass
abbrev pub EncodingDecodesWithin : Type 0
EncodingDecodesWithin =
    (shape : Shape) (levels t : ℕ) (c : Content)
    → IsProper shape → IsSound shape t c → IsShort shape t c → depth c ≤ levels → DecodesWithin shape levels t (encoded shape t c) c

-- the same part by part, where each part has at most 100 levels of its own
abbrev pub EncodingDecodesParts : Type 0
EncodingDecodesParts =
    (shape : Shape) (t : ℕ) (c : Content) → IsProper shape → IsSound shape t c → IsShort shape t c → PartsFit c → DecodesParts shape t (encoded shape t c) c

-- What bytes mean, a message may have, and it nests at most one level deeper than they may: an entry at the last level may lack its message,
-- which is there as a default.
abbrev pub MeaningIsSound : Type 0
MeaningIsSound =
    (shape : Shape) (levels t : ℕ) (bytes : List ℕ) (c : Content)
    → IsProper shape → meaning_within shape levels (fields_of shape t) bytes ≡ Some c → IsSound shape t c × (depth c ≤ suc levels)

-- The same part by part.
abbrev pub PartsMeaningIsSound : Type 0
PartsMeaningIsSound =
    (shape : Shape) (t : ℕ) (bytes : List ℕ) (c : Content) → IsProper shape → parts_meaning_of shape t bytes ≡ Some c → IsSound shape t c

-- ---- contents that are the same

-- Bytes decode to one content, up to `Same`.
abbrev pub DecodesToOne : Type 0
DecodesToOne = (shape : Shape) (t : ℕ) (bytes : List ℕ) (c d : Content) → Decodes shape t bytes c → Decodes shape t bytes d → Same shape t c d

-- Bytes decode to what is the same as what they decode to.
abbrev pub DecodesToSame : Type 0
DecodesToSame = (shape : Shape) (t : ℕ) (bytes : List ℕ) (c d : Content) → Decodes shape t bytes c → Same shape t c d → Decodes shape t bytes d

-- Contents that are the same are written alike.
abbrev pub SameIsWrittenAlike : Type 0
SameIsWrittenAlike = (shape : Shape) (t : ℕ) (c d : Content) → Same shape t c d → encoded shape t c ≡ encoded shape t d

-- A content is the same as itself.
abbrev pub SameIsReflexive : Type 0
SameIsReflexive = (shape : Shape) (t : ℕ) (c : Content) → Same shape t c c

-- Of contents that are the same, each is the same as the other.
abbrev pub SameIsSymmetric : Type 0
SameIsSymmetric = (shape : Shape) (t : ℕ) (c d : Content) → Same shape t c d → Same shape t d c

-- What is the same as what is the same is the same.
abbrev pub SameIsTransitive : Type 0
SameIsTransitive = (shape : Shape) (t : ℕ) (c d e : Content) → Same shape t c d → Same shape t d e → Same shape t c e

-- Sorting tells records apart exactly where their lists of some number differ, so `Same` says: equal lists of kept records of each number.
abbrev pub SortedAlike : Type 0
SortedAlike = (rs ss : List Rec) → (sorted rs ≡ sorted ss) ↔ ((n : ℕ) → those_of n rs ≡ those_of n ss)

-- ---- records behind a content

-- Behind nothing, records mean what they mean.
abbrev pub OntoEmpty : Type 0
OntoEmpty = (shape : Shape) (levels : ℕ) (fs : List FieldShape) (rs : List Rec) → meaning_onto shape levels fs empty rs ≡ meaning shape levels fs rs

-- Behind what records mean, others mean what all mean together.
abbrev pub OntoIsFollowing : Type 0
OntoIsFollowing =
    (shape : Shape) (levels t : ℕ) (rs ss : List Rec) (c : Content)
    → IsProper shape → meaning shape levels (fields_of shape t) rs ≡ Some c
    → meaning_onto shape levels (fields_of shape t) c ss ≡ meaning shape levels (fields_of shape t) (rs ++ ss)

-- Merging bytes into any content that a message may have, and whose payloads are as short as memory has them, is reading its canonical records and theirs
-- behind them: the content itself may nest deeper than is read, and so do all together, with as many levels as it takes and at least the 100 that the
-- bytes have.
abbrev pub MergedIsFollowing : Type 0
MergedIsFollowing =
    (shape : Shape) (levels t : ℕ) (old new : Content) (bytes : List ℕ)
    → IsProper shape → IsSound shape t old → IsShort shape t old → depth old ≤ levels → 100 ≤ levels → merged_of shape t old bytes ≡ Some new
    → DecodesWithin shape levels t (encoded shape t old ++ bytes) new

-- Bytes are merged exactly where they mean something by themselves.
abbrev pub MergedJudgesTheNew : Type 0
MergedJudgesTheNew =
    (shape : Shape) (t : ℕ) (old : Content) (bytes : List ℕ) → (merged_of shape t old bytes ≡ None) ↔ (meaning_of shape t bytes ≡ None)

-- Records mean something behind a content exactly where they mean something by themselves.
abbrev pub OntoJudgesTheNew : Type 0
OntoJudgesTheNew =
    (shape : Shape) (levels : ℕ) (fs : List FieldShape) (old : Content) (rs : List Rec)
    → (meaning_onto shape levels fs old rs ≡ None) ↔ (meaning shape levels fs rs ≡ None)

-- What bytes mean behind a content that a message may have, a message may have.
abbrev pub MergedIsSound : Type 0
MergedIsSound =
    (shape : Shape) (t : ℕ) (old new : Content) (bytes : List ℕ)
    → IsProper shape → IsSound shape t old → merged_of shape t old bytes ≡ Some new → IsSound shape t new

-- It nests no deeper than the content, or than what bytes alone mean may (`MeaningIsSound`).
abbrev pub MergedIsShallow : Type 0
MergedIsShallow =
    (shape : Shape) (t : ℕ) (old new : Content) (bytes : List ℕ)
    → IsProper shape → IsSound shape t old → merged_of shape t old bytes ≡ Some new → depth new ≤ max (depth old) 101

-- ---- faults

-- Bytes mean something, or break a rule.
abbrev pub MeansOrFaulty : Type 0
MeansOrFaulty =
    (shape : Shape) (levels t : ℕ) (bytes : List ℕ) → IsProper shape
    → ((c : Content) × (meaning_within shape levels (fields_of shape t) bytes ≡ Some c))
    ⊎ ((e : DecodeError) × MessageFaults shape levels (fields_of shape t) bytes e)

-- Bytes that break a rule mean nothing.
abbrev pub FaultyMeansNothing : Type 0
FaultyMeansNothing =
    (shape : Shape) (levels t : ℕ) (bytes : List ℕ) (e : DecodeError) → IsProper shape
    → MessageFaults shape levels (fields_of shape t) bytes e → meaning_within shape levels (fields_of shape t) bytes ≡ None

-- Part by part: bytes mean something, or break a rule.
abbrev pub PartsMeanOrFaulty : Type 0
PartsMeanOrFaulty =
    (shape : Shape) (t : ℕ) (bytes : List ℕ) → IsProper shape
    → ((c : Content) × (parts_meaning_of shape t bytes ≡ Some c)) ⊎ ((e : DecodeError) × IsFaultOfParts shape t bytes e)

-- Part by part: bytes that break a rule mean nothing.
abbrev pub FaultyPartsMeanNothing : Type 0
FaultyPartsMeanNothing =
    (shape : Shape) (t : ℕ) (bytes : List ℕ) (e : DecodeError) → IsProper shape → IsFaultOfParts shape t bytes e → parts_meaning_of shape t bytes ≡ None

-- ---- faults record by record

-- What bytes mean with at most so many levels of groups, and so many of messages and map entries: as many of both where a message is read whole
-- (`meaning_within`), and 100 and 101 where it is read part by part (`parts_meaning_of`).
abbrev pub meaning_with : Shape → ℕ → ℕ → List FieldShape → List ℕ → Option Content
meaning_with shape groups messages fs bytes = option_and_then (meaning shape messages fs) (records_in groups bytes)

-- the faults of payloads of fields, where so many levels of messages and map entries are left
abbrev pub payload_faults : Shape → ℕ → PayloadFaults
payload_faults shape zero = λ fs bytes e. ⊥
payload_faults shape (suc messages) = MessageFaults shape messages

-- which rule the bytes break, with as many levels of each (`MessageFaults`, and `IsFaultOfParts` of parts)
abbrev pub FaultsWith : Shape → ℕ → ℕ → PayloadFaults
FaultsWith shape groups messages fs bytes e = MessageFaultsLayer shape (payload_faults shape messages) groups fs bytes e

-- the first of them
abbrev pub IsFirstWith : Shape → ℕ → ℕ → List FieldShape → List ℕ → DecodeError → Type 0
IsFirstWith shape groups messages fs bytes e = IsFirst (meaning_with shape groups messages fs bytes) (FaultsWith shape groups messages fs bytes) e

-- the fields of a message type, or of an entry of a map
abbrev pub AreFieldsOf : Shape → List FieldShape → Type 0
AreFieldsOf shape fs = ((t : ℕ) × (fs ≡ fields_of shape t)) ⊎ ((key : Kind) × (value : Kind) × (fs ≡ entry_fields key value))

-- A message of a proper shape, or an entry of one of its maps, is read, and levels of groups are left exactly where levels of messages are.
pub record IsReadWith (shape : Shape) (groups messages : ℕ) (fs : List FieldShape) : Type 0 where
  pub proper : IsProper shape
  pub left : (groups ≡ 0) ↔ (messages ≡ 0)
  pub fields : AreFieldsOf shape fs

-- With as many levels of groups as of messages, the faults are those of a message.
abbrev pub MessageFaultsAreWith : Type 0
MessageFaultsAreWith =
    (shape : Shape) (levels : ℕ) (fs : List FieldShape) (bytes : List ℕ) (e : DecodeError)
    → MessageFaults shape levels fs bytes e ↔ FaultsWith shape levels levels fs bytes e

-- Bytes mean something, or break a rule.
abbrev pub MeansOrFaultyWith : Type 0
MeansOrFaultyWith =
    (shape : Shape) (groups messages : ℕ) (fs : List FieldShape) (bytes : List ℕ) → IsReadWith shape groups messages fs
    → ((c : Content) × (meaning_with shape groups messages fs bytes ≡ Some c)) ⊎ ((e : DecodeError) × FaultsWith shape groups messages fs bytes e)

-- Bytes that break a rule mean nothing.
abbrev pub FaultyMeansNothingWith : Type 0
FaultyMeansNothingWith =
    (shape : Shape) (groups messages : ℕ) (fs : List FieldShape) (bytes : List ℕ) (e : DecodeError) → IsReadWith shape groups messages fs
    → FaultsWith shape groups messages fs bytes e → meaning_with shape groups messages fs bytes ≡ None

-- The first fault with as many levels of both is the first fault of a message.
abbrev pub FirstIsWith : Type 0
FirstIsWith =
    (shape : Shape) (levels : ℕ) (fs : List FieldShape) (bytes : List ℕ) (e : DecodeError)
    → IsFirst (meaning_within shape levels fs bytes) (MessageFaults shape levels fs bytes) e ↔ IsFirstWith shape levels levels fs bytes e

-- Behind records that mean something, the faults are those of the rest.
abbrev pub FaultsBehind : Type 0
FaultsBehind =
    (shape : Shape) (groups messages : ℕ) (fs : List FieldShape) (before rest : List ℕ) (rs : List Rec) (c : Content) (e : DecodeError)
    → IsReadWith shape groups messages fs → Spells groups before rs → meaning shape messages fs rs ≡ Some c
    → FaultsWith shape groups messages fs (before ++ rest) e
    ↔ ((own : DecodeError) × FaultsWith shape groups messages fs rest own × (e ≡ shifted (length before) own))

-- So the first of the rest is the first of all.
abbrev pub FirstBehind : Type 0
FirstBehind =
    (shape : Shape) (groups messages : ℕ) (fs : List FieldShape) (before rest : List ℕ) (rs : List Rec) (c : Content) (e : DecodeError)
    → IsReadWith shape groups messages fs → Spells groups before rs → meaning shape messages fs rs ≡ Some c
    → IsFirstWith shape groups messages fs rest e → IsFirstWith shape groups messages fs (before ++ rest) (shifted (length before) e)

-- ---- faults of the record at the front

-- A fault that is told at the key of the record at the front is a first one.
abbrev pub FirstAtFront : Type 0
FirstAtFront =
    (shape : Shape) (groups messages : ℕ) (fs : List FieldShape) (bytes : List ℕ) (e : DecodeError)
    → IsReadWith shape groups messages fs → BreaksOne groups bytes e ⊎ BreaksField shape (payload_faults shape messages) groups fs bytes e → offset_of e ≡ 0
    → IsFirstWith shape groups messages fs bytes e

-- a record of this wire type may be one of the field, or is kept, or it is the end of a group
abbrev pub takes_type : Option FieldShape → ℕ → Bool
takes_type None w = true
takes_type (Some f) w = is_float f.kind || (w == 4 || reads f.cardinality f.kind w)

-- the key at the front, where there is one, is not that of a field with a wire type that the field does not read
abbrev pub takes_key : List FieldShape → Option (ℕ × ℕ) → Bool
takes_key fs None = true
takes_key fs (Some key) = takes_type (field_of key.0 fs) key.1

-- A key with a wire type that its field does not read is a first fault, whatever comes behind it.
abbrev pub FirstByKey : Type 0
FirstByKey =
    (shape : Shape) (groups messages : ℕ) (fs : List FieldShape) (bytes : List ℕ) (key : Option (ℕ × ℕ))
    → IsReadWith shape groups messages fs → IsFrontKey bytes key → takes_key fs key ≡ false
    → IsFirstWith shape groups messages fs bytes (errors.WireType 0)

-- Behind any other key the fault of a record that is not spelled is a first one, also inside a group.
abbrev pub FirstOfRecord : Type 0
FirstOfRecord =
    (shape : Shape) (groups messages : ℕ) (fs : List FieldShape) (bytes : List ℕ) (key : Option (ℕ × ℕ)) (e : DecodeError)
    → IsReadWith shape groups messages fs → IsFrontKey bytes key → takes_key fs key ≡ true → BreaksOne groups bytes e
    → IsFirstWith shape groups messages fs bytes e

-- What a record that is spelled breaks as one of its field is a first fault.
abbrev pub FirstAsField : Type 0
FirstAsField =
    (shape : Shape) (groups messages : ℕ) (fs : List FieldShape) (first rest : List ℕ) (r : Rec) (f : FieldShape) (e : DecodeError)
    → IsReadWith shape groups messages fs → SpellsOne groups first r → field_of (number_of r) fs ≡ Some f → is_float f.kind ≡ false
    → RecBreaks shape groups f r e
    → IsFirstWith shape groups messages fs (first ++ rest) e

-- The first fault of a payload, as a message or map entry, is a first fault; the payload ends where the record ends.
abbrev pub FirstInPayload : Type 0
FirstInPayload =
    (shape : Shape) (groups messages : ℕ) (fs gs : List FieldShape) (first rest payload : List ℕ) (r : Rec) (f : FieldShape) (e : DecodeError)
    → IsReadWith shape groups (suc messages) fs → SpellsOne groups first r → field_of (number_of r) fs ≡ Some f → is_float f.kind ≡ false
    → payload_fields shape f.cardinality f.kind ≡ Some gs → bytes_of r ≡ Some payload → IsFirstWith shape messages messages gs payload e
    → IsFirstWith shape groups (suc messages) fs (first ++ rest) (shifted (length first - length payload) e)

-- the payload of the record is a message or map entry of the field, and means nothing
abbrev pub PayloadMeansNothing : Shape → ℕ → FieldShape → Rec → Type 0
PayloadMeansNothing shape messages f r =
    (deeper : ℕ) × (gs : List FieldShape) × (payload : List ℕ) × (messages ≡ suc deeper)
    × (payload_fields shape f.cardinality f.kind ≡ Some gs) × (bytes_of r ≡ Some payload) × (meaning_within shape deeper gs payload ≡ None)

-- A record of a field means nothing alone exactly where it breaks a rule as one of the field, or its payload means nothing.
abbrev pub RecMeansNothing : Type 0
RecMeansNothing =
    (shape : Shape) (groups messages : ℕ) (fs : List FieldShape) (r : Rec) (f : FieldShape)
    → IsReadWith shape groups messages fs → field_of (number_of r) fs ≡ Some f → is_float f.kind ≡ false
    → (meaning shape messages fs (r ∷ []) ≡ None) ↔ (((e : DecodeError) × RecBreaks shape groups f r e) ⊎ PayloadMeansNothing shape messages f r)

-- ---- numbers of a packed payload, one by one

-- Behind varints that are read, one more may be read.
abbrev pub NumbersGoOn : Type 0
NumbersGoOn =
    (at : ℕ) (before rest after numbers : List ℕ) (v : ℕ) → varints_in (length before) before ≡ Some numbers → varint_at at 9 rest ≡ Ok (v, after)
    → (text : List ℕ) × (rest ≡ text ++ after) × (varints_in (length (before ++ text)) (before ++ text) ≡ Some (numbers ++ v ∷ []))

-- Behind varints that are read, a rest that is none tells which rule the payload breaks.
abbrev pub NumbersStop : Type 0
NumbersStop =
    (at : ℕ) (before rest numbers : List ℕ) (e : DecodeError) → varints_in (length before) before ≡ Some numbers → rest ≢ [] → varint_at at 9 rest ≡ Err e
    → ((e ≡ errors.Varint at) × HasLongNumber as_varint (before ++ rest)) ⊎ ((e ≡ errors.Underflow at) × EndsInNumber as_varint (before ++ rest))

-- ---- records one by one

-- The records of bytes one after another are spelled one after another.
abbrev pub SpelledNext : Type 0
SpelledNext =
    (levels : ℕ) (before first : List ℕ) (rs : List Rec) (r : Rec) → Spells levels before rs → SpellsOne levels first r
    → Spells levels (before ++ first) (rs ++ r ∷ [])

-- Behind a content, records mean what the last of them mean behind what the others mean there.
abbrev pub OntoAppends : Type 0
OntoAppends =
    (shape : Shape) (levels : ℕ) (fs : List FieldShape) (old new : Content) (rs ss : List Rec)
    → IsProper shape → AreFieldsOf shape fs → meaning_onto shape levels fs old rs ≡ Some new
    → meaning_onto shape levels fs old (rs ++ ss) ≡ meaning_onto shape levels fs new ss

-- Records that mean something behind a content mean something by themselves.
abbrev pub OntoMeansAlone : Type 0
OntoMeansAlone =
    (shape : Shape) (levels : ℕ) (fs : List FieldShape) (old new : Content) (rs : List Rec)
    → meaning_onto shape levels fs old rs ≡ Some new → (c : Content) × (meaning shape levels fs rs ≡ Some c)

-- The first fault of bytes is the first also where they are read behind a content.
abbrev pub FirstIsMerged : Type 0
FirstIsMerged =
    (shape : Shape) (t : ℕ) (old : Content) (bytes : List ℕ) (e : DecodeError)
    → IsFirst (meaning_of shape t bytes) (IsFaultOf shape t bytes) e ↔ IsFirst (merged_of shape t old bytes) (IsFaultOf shape t bytes) e

-- ---- one record

-- what payloads mean behind contents, with so many levels of messages and map entries left
abbrev pub payload_onto : Shape → ℕ → InnerOnto
payload_onto shape zero = λ fs c bs. None
payload_onto shape (suc levels) = λ fs c bs. option_and_then (meaning_onto shape levels fs c) (records_of levels bs)

-- where no record comes, the content stays as it is
abbrev pub IsStableIn : Shape → ℕ → List FieldShape → Content → Type 0
IsStableIn shape levels fs c = meaning_onto shape levels fs c [] ≡ Some c

-- An empty content is stable.
abbrev pub EmptyIsStable : Type 0
EmptyIsStable = (shape : Shape) (levels : ℕ) (fs : List FieldShape) → IsStableIn shape levels fs empty

-- So is what records mean behind a content.
abbrev pub OntoIsStable : Type 0
OntoIsStable =
    (shape : Shape) (levels : ℕ) (fs : List FieldShape) (old new : Content) (rs : List Rec)
    → IsProper shape → AreFieldsOf shape fs → meaning_onto shape levels fs old rs ≡ Some new → IsStableIn shape levels fs new

-- So is each content that a message may have.
abbrev pub SoundIsStable : Type 0
SoundIsStable =
    (shape : Shape) (levels t : ℕ) (c : Content) → IsProper shape → IsSound shape t c → IsStableIn shape levels (fields_of shape t) c

-- Where no record comes, each field has what no record leaves of its value.
abbrev pub OntoNothing : Type 0
OntoNothing =
    (shape : Shape) (levels : ℕ) (fs : List FieldShape) (old : Content) (new : Fields)
    → IsProper shape → AreFieldsOf shape fs → IsAscending new → ((n : ℕ) → field_of n fs ≡ None → get n new ≡ None)
    → ((g : FieldShape) → field_of g.number fs ≡ Some g
    → value_onto shape (payload_onto shape levels) g (get g.number (fields old)) [] ≡ Some (get g.number new))
    → meaning_onto shape levels fs old [] ≡ Some (content new (kept old))

-- A record that no field reads is kept behind the others.
abbrev pub OntoKeepsOne : Type 0
OntoKeepsOne =
    (shape : Shape) (levels : ℕ) (fs : List FieldShape) (old : Content) (r : Rec)
    → IsProper shape → AreFieldsOf shape fs → IsStableIn shape levels fs old → is_kept fs r ≡ true
    → meaning_onto shape levels fs old (r ∷ []) ≡ Some (content (fields old) (kept old ++ r ∷ []))

-- what g has once f has a new value: nothing where f is another member of its oneof
abbrev pub value_beside : FieldShape → Option Val → FieldShape → Option Val → Option Val
value_beside f new g old = if g.number == f.number then new else if is_other g f then None else old

-- A record of a field changes the field, and takes the values of the other members of its oneof away.
abbrev pub OntoReadsOne : Type 0
OntoReadsOne =
    (shape : Shape) (levels : ℕ) (fs : List FieldShape) (old : Content) (new : Fields) (r : Rec) (f : FieldShape) (v : Option Val)
    → IsProper shape → AreFieldsOf shape fs → IsStableIn shape levels fs old → field_of (number_of r) fs ≡ Some f → is_float f.kind ≡ false
    → value_onto shape (payload_onto shape levels) f (get f.number (fields old)) (r ∷ []) ≡ Some v
    → IsAscending new → ((n : ℕ) → field_of n fs ≡ None → get n new ≡ None)
    → ((g : FieldShape) → field_of g.number fs ≡ Some g → get g.number new ≡ value_beside f v g (get g.number (fields old)))
    → meaning_onto shape levels fs old (r ∷ []) ≡ Some (content new (kept old))
