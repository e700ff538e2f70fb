-- Which rule bytes break as a message of a type, and in which record: the number of a fault is the offset of that record's key in the bytes.
-- Nothing here reads: the bytes before the record are spelled, and the bytes from its key on break the rule.
use Rattle.std.specs.Prelude.{◌≡◌, ◌≢◌, ◌⊎◌, ℕ, zero, suc, ◌%◌, ◌<◌, ◌≤◌, List, [], ◌++◌, length, Bool, true, false, IsTrue, ◌&&◌, ◌||◌, ◌==◌, Option}
use Rattle.std.specs.Prelude.{Some, None, is_some}
use Rattle.std.specs.Str.{is_utf8}
use Rattle.pbx_wire.specs.Spelling.{IsVarint, IsKey, Spells}
use Rattle.pbx_wire.specs.Faults.{shifted, offset_of, BeginsWith, IsLongVarint, EndsInVarint, BreaksOne}
use Rattle.pbx_wire.specs.declared.error.DecodeError.{DecodeError}
use Rattle.pbx_wire.specs.declared.error.DecodeError.TheVariants as errors
use Rattle.pbx_wire.specs.declared.rec.Rec.{Rec, Varint, Fixed64, Bytes, Group', Fixed32}
use Rattle.pbx_content.specs.declared.shape.Kind.{Kind}
use Rattle.pbx_content.specs.declared.shape.Kind.TheVariants as kind
use Rattle.pbx_content.specs.declared.shape.Cardinality.{Cardinality}
use Rattle.pbx_content.specs.declared.shape.Cardinality.TheVariants.{Singular, Repeated, Map}
use Rattle.pbx_content.specs.declared.shape.Shape.{Shape}
use Rattle.pbx_content.specs.declared.shape.FieldShape.{FieldShape}
use Rattle.pbx_content.specs.Content.{Content}
use Rattle.pbx_content.specs.Records.{bytes_of, varints_in}
use Rattle.pbx_content.specs.Shape.{fields_of, entry_fields, field_of, is_float, is_packable, Form, as_varint, as_four, as_eight, as_payload, form_of}

-- ---- what a field reads

-- the wire type of a form (Protocol Buffers "Encoding": Message Structure)
abbrev pub wire_type : Form → ℕ
wire_type as_varint = 0
wire_type as_eight = 1
wire_type as_payload = 2
wire_type as_four = 5

-- the wire types that records of such a field have: a list of numbers may be packed, and a map has entries
-- (Protocol Buffers "Encoding": Message Structure, Packed Repeated Fields, Maps)
abbrev pub reads : Cardinality → Kind → ℕ → Bool
reads Singular k w = w == wire_type (form_of k)
reads Repeated k w = w == wire_type (form_of k) || (is_packable k && w == 2)
reads (Map key) k w = w == 2

-- payloads of such a field are texts, which are UTF-8 (Protocol Buffers "Language Guide (proto 3)": Scalar Value Types)
abbrev pub is_of_texts : Cardinality → Kind → Bool
is_of_texts Singular kind.String = true
is_of_texts Repeated kind.String = true
is_of_texts _ _ = false

-- payloads of such a field hold numbers (Protocol Buffers "Encoding": Packed Repeated Fields)
abbrev pub is_of_numbers : Cardinality → Kind → Bool
is_of_numbers Repeated k = is_packable k
is_of_numbers Singular k = false
is_of_numbers (Map key) k = false

-- the fields of the messages of a kind
abbrev pub message_fields : Shape → Kind → Option (List FieldShape)
message_fields shape (kind.Message t) = Some (fields_of shape t)
message_fields shape _ = None

-- the fields of the messages, or map entries, that payloads of such a field are (Protocol Buffers "Encoding": Submessages, Maps)
abbrev pub payload_fields : Shape → Cardinality → Kind → Option (List FieldShape)
payload_fields shape Singular k = message_fields shape k
payload_fields shape Repeated k = message_fields shape k
payload_fields shape (Map key) k = Some (entry_fields key k)

-- ---- the record at the front

-- a record of this number and payload stands at the front, with so much of it before the payload
abbrev pub HasPayload : ℕ → List ℕ → List ℕ → List ℕ → Type 0
HasPayload n head payload bytes =
    (key : List ℕ) × (len : List ℕ) × (after : List ℕ)
    × IsKey key n 2 × IsVarint len (length payload) × (head ≡ key ++ len) × (bytes ≡ head ++ payload ++ after)

-- whole varints, and behind them such bytes
abbrev pub VarintsThen : List ℕ → (List ℕ → Type 0) → Type 0
VarintsThen payload P =
    (before : List ℕ) × (numbers : List ℕ) × (rest : List ℕ) × (varints_in (length before) before ≡ Some numbers) × P rest × (payload ≡ before ++ rest)

-- numbers, and behind them a varint of more than ten bytes or more than 64 bits
abbrev pub HasLongNumber : Form → List ℕ → Type 0
HasLongNumber form payload = (form ≡ as_varint) × VarintsThen payload IsLongVarint

-- numbers, and behind them the beginning of one
abbrev pub EndsInNumber : Form → List ℕ → Type 0
EndsInNumber as_varint payload = VarintsThen payload (λ rest. (rest ≢ []) × EndsInVarint rest)
EndsInNumber as_four payload = length payload % 4 ≢ 0
EndsInNumber as_eight payload = length payload % 8 ≢ 0
EndsInNumber as_payload payload = ⊥

-- the record at the front has the field's number and a payload of which this holds
abbrev pub PayloadIs : FieldShape → List ℕ → (List ℕ → Type 0) → Type 0
PayloadIs f bytes P = (head : List ℕ) × (payload : List ℕ) × HasPayload f.number head payload bytes × P payload

-- The key at the front has the field's number and a wire type that the field does not read, whatever comes behind it. The end of a group is no record.
abbrev pub HasWrongType : FieldShape → List ℕ → Type 0
HasWrongType f bytes =
    (w : ℕ) × (rest : List ℕ) × BeginsWith f.number w rest bytes × (w < 8) × (w ≢ 4) × (reads f.cardinality f.kind w ≡ false)

-- The record at the front breaks the rule itself, as one of the field, with so many levels left below it.
-- A message, unlike a group, is too deep only where its payload is there: one that is cut ends inside the record.
abbrev pub BreaksAsField : Shape → ℕ → FieldShape → List ℕ → DecodeError → Type 0
BreaksAsField shape levels f bytes (errors.WireType at) = (at ≡ 0) × HasWrongType f bytes
BreaksAsField shape levels f bytes (errors.Utf8 at) =
    (at ≡ 0) × IsTrue (is_of_texts f.cardinality f.kind) × PayloadIs f bytes (λ p. is_utf8 p ≡ false)
BreaksAsField shape levels f bytes (errors.Varint at) =
    (at ≡ 0) × IsTrue (is_of_numbers f.cardinality f.kind) × PayloadIs f bytes (HasLongNumber (form_of f.kind))
BreaksAsField shape levels f bytes (errors.Underflow at) =
    (at ≡ 0) × IsTrue (is_of_numbers f.cardinality f.kind) × PayloadIs f bytes (EndsInNumber (form_of f.kind))
BreaksAsField shape levels f bytes (errors.TooDeep at) =
    (at ≡ 0) × (levels ≡ 0) × IsTrue (is_some (payload_fields shape f.cardinality f.kind)) × PayloadIs f bytes (λ p. Unit {0})
BreaksAsField shape levels f bytes (errors.Key at) = ⊥
BreaksAsField shape levels f bytes (errors.EndGroup at) = ⊥
BreaksAsField shape levels f bytes errors.NoMemory = ⊥

-- The faults of a payload as a message with these fields.
abbrev pub PayloadFaults : Type 1
PayloadFaults = List FieldShape → List ℕ → DecodeError → Type 0

-- a record inside the message, or map entry, that the record at the front is breaks the rule
abbrev pub BreaksInField : Shape → PayloadFaults → FieldShape → List ℕ → DecodeError → Type 0
BreaksInField shape inner f bytes e =
    (gs : List FieldShape) × (head : List ℕ) × (payload : List ℕ) × (own : DecodeError)
    × (payload_fields shape f.cardinality f.kind ≡ Some gs) × HasPayload f.number head payload bytes × inner gs payload own × (e ≡ shifted (length head) own)

-- the record at the front is read as a field of the type, and breaks the rule or has a record inside it that does
abbrev pub BreaksField : Shape → PayloadFaults → ℕ → List FieldShape → List ℕ → DecodeError → Type 0
BreaksField shape inner levels fs bytes e =
    (f : FieldShape) × (field_of f.number fs ≡ Some f) × (is_float f.kind ≡ false)
    × (BreaksAsField shape levels f bytes e ⊎ BreaksInField shape inner f bytes e)

-- ---- a record that is spelled

-- the wire type in the key of a record
abbrev pub wire_type_of : Rec → ℕ
wire_type_of (Varint n v) = 0
wire_type_of (Fixed64 n v) = 1
wire_type_of (Bytes n b) = 2
wire_type_of (Group' n shape row) = 3
wire_type_of (Fixed32 n v) = 5

-- the record has a payload of which this holds
abbrev pub OwnPayloadIs : Rec → (List ℕ → Type 0) → Type 0
OwnPayloadIs r P = (payload : List ℕ) × (bytes_of r ≡ Some payload) × P payload

-- The record breaks the rule as one of the field: what `BreaksAsField` says of the bytes that spell it.
abbrev pub RecBreaks : Shape → ℕ → FieldShape → Rec → DecodeError → Type 0
RecBreaks shape levels f r (errors.WireType at) = (at ≡ 0) × (reads f.cardinality f.kind (wire_type_of r) ≡ false)
RecBreaks shape levels f r (errors.Utf8 at) = (at ≡ 0) × IsTrue (is_of_texts f.cardinality f.kind) × OwnPayloadIs r (λ p. is_utf8 p ≡ false)
RecBreaks shape levels f r (errors.Varint at) = (at ≡ 0) × IsTrue (is_of_numbers f.cardinality f.kind) × OwnPayloadIs r (HasLongNumber (form_of f.kind))
RecBreaks shape levels f r (errors.Underflow at) = (at ≡ 0) × IsTrue (is_of_numbers f.cardinality f.kind) × OwnPayloadIs r (EndsInNumber (form_of f.kind))
RecBreaks shape levels f r (errors.TooDeep at) =
    (at ≡ 0) × (levels ≡ 0) × IsTrue (is_some (payload_fields shape f.cardinality f.kind)) × OwnPayloadIs r (λ p. Unit {0})
RecBreaks shape levels f r (errors.Key at) = ⊥
RecBreaks shape levels f r (errors.EndGroup at) = ⊥
RecBreaks shape levels f r errors.NoMemory = ⊥

-- ---- all records

-- Records are spelled, and the one behind them breaks the rule: as a record of the wire, or as one of a field.
abbrev pub MessageFaultsLayer : Shape → PayloadFaults → ℕ → PayloadFaults
MessageFaultsLayer shape inner levels fs bytes e =
    (before : List ℕ) × (rs : List Rec) × (rest : List ℕ) × (own : DecodeError)
    × Spells levels before rs × (BreaksOne levels rest own ⊎ BreaksField shape inner levels fs rest own)
    × (bytes ≡ before ++ rest) × (e ≡ shifted (length before) own)

-- with at most so many levels of messages, map entries and groups together below the top
unfoldable pub MessageFaults : Shape → ℕ → PayloadFaults
MessageFaults shape zero fs bytes e = MessageFaultsLayer shape (λ gs b f. ⊥) zero fs bytes e
MessageFaults shape (suc levels) fs bytes e = MessageFaultsLayer shape (MessageFaults shape levels) (suc levels) fs bytes e

-- The rule that the bytes break as a message of the type, with at most 100 levels below the top, and the offset of the key of the innermost record
-- that breaks it.
abbrev pub IsFaultOf : Shape → ℕ → List ℕ → DecodeError → Type 0
IsFaultOf shape t bytes e = MessageFaults shape 100 (fields_of shape t) bytes e

-- the same part by part, each message in a field of the top with 100 levels of its own
abbrev pub IsFaultOfParts : Shape → ℕ → List ℕ → DecodeError → Type 0
IsFaultOfParts shape t bytes e = MessageFaultsLayer shape (MessageFaults shape 100) 100 (fields_of shape t) bytes e

-- ---- the fault that is told

-- one of the faults of bytes that mean nothing, and none of them has a lesser offset
abbrev pub IsFirst : Option Content → (DecodeError → Type 0) → DecodeError → Type 0
IsFirst meant faults e = (meant ≡ None) × faults e × ((f : DecodeError) → faults f → offset_of e ≤ offset_of f)

-- what is told: want of memory, or the first fault of bytes that mean nothing
abbrev pub IsToldFault : Option Content → (DecodeError → Type 0) → DecodeError → Type 0
IsToldFault meant faults e = (e ≡ errors.NoMemory) ⊎ IsFirst meant faults e
