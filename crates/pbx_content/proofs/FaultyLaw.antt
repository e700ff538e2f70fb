-- Bytes mean something as a message exactly where they break no rule.
use Rattle.std.proofs.Common.{◌≡◌, ◌≢◌, ℕ, zero, suc, ◌+◌, Bool, true, false, ◌&&◌, List, [], ◌∷◌, ◌++◌, length, Option, Some, None}
use Rattle.std.proofs.Common.{◌⊎◌, inl, inr, option_map, refl, sym, ap, ◌∙◌, subst, arith}
use Rattle.std.proofs.Common.{append_assoc, append-nil, length-append}
use Rattle.std.specs.Prelude.{option_and_then}
use Rattle.std.specs.Option.{is_some}
use Rattle.std.specs.Str.{is_utf8}
use Rattle.pbx_wire.specs.declared.error.DecodeError.{DecodeError}
use Rattle.pbx_wire.specs.declared.error.DecodeError.TheVariants as errors
use Rattle.pbx_wire.specs.declared.rec.Rec.{Rec, out-Rec, Varint, Fixed64, Bytes, Group', Fixed32}
use Rattle.pbx_wire.specs.declared.rec.Rec.TheVariants as rec
use Rattle.pbx_wire.specs.declared.rec.Rec.TheVariants.{outs-Bytes}
use Rattle.pbx_wire.specs.Spelling.{SpellsBelow, Spells}
use Rattle.pbx_wire.specs.Faults.{shifted, BeginsWith, FaultsBelow, IsFault, SpellsOne, BreaksOne}
use Rattle.pbx_wire.proofs.Laws.{chain_has}
use Rattle.pbx_wire.proofs.Breaking.{are_spelled, either, not_both, all_break}
use Rattle.pbx_content.specs.declared.shape.Kind.{Kind}
use Rattle.pbx_content.specs.declared.shape.Kind.TheVariants as kind
use Rattle.pbx_content.specs.declared.shape.Cardinality.{Cardinality}
use Rattle.pbx_content.specs.declared.shape.Cardinality.TheVariants.{Singular, Repeated, Map}
use Rattle.pbx_content.specs.declared.shape.Shape.{Shape}
use Rattle.pbx_content.specs.declared.shape.FieldShape.{FieldShape}
use Rattle.pbx_content.specs.Content.{Content}
use Rattle.pbx_content.specs.Records.{number_of, bytes_of, flat, records_in}
use Rattle.pbx_content.specs.Shape.{fields_of, entry_fields}
use Rattle.pbx_content.specs.Meaning.{value, records_of, meaning, meaning_within}
use Rattle.pbx_content.specs.Sound.{IsProper}
use Rattle.pbx_content.specs.Faults.{payload_fields, message_fields, HasPayload, PayloadIs, BreaksAsField, BreaksField, wire_type_of, RecBreaks}
use Rattle.pbx_content.specs.Faults.{PayloadFaults, MessageFaults, MessageFaultsLayer}
use Rattle.pbx_content.specs.Laws.{MeansOrFaulty, FaultyMeansNothing, PartsMeanOrFaulty, FaultyPartsMeanNothing}
use Rattle.pbx_content.specs.Laws.{meaning_with, payload_faults, FaultsWith, AreFieldsOf, IsReadWith, MessageFaultsAreWith, MeansOrFaultyWith}
use Rattle.pbx_content.specs.Laws.{FaultyMeansNothingWith}
use Rattle.pbx_content.proofs.OntoSplits.{not_there, inner_at, meaning_splits}
use Rattle.pbx_content.proofs.OntoFields.{AreAbove, fields_ascend}
use Rattle.pbx_content.proofs.FaultyFronts.{fault_more, at_front, front_one, front_is, number_is, layer_key, layer_type, type_small}
use Rattle.pbx_content.proofs.FaultyRecords.{FailsInside, value_fails, fails_value, rec_breaks, breaks_rec}
use Rattle.pbx_content.proofs.FaultyFields.{FailsAt, rec_fails, fail_rec, first_fails, spelled_at, spelled_both}

-- ---- a record that is spelled at the front, as one of a field

type_is : (r : Rec) → wire_type_of r ≡ layer_type (out-Rec r)
unfolding out-Rec denote.Hole.Carrier.out
type_is (Varint n v) = refl
type_is (Fixed64 n v) = refl
type_is (Bytes n b) = refl
type_is (Group' n s row) = refl
type_is (Fixed32 n v) = refl

pub record IsPayload (first : List ℕ) (n : ℕ) (payload : List ℕ) : Type 0 where
  pub head : List ℕ
  pub has : (rest : List ℕ) → HasPayload n head payload (first ++ rest)
  pub parts : first ≡ head ++ payload

pub has_payload : (levels : ℕ) (first : List ℕ) (r : Rec) (payload : List ℕ) → SpellsOne levels first r → bytes_of r ≡ Some payload
    → IsPayload first (number_of r) payload
unfolding out-Rec denote.Hole.Carrier.out
has_payload levels first (Varint n v) payload h e = absurd cc
has_payload levels first (Fixed64 n v) payload h e = absurd cc
has_payload levels first (Group' n s row) payload h e = absurd cc
has_payload levels first (Fixed32 n v) payload h e = absurd cc
has_payload levels first (Bytes n b) payload (key, len, k, l, parts) e =
    let is : b ≡ payload = cc in
    let whole : first ≡ (key ++ len) ++ payload = parts ∙ ap (λ (t : List ℕ). (key ++ len) ++ t) is in
    record {
      head = key ++ len;
      has = λ rest. (key, len, rest, k, rw (← is) l, refl, ap (λ (t : List ℕ). t ++ rest) whole);
      parts = whole;
    }

-- the payload at the front is that of the record
pub record IsOwn (first : List ℕ) (r : Rec) (n : ℕ) (head payload : List ℕ) : Type 0 where
  pub numbered : number_of r ≡ n
  pub bytes : bytes_of r ≡ Some payload
  pub long : length first ≡ length head + length payload

pub payload_spelled : (levels n : ℕ) (head payload bytes : List ℕ) → HasPayload n head payload bytes → SpellsOne levels (head ++ payload) (rec.Bytes n payload)
payload_spelled levels n head payload bytes (key, len, after, k, l, is, parts) =
    rw (outs-Bytes n payload) (key, len, k, l, ap (λ (t : List ℕ). t ++ payload) is)

pub payload_one : (levels : ℕ) (first rest : List ℕ) (r : Rec) (n : ℕ) (head payload : List ℕ) → SpellsOne levels first r
    → HasPayload n head payload (first ++ rest) → IsOwn first r n head payload
payload_one levels first rest r n head payload h p =
    let after = p.2 in
    let one = front_one levels first (head ++ payload) rest after r (rec.Bytes n payload) h (payload_spelled levels n head payload (first ++ rest) p) p.6 in
    record {
      numbered = ap number_of one.0;
      bytes = ap bytes_of one.0;
      long = omega (arith, ap length p.6, length-append first rest, length-append (head ++ payload) after, length-append head payload, ap length one.1);
    }

-- what breaks a rule as a record of the field, breaks it in the bytes
pub breaks_as : (shape : Shape) (levels : ℕ) (f : FieldShape) (first rest : List ℕ) (r : Rec) (e : DecodeError) → SpellsOne levels first r
    → number_of r ≡ f.number → RecBreaks shape levels f r e
    → BreaksAsField shape levels f (first ++ rest) e
breaks_as shape levels f first rest r e h n b = by e b
  where
    held : (P : List ℕ → Type 0) → (p : List ℕ) × (bytes_of r ≡ Some p) × P p → PayloadIs f (first ++ rest) P
    held P (p, d, o) =
        let is = has_payload levels first r p h d in
        (is.head, p, subst (λ (m : ℕ). HasPayload m is.head p (first ++ rest)) n (is.has rest), o)

    by : (e : DecodeError) → RecBreaks shape levels f r e → BreaksAsField shape levels f (first ++ rest) e
    by (errors.WireType at) (z, wrong) =
        let k = layer_key (SpellsBelow levels) first (out-Rec r) h in
        let small = type_small (out-Rec r) in
        let number : f.number ≡ _ = sym n ∙ number_is r in (
          z,
          (
            wire_type_of r,
            k.tail ++ rest,
            (k.key, rw (number, type_is r) k.is, ap (λ (t : List ℕ). t ++ rest) k.parts ∙ append_assoc k.key k.tail rest),
            rw (type_is r) small.0,
            rw (type_is r) small.1,
            wrong,
          ),
        )
    by (errors.Utf8 at) (z, t, o) = (z, t, held (λ p. is_utf8 p ≡ false) o)
    by (errors.Varint at) (z, t, o) = (z, t, held _ o)
    by (errors.Underflow at) (z, t, o) = (z, t, held _ o)
    by (errors.TooDeep at) (z, none, t, o) = (z, none, t, held (λ p. Unit {0}) o)
    by (errors.Key at) b = absurd b
    by (errors.EndGroup at) b = absurd b
    by errors.NoMemory b = absurd b

pub as_breaks : (shape : Shape) (levels : ℕ) (f : FieldShape) (first rest : List ℕ) (r : Rec) (e : DecodeError) → SpellsOne levels first r
    → BreaksAsField shape levels f (first ++ rest) e
    → (number_of r ≡ f.number) × RecBreaks shape levels f r e
as_breaks shape levels f first rest r e h b = by e b
  where
    held : (P : List ℕ → Type 0) → PayloadIs f (first ++ rest) P → (number_of r ≡ f.number) × ((p : List ℕ) × (bytes_of r ≡ Some p) × P p)
    held P (head, p, is, o) =
        let own = payload_one levels first rest r f.number head p h is in
        (own.numbered, (p, own.bytes, o))

    by : (e : DecodeError) → BreaksAsField shape levels f (first ++ rest) e → (number_of r ≡ f.number) × RecBreaks shape levels f r e
    by (errors.WireType at) (z, (w, more, begins, small, no_end, wrong)) =
        let p = front_is (SpellsBelow levels) first rest more (out-Rec r) f.number w h begins small in
        let same : wire_type_of r ≡ w = type_is r ∙ p.1 in
        (number_is r ∙ p.0, (z, rw same wrong))
    by (errors.Utf8 at) (z, t, o) = let k = held (λ p. is_utf8 p ≡ false) o in (k.0, (z, t, k.1))
    by (errors.Varint at) (z, t, o) = let k = held _ o in (k.0, (z, t, k.1))
    by (errors.Underflow at) (z, t, o) = let k = held _ o in (k.0, (z, t, k.1))
    by (errors.TooDeep at) (z, none, t, o) = let k = held (λ p. Unit {0}) o in (k.0, (z, none, t, k.1))
    by (errors.Key at) b = absurd b
    by (errors.EndGroup at) b = absurd b
    by errors.NoMemory b = absurd b

-- ---- payloads

-- payloads mean nothing exactly where they break a rule, if levels are left for them
pub record IsJudged (shape : Shape) (messages : ℕ) : Type 0 where
  pub told : (gs : List FieldShape) (p : List ℕ) → AreAbove 0 gs → messages ≢ 0 → inner_at shape messages gs (p ∷ []) ≡ None
      → (e : DecodeError) × payload_faults shape messages gs p e
  pub none : (gs : List FieldShape) (p : List ℕ) (e : DecodeError) → AreAbove 0 gs → payload_faults shape messages gs p e
      → inner_at shape messages gs (p ∷ []) ≡ None

pub no_level : (shape : Shape) (messages : ℕ) (gs : List FieldShape) (bs : List (List ℕ)) → messages ≡ 0 → inner_at shape messages gs bs ≡ None
unfolding inner_at
no_level shape zero gs bs e = refl
no_level shape (suc messages) gs bs e = absurd (omega arith)

pub payload_above : (shape : Shape) → IsProper shape → (c : Cardinality) (k : Kind) (gs : List FieldShape) → payload_fields shape c k ≡ Some gs → AreAbove 0 gs
payload_above shape proper c k gs e = by c e
  where
    own : (k : Kind) → message_fields shape k ≡ Some gs → AreAbove 0 gs
    own (kind.Message t) e = let is : fields_of shape t ≡ gs = cc in rw (← is) (fields_ascend shape proper t)
    own k e = absurd cc

    by : (c : Cardinality) → payload_fields shape c k ≡ Some gs → AreAbove 0 gs
    by Singular e = own k e
    by Repeated e = own k e
    by (Map key) e = let is : entry_fields key k ≡ gs = cc in rw (← is) (omega arith, (omega arith, tt))

pub are_above : (shape : Shape) → IsProper shape → (fs : List FieldShape) → AreFieldsOf shape fs → AreAbove 0 fs
are_above shape proper fs (inl (t, is)) = rw is (fields_ascend shape proper t)
are_above shape proper fs (inr (key, value, is)) = rw is (omega arith, (omega arith, tt))

-- ---- the record at the front

abbrev LeftWith : ℕ → ℕ → Type 0
LeftWith groups messages = (groups ≡ 0 → messages ≡ 0) × (messages ≡ 0 → groups ≡ 0)

-- what the record breaks that means nothing alone, itself or inside it
fails_breaks : (shape : Shape) (groups messages : ℕ) (fs : List FieldShape) → IsProper shape → LeftWith groups messages → IsJudged shape messages
    → (first rest : List ℕ) (r : Rec) → SpellsOne groups first r
    → FailsAt shape (inner_at shape messages) fs r → (e : DecodeError) × BreaksField shape (payload_faults shape messages) groups fs (first ++ rest) e
fails_breaks shape groups messages fs proper left judged first rest r h fails =
    elim (rec_breaks shape (inner_at shape messages) groups fails.field r (value_fails shape (inner_at shape messages) fails.field r fails.read fails.none)) [
      | inl (e, b) ↦ itself e b
      | inr inside ↦ payload inside messages refl
    ]
  where
    itself : (e : DecodeError) → RecBreaks shape groups fails.field r e
        → (e : DecodeError) × BreaksField shape (payload_faults shape messages) groups fs (first ++ rest) e
    itself e b = (e, (fails.field, fails.found, fails.read, inl (breaks_as shape groups fails.field first rest r e h fails.numbered b)))

    payload : FailsInside shape (inner_at shape messages) (payload_fields shape fails.field.cardinality fails.field.kind) r → (m : ℕ) → messages ≡ m
        → (e : DecodeError) × BreaksField shape (payload_faults shape messages) groups fs (first ++ rest) e
    payload inside zero e = itself (errors.TooDeep 0) (refl, left.1 e, rw inside.of_fields refl, (inside.payload, inside.of_record, tt))
    payload inside (suc m) e =
        let above = payload_above shape proper fails.field.cardinality fails.field.kind inside.gs inside.of_fields in
        let fault = judged.told inside.gs inside.payload above (λ z. absurd (omega (arith, e, z))) inside.none in
        let is = has_payload groups first r inside.payload h inside.of_record in
        let has = subst (λ (n : ℕ). HasPayload n is.head inside.payload (first ++ rest)) fails.numbered (is.has rest) in (
          shifted (length is.head) fault.0,
          (fails.field, fails.found, fails.read, inr (inside.gs, is.head, inside.payload, fault.0, inside.of_fields, has, fault.1, refl)),
        )

-- what breaks a rule as a field or inside it, means nothing alone
pub breaks_fails : (shape : Shape) (groups messages : ℕ) (fs : List FieldShape) → IsProper shape → LeftWith groups messages → IsJudged shape messages
    → (first rest : List ℕ) (r : Rec) (e : DecodeError) → SpellsOne groups first r
    → BreaksField shape (payload_faults shape messages) groups fs (first ++ rest) e → FailsAt shape (inner_at shape messages) fs r
breaks_fails shape groups messages fs proper left judged first rest r e h (f, found, read, inl b) =
    let own = as_breaks shape groups f first rest r e h b in
    let none = breaks_rec shape (inner_at shape messages) groups f r e (λ z gs p. no_level shape messages gs (p ∷ []) (left.0 z)) own.1 in
    record { field = f; found = found; read = read; numbered = own.0; none = fails_value shape (inner_at shape messages) f r read none }
breaks_fails shape groups messages fs proper left judged first rest r e h (f, found, read, inr (gs, head, payload, inner, fields, has, fault, told)) =
    let own = payload_one groups first rest r f.number head payload h has in
    let above = payload_above shape proper f.cardinality f.kind gs fields in
    let none = judged.none gs payload inner above fault in
    let inside : FailsInside shape (inner_at shape messages) (payload_fields shape f.cardinality f.kind) r =
    record { gs = gs; payload = payload; of_fields = fields; of_record = own.bytes; none = none } in
    record {
      field = f;
      found = found;
      read = read;
      numbered = own.numbered;
      none = fails_value shape (inner_at shape messages) f r read
          (inr (inr (inr inside)));
    }

begins_some : (n w : ℕ) (rest bytes : List ℕ) → BeginsWith n w rest bytes → bytes ≢ []
begins_some n w rest bytes (key, k, parts) none = absurd (omega (arith, ap length parts, ap length none, length-append key rest, chain_has key k.varint.chain))

payload_some : (n : ℕ) (head payload bytes : List ℕ) → HasPayload n head payload bytes → bytes ≢ []
payload_some n head payload bytes (key, len, after, k, l, is, parts) none =
    let long = length-append (head ++ payload) after in
    absurd (omega (arith, ap length parts, ap length none, long, length-append head payload, ap length is, length-append key len, chain_has key k.varint.chain))

pub field_some : (shape : Shape) (inner : PayloadFaults) (levels : ℕ) (fs : List FieldShape) (bytes : List ℕ) (e : DecodeError)
    → BreaksField shape inner levels fs bytes e → bytes ≢ []
field_some shape inner levels fs bytes e (f, found, read, inr (gs, head, payload, own, fields, has, fault, told)) = payload_some f.number head payload bytes has
field_some shape inner levels fs bytes e (f, found, read, inl b) = by e b
  where
    by : (e : DecodeError) → BreaksAsField shape levels f bytes e → bytes ≢ []
    by (errors.WireType at) (z, (w, more, begins, small, no_end, wrong)) = begins_some f.number w more bytes begins
    by (errors.Utf8 at) (z, t, (head, p, has, o)) = payload_some f.number head p bytes has
    by (errors.Varint at) (z, t, (head, p, has, o)) = payload_some f.number head p bytes has
    by (errors.Underflow at) (z, t, (head, p, has, o)) = payload_some f.number head p bytes has
    by (errors.TooDeep at) (z, none, t, (head, p, has, o)) = payload_some f.number head p bytes has
    by (errors.Key at) b = absurd b
    by (errors.EndGroup at) b = absurd b
    by errors.NoMemory b = absurd b

-- ---- all records

-- a fault of the wire is a fault
pub wire_fault : (shape : Shape) (inner : PayloadFaults) (levels : ℕ) (fs : List FieldShape) (bytes : List ℕ) (e : DecodeError) → IsFault levels bytes e
    → MessageFaultsLayer shape inner levels fs bytes e
unfolding FaultsBelow SpellsBelow
wire_fault shape inner levels fs bytes e (before, rs, rest, own, all, breaks, parts, told) = (before, rs, rest, own, all, inl breaks, parts, told)

fault_after : (levels : ℕ) (before rest : List ℕ) (rs : List Rec) (e : DecodeError) → Spells levels before rs → IsFault levels rest e
    → (d : DecodeError) × IsFault levels (before ++ rest) d
unfolding SpellsBelow
fault_after levels before rest [] e s f = rw s (e, f)
fault_after levels before rest (r ∷ rs) e (first, more, one, all, parts) f =
    let later = fault_after levels more rest rs e all f in
    let moved = fault_more levels first (more ++ rest) r later.0 one later.1 in
    rw (parts, append_assoc first more rest) (shifted (length first) later.0, moved)

-- where the records are spelled, what stands behind some of them is spelled too
pub spelled_behind : (levels : ℕ) (before rest : List ℕ) (rs qs : List Rec) → Spells levels before rs → Spells levels (before ++ rest) qs
    → (ss : List Rec) × Spells levels rest ss
spelled_behind levels before rest rs qs h k = elim (either levels rest) [
  | inl s ↦ s
  | inr (e, f) ↦
      let d = fault_after levels before rest rs e h f in
      absurd (not_both levels (before ++ rest) qs d.0 k d.1)
]

no_records : (levels : ℕ) (bytes : List ℕ) (e : DecodeError) → IsFault levels bytes e → records_in levels bytes ≡ None
no_records levels bytes e f = rw (all_break levels bytes e f) refl

pub are_records : (levels : ℕ) (bytes : List ℕ) (rs : List Rec) → Spells levels bytes rs → records_in levels bytes ≡ Some rs
are_records levels bytes rs s = (are_spelled levels bytes rs).1 s

field_fault : (shape : Shape) (inner : PayloadFaults) (levels : ℕ) (fs : List FieldShape) (bytes before rest : List ℕ) (rs : List Rec) (own : DecodeError)
    → Spells levels before rs → BreaksField shape inner levels fs rest own
    → bytes ≡ before ++ rest → (e : DecodeError) × MessageFaultsLayer shape inner levels fs bytes e
field_fault shape inner levels fs bytes before rest rs own s b parts = (shifted (length before) own, (before, rs, rest, own, s, inr b, parts, refl))

either_with : (shape : Shape) (groups messages : ℕ) (fs : List FieldShape) → IsProper shape → LeftWith groups messages → AreAbove 0 fs → IsJudged shape messages
    → (bytes : List ℕ)
    → ((c : Content) × (meaning_with shape groups messages fs bytes ≡ Some c)) ⊎ ((e : DecodeError) × FaultsWith shape groups messages fs bytes e)
either_with shape groups messages fs proper left above judged bytes = elim (either groups bytes) [
  | inr (e, f) ↦ inr (e, wire_fault shape (payload_faults shape messages) groups fs bytes e f)
  | inl (rs, s) ↦ spelled rs s (meaning shape messages fs rs) refl
]
  where
    spelled : (rs : List Rec) → Spells groups bytes rs → (o : Option Content) → meaning shape messages fs rs ≡ o
        → ((c : Content) × (meaning_with shape groups messages fs bytes ≡ Some c)) ⊎ ((e : DecodeError) × FaultsWith shape groups messages fs bytes e)
    spelled rs s (Some c) d = inl (c, rw (are_records groups bytes rs s) d)
    spelled rs s None d =
        let first = first_fails shape messages fs rs (ap is_some d) in
        let at = spelled_at groups bytes first.before first.rec first.rest (subst (Spells groups bytes) first.parts s) in
        let fails = rec_fails shape messages fs first.rec above first.none in
        let fault = fails_breaks shape groups messages fs proper left judged at.first at.rest first.rec at.one fails in
        inr (field_fault shape (payload_faults shape messages) groups fs bytes at.before (at.first ++ at.rest) first.before fault.0 at.earlier fault.1 at.parts)

nothing_before : (levels : ℕ) (before : List ℕ) → Spells levels before [] → before ≡ []
unfolding SpellsBelow
nothing_before levels before s = s

some_fails : (shape : Shape) (groups messages : ℕ) (fs : List FieldShape) → IsProper shape → LeftWith groups messages → IsJudged shape messages
    → (rest : List ℕ) (ss : List Rec) (own : DecodeError) → Spells groups rest ss
    → BreaksOne groups rest own ⊎ BreaksField shape (payload_faults shape messages) groups fs rest own → is_some (meaning shape messages fs ss) ≡ false
some_fails shape groups messages fs proper left judged rest ss own s (inl b) = absurd (not_both groups rest ss own s (at_front groups 0 rest own b))
some_fails shape groups messages fs proper left judged rest [] own s (inr b) =
    absurd (field_some shape (payload_faults shape messages) groups fs rest own b (nothing_before groups rest s))
some_fails shape groups messages fs proper left judged rest (r ∷ ss) own s (inr b) =
    let at = spelled_at groups rest [] r ss s in
    let is : rest ≡ at.first ++ at.rest = at.parts ∙ ap (λ (t : List ℕ). t ++ (at.first ++ at.rest)) (nothing_before groups at.before at.earlier) in
    let fails =
    breaks_fails shape groups messages fs proper left judged at.first at.rest r own at.one
    (subst (λ (t : List ℕ). BreaksField shape (payload_faults shape messages) groups fs t own) is b) in
    meaning_splits shape messages fs (r ∷ []) ss ∙ ap (λ b. b && is_some (meaning shape messages fs ss)) (fail_rec shape messages fs r fails)

none_with : (shape : Shape) (groups messages : ℕ) (fs : List FieldShape) → IsProper shape → LeftWith groups messages → IsJudged shape messages
    → (bytes : List ℕ) (e : DecodeError)
    → FaultsWith shape groups messages fs bytes e → meaning_with shape groups messages fs bytes ≡ None
none_with shape groups messages fs proper left judged bytes e (before, rs, rest, own, all, broken, parts, told) = elim (either groups bytes) [
  | inr (d, f) ↦ rw (no_records groups bytes d f) refl
  | inl (qs, s) ↦
      let behind = spelled_behind groups before rest rs qs all (subst (λ (b : List ℕ). Spells groups b qs) parts s) in
      let whole = are_records groups (before ++ rest) (rs ++ behind.0) (spelled_both groups before rest rs behind.0 all behind.1) in
      let none =
      not_there (meaning shape messages fs (rs ++ behind.0))
      (meaning_splits shape messages fs rs behind.0
      ∙ second (is_some (meaning shape messages fs rs)) _ (some_fails shape groups messages fs proper left judged rest behind.0 own behind.1 broken)) in
      rw (parts, whole) none
]
  where
    second : (a b : Bool) → b ≡ false → a && b ≡ false
    second true b e = e
    second false b e = refl

-- ---- levels

one_payload : (levels : ℕ) (p : List ℕ) (meant : List Rec → Option Content)
    → option_and_then meant (records_of levels (p ∷ [])) ≡ option_and_then meant (records_in levels p)
one_payload levels p meant = at (records_in levels p)
  where
    at : (o : Option (List Rec))
        → option_and_then meant (option_map flat (option_and_then (λ y. option_map (λ ys. y ∷ ys) (Some [])) o)) ≡ option_and_then meant o
    at None = refl
    at (Some rs) = ap meant (append-nil rs)

pub one_inner : (shape : Shape) (levels : ℕ) (gs : List FieldShape) (p : List ℕ) → inner_at shape (suc levels) gs (p ∷ []) ≡ meaning_within shape levels gs p
unfolding inner_at
one_inner shape levels gs p = one_payload levels p (meaning shape levels gs)

-- with as many levels of both, they are the faults of a message
pub faults_are : (shape : Shape) (levels : ℕ) (fs : List FieldShape) (bytes : List ℕ) (e : DecodeError)
    → MessageFaults shape levels fs bytes e ≡ FaultsWith shape levels levels fs bytes e
unfolding MessageFaults
faults_are shape zero fs bytes e = refl
faults_are shape (suc levels) fs bytes e = refl

some_or_none : (o : Option Content) (F : DecodeError → Type 0) → o ≡ None → ((c : Content) × (o ≡ Some c)) ⊎ ((e : DecodeError) × F e) → (e : DecodeError) × F e
some_or_none o F h (inl (c, d)) = absurd cc
some_or_none o F h (inr f) = f

left_alike : (levels : ℕ) → LeftWith levels levels
left_alike levels = (λ e. e, λ e. e)

pub judged : (shape : Shape) → IsProper shape → (messages : ℕ) → IsJudged shape messages
judged shape proper zero = record { told = λ gs p above left none. absurd (left refl); none = λ gs p e above f. absurd f }
judged shape proper (suc levels) = record {
  told = λ gs p above left none.
      some_or_none (meaning_within shape levels gs p) (payload_faults shape (suc levels) gs p) (sym (one_inner shape levels gs p) ∙ none)
      (told_by levels gs p (either_with shape levels levels gs proper (left_alike levels) above (judged shape proper levels) p));
  none = λ gs p e above f.
      one_inner shape levels gs p ∙ none_with shape levels levels gs proper (left_alike levels) (judged shape proper levels) p e
      (subst (λ (T : Type 0). T) (faults_are shape levels gs p e) f);
}
  where
    told_by : (levels : ℕ) (gs : List FieldShape) (p : List ℕ)
        → ((c : Content) × (meaning_within shape levels gs p ≡ Some c)) ⊎ ((e : DecodeError) × FaultsWith shape levels levels gs p e)
        → ((c : Content) × (meaning_within shape levels gs p ≡ Some c)) ⊎ ((e : DecodeError) × MessageFaults shape levels gs p e)
    told_by levels gs p (inl c) = inl c
    told_by levels gs p (inr (e, f)) = inr (e, subst (λ (T : Type 0). T) (sym (faults_are shape levels gs p e)) f)

-- ---- the laws

pub means_or_faulty_with : MeansOrFaultyWith
means_or_faulty_with shape groups messages fs bytes r =
    either_with shape groups messages fs r.proper r.left (are_above shape r.proper fs r.fields) (judged shape r.proper messages) bytes

pub faulty_means_nothing_with : FaultyMeansNothingWith
faulty_means_nothing_with shape groups messages fs bytes e r f = none_with shape groups messages fs r.proper r.left (judged shape r.proper messages) bytes e f

pub message_faults_are_with : MessageFaultsAreWith
message_faults_are_with shape levels fs bytes e =
    (λ f. subst (λ (T : Type 0). T) (faults_are shape levels fs bytes e) f, λ f. subst (λ (T : Type 0). T) (sym (faults_are shape levels fs bytes e)) f)

pub read_alike : (shape : Shape) (levels t : ℕ) → IsProper shape → IsReadWith shape levels levels (fields_of shape t)
read_alike shape levels t proper = record { proper = proper; left = left_alike levels; fields = inl (t, refl) }

parts_left : LeftWith 100 101
parts_left = (λ e. absurd (omega arith), λ e. absurd (omega arith))

pub read_parts : (shape : Shape) (t : ℕ) → IsProper shape → IsReadWith shape 100 101 (fields_of shape t)
read_parts shape t proper = record { proper = proper; left = parts_left; fields = inl (t, refl) }

told_by : (shape : Shape) (levels : ℕ) (fs : List FieldShape) (bytes : List ℕ)
    → ((c : Content) × (meaning_within shape levels fs bytes ≡ Some c)) ⊎ ((e : DecodeError) × FaultsWith shape levels levels fs bytes e)
    → ((c : Content) × (meaning_within shape levels fs bytes ≡ Some c)) ⊎ ((e : DecodeError) × MessageFaults shape levels fs bytes e)
told_by shape levels fs bytes (inl c) = inl c
told_by shape levels fs bytes (inr (e, f)) = inr (e, (message_faults_are_with shape levels fs bytes e).1 f)

pub means_or_faulty : MeansOrFaulty
means_or_faulty shape levels t bytes proper =
    told_by shape levels (fields_of shape t) bytes (means_or_faulty_with shape levels levels (fields_of shape t) bytes (read_alike shape levels t proper))

pub faulty_means_nothing : FaultyMeansNothing
faulty_means_nothing shape levels t bytes e proper f =
    faulty_means_nothing_with shape levels levels (fields_of shape t) bytes e (read_alike shape levels t proper)
    ((message_faults_are_with shape levels (fields_of shape t) bytes e).0 f)

pub parts_mean_or_faulty : PartsMeanOrFaulty
parts_mean_or_faulty shape t bytes proper = means_or_faulty_with shape 100 101 (fields_of shape t) bytes (read_parts shape t proper)

pub faulty_parts_mean_nothing : FaultyPartsMeanNothing
faulty_parts_mean_nothing shape t bytes e proper f = faulty_means_nothing_with shape 100 101 (fields_of shape t) bytes e (read_parts shape t proper) f
