-- The faults of bytes whose first records mean something, and which fault of the record at the front is the first of all.
use Rattle.std.proofs.Common.{◌≡◌, ◌≢◌, ℕ, zero, suc, ◌+◌, ◌-◌, ◌<◌, ◌≤◌, Bool, true, false, ◌&&◌, ◌||◌, if◌then◌else◌, List, [], ◌∷◌, ◌++◌, length, Option}
use Rattle.std.proofs.Common.{Some, None, ◌⊎◌, inl, inr}
use Rattle.std.proofs.Common.{refl, sym, ap, ◌∙◌, subst, arith, append_assoc, length-append}
use Rattle.std.specs.Prelude.{◌==◌, option_and_then}
use Rattle.std.specs.Option.{is_some}
use Rattle.std.proofs.lemmas.Bool.{eqb-true, eq-eqb, ne_eqb}
use Rattle.pbx_wire.specs.declared.error.DecodeError.{DecodeError}
use Rattle.pbx_wire.specs.declared.error.DecodeError.TheVariants as errors
use Rattle.pbx_wire.specs.declared.rec.Rec.{Rec}
use Rattle.pbx_wire.specs.declared.rec.Rec.TheVariants as rec
use Rattle.pbx_wire.specs.Spelling.{SpellsBelow, Spells}
use Rattle.pbx_wire.specs.Faults.{shifted, offset_of, BeginsWith, SpellsOne, BreaksOne}
use Rattle.pbx_wire.specs.Front.{IsFrontKey}
use Rattle.pbx_wire.proofs.Failing.{shifted_zero, shifted_more}
use Rattle.pbx_wire.proofs.Breaking.{one_fault}
use Rattle.pbx_content.specs.declared.shape.Kind.{Kind}
use Rattle.pbx_content.specs.declared.shape.Kind.TheVariants as kind
use Rattle.pbx_content.specs.declared.shape.Cardinality.{Cardinality}
use Rattle.pbx_content.specs.declared.shape.Cardinality.TheVariants.{Singular, Repeated, Map}
use Rattle.pbx_content.specs.declared.shape.Shape.{Shape}
use Rattle.pbx_content.specs.declared.shape.FieldShape.{FieldShape}
use Rattle.pbx_content.specs.Content.{Content}
use Rattle.pbx_content.specs.Records.{number_of, bytes_of, records_in}
use Rattle.pbx_content.specs.Shape.{fields_of, field_of, is_float}
use Rattle.pbx_content.specs.Meaning.{meaning}
use Rattle.pbx_content.specs.Onto.{meaning_onto}
use Rattle.pbx_content.specs.Faults.{reads, is_of_texts, is_of_numbers, payload_fields, HasPayload, HasWrongType, BreaksAsField}
use Rattle.pbx_content.specs.Faults.{BreaksField, wire_type_of, RecBreaks, PayloadFaults, MessageFaultsLayer}
use Rattle.pbx_content.specs.Laws.{payload_faults, FaultsWith, IsFirstWith, IsReadWith, FirstIsWith, FaultsBehind, FirstBehind, FirstAtFront}
use Rattle.pbx_content.specs.Laws.{takes_type, takes_key, FirstByKey, FirstOfRecord, FirstAsField, FirstInPayload, FirstIsMerged}
use Rattle.pbx_content.proofs.OntoSplits.{meaning_splits}
use Rattle.pbx_content.proofs.OntoLaw.{judges_new}
use Rattle.pbx_content.proofs.FaultyFronts.{IsPlaced, offset-shifted, placed-shifted, one_placed, key_one, front_one, unbroken, at_front}
use Rattle.pbx_content.proofs.FaultyRecords.{bytes_there}
use Rattle.pbx_content.proofs.FaultyFields.{fail_rec, spelled_both}
use Rattle.pbx_content.proofs.FaultyLaw.{has_payload, payload_one, payload_spelled, breaks_as, as_breaks, breaks_fails, judged, faults_are}
use Rattle.pbx_content.proofs.FaultyLaw.{faulty_means_nothing_with, message_faults_are_with}

-- ---- offsets

-- faults of payloads have offsets within them
pub record ArePlaced (faults : PayloadFaults) : Type 0 where
  pub placed : (gs : List FieldShape) (p : List ℕ) (e : DecodeError) → faults gs p e → IsPlaced (length p) e

as_placed : (shape : Shape) (levels : ℕ) (f : FieldShape) (bytes : List ℕ) (e : DecodeError) → BreaksAsField shape levels f bytes e → IsPlaced 0 e
as_placed shape levels f bytes (errors.WireType at) b = record { some = λ k. absurd cc; offset = omega (arith, b.0) }
as_placed shape levels f bytes (errors.Utf8 at) b = record { some = λ k. absurd cc; offset = omega (arith, b.0) }
as_placed shape levels f bytes (errors.Varint at) b = record { some = λ k. absurd cc; offset = omega (arith, b.0) }
as_placed shape levels f bytes (errors.Underflow at) b = record { some = λ k. absurd cc; offset = omega (arith, b.0) }
as_placed shape levels f bytes (errors.TooDeep at) b = record { some = λ k. absurd cc; offset = omega (arith, b.0) }
as_placed shape levels f bytes (errors.Key at) b = absurd b
as_placed shape levels f bytes (errors.EndGroup at) b = absurd b
as_placed shape levels f bytes errors.NoMemory b = absurd b

wider : (m n : ℕ) (e : DecodeError) → IsPlaced m e → m ≤ n → IsPlaced n e
wider m n e p h = record { some = p.some; offset = omega (arith, p.offset) }

field_placed : (shape : Shape) (inner : PayloadFaults) → ArePlaced inner → (levels : ℕ) (fs : List FieldShape) (bytes : List ℕ) (e : DecodeError)
    → BreaksField shape inner levels fs bytes e → IsPlaced (length bytes) e
field_placed shape inner placed levels fs bytes e (f, found, read, inl b) = wider 0 (length bytes) e (as_placed shape levels f bytes e b) (omega arith)
field_placed shape inner placed levels fs bytes e (f, found, read, inr (gs, head, payload, own, fields, has, fault, told)) =
    placed-shifted (length head) (length payload) (length bytes) own e (placed.placed gs payload own fault)
    (omega (arith, ap length has.6, length-append (head ++ payload) has.2, length-append head payload)) told

layer_placed : (shape : Shape) (inner : PayloadFaults) → ArePlaced inner → (levels : ℕ) (fs : List FieldShape) (bytes : List ℕ) (e : DecodeError)
    → MessageFaultsLayer shape inner levels fs bytes e → IsPlaced (length bytes) e
layer_placed shape inner placed levels fs bytes e (before, rs, rest, own, all, broken, parts, told) =
    placed-shifted (length before) (length rest) (length bytes) own e (by broken) (omega (arith, ap length parts, length-append before rest)) told
  where
    by : BreaksOne levels rest own ⊎ BreaksField shape inner levels fs rest own → IsPlaced (length rest) own
    by (inl b) = one_placed levels rest own b
    by (inr b) = field_placed shape inner placed levels fs rest own b

are_placed : (shape : Shape) (messages : ℕ) → ArePlaced (payload_faults shape messages)
are_placed shape zero = record { placed = λ gs p e f. absurd f }
are_placed shape (suc messages) = record {
  placed =
      λ gs p e f. layer_placed shape (payload_faults shape messages) (are_placed shape messages) messages gs p e
      (subst (λ (T : Type 0). T) (faults_are shape messages gs p e) f);
}

pub with_placed : (shape : Shape) (groups messages : ℕ) (fs : List FieldShape) (bytes : List ℕ) (e : DecodeError) → FaultsWith shape groups messages fs bytes e
    → IsPlaced (length bytes) e
with_placed shape groups messages fs bytes e f = layer_placed shape (payload_faults shape messages) (are_placed shape messages) groups fs bytes e f

-- ---- behind records that mean something

-- a fault of the rest
pub record IsBehind (shape : Shape) (groups messages : ℕ) (fs : List FieldShape) (many : ℕ) (rest : List ℕ) (e : DecodeError) : Type 0 where
  pub own : DecodeError
  pub fault : FaultsWith shape groups messages fs rest own
  pub told : e ≡ shifted many own

pub parted : (first rest before last : List ℕ) (other more : List ℕ) → first ++ rest ≡ before ++ last → before ≡ other ++ more
    → first ++ rest ≡ other ++ (more ++ last)
parted first rest before last other more e h = e ∙ ap (λ (t : List ℕ). t ++ last) h ∙ append_assoc other more last

abbrev Broken : Shape → ℕ → ℕ → List FieldShape → List ℕ → DecodeError → Type 0
Broken shape groups messages fs bytes e = BreaksOne groups bytes e ⊎ BreaksField shape (payload_faults shape messages) groups fs bytes e

-- a fault of the record itself, or of the rest
front_or_behind : (shape : Shape) (groups messages : ℕ) (fs : List FieldShape) (first rest : List ℕ) (r : Rec) (e : DecodeError) → SpellsOne groups first r
    → FaultsWith shape groups messages fs (first ++ rest) e
    → BreaksField shape (payload_faults shape messages) groups fs (first ++ rest) e ⊎ IsBehind shape groups messages fs (length first) rest e
unfolding SpellsBelow
front_or_behind shape groups messages fs first rest r e h (before, [], last, own, none, broken, parts, told) =
    let same : first ++ rest ≡ last = parts ∙ ap (λ (t : List ℕ). t ++ last) none in
    let is : e ≡ own = told ∙ ap (λ (t : List ℕ). shifted (length t) own) none ∙ shifted_zero own in
    by (subst (λ (t : List ℕ). Broken shape groups messages fs t own) (sym same) broken) is
  where
    by : Broken shape groups messages fs (first ++ rest) own → e ≡ own
        → BreaksField shape (payload_faults shape messages) groups fs (first ++ rest) e ⊎ IsBehind shape groups messages fs (length first) rest e
    by (inl b) is = absurd (unbroken groups 0 first rest r own h b)
    by (inr b) is = inl (rw is b)
front_or_behind shape groups messages fs first rest r e h (before, q ∷ qs, last, own, (other, more, one, others, split), broken, parts, told) =
    let same = parted first rest before last other more parts split in
    let p = front_one groups first other rest (more ++ last) r q h one same in
    let long : length first ≡ length other = omega (arith, ap length same, length-append first rest, length-append other (more ++ last), ap length p.1) in
    let moved : e ≡ shifted (length first) (shifted (length more) own) =
    told ∙ ap (λ (t : List ℕ). shifted (length t) own) split ∙ ap (λ n. shifted n own) (length-append other more)
    ∙ sym (shifted_more (length other) (length more) own)
    ∙ ap (λ n. shifted n (shifted (length more) own)) (sym long) in
    inr (record { own = shifted (length more) own; fault = (more, qs, last, own, others, broken, p.1, refl); told = moved })

behind_one : (shape : Shape) (groups messages : ℕ) (fs : List FieldShape) (first rest : List ℕ) (r : Rec) (e : DecodeError)
    → IsReadWith shape groups messages fs → SpellsOne groups first r
    → is_some (meaning shape messages fs (r ∷ [])) ≡ true → FaultsWith shape groups messages fs (first ++ rest) e
    → IsBehind shape groups messages fs (length first) rest e
behind_one shape groups messages fs first rest r e read h m f = by (front_or_behind shape groups messages fs first rest r e h f)
  where
    by : BreaksField shape (payload_faults shape messages) groups fs (first ++ rest) e ⊎ IsBehind shape groups messages fs (length first) rest e
        → IsBehind shape groups messages fs (length first) rest e
    by (inr b) = b
    by (inl b) =
        let none =
        fail_rec shape messages fs r (breaks_fails shape groups messages fs read.proper read.left (judged shape read.proper messages) first rest r e h b) in
        absurd cc

both_true : (a b : Bool) → true ≡ a && b → (a ≡ true) × (b ≡ true)
both_true true b e = (refl, sym e)
both_true false b e = absurd cc

told_behind : (a b n : ℕ) (e d own : DecodeError) → e ≡ shifted a d → d ≡ shifted b own → n ≡ a + b → e ≡ shifted n own
told_behind a b n e d own p q is = p ∙ ap (shifted a) q ∙ shifted_more a b own ∙ ap (λ m. shifted m own) (sym is)

behind_all : (shape : Shape) (groups messages : ℕ) (fs : List FieldShape) (before rest : List ℕ) (rs : List Rec) (e : DecodeError)
    → IsReadWith shape groups messages fs → Spells groups before rs
    → is_some (meaning shape messages fs rs) ≡ true → FaultsWith shape groups messages fs (before ++ rest) e
    → IsBehind shape groups messages fs (length before) rest e
unfolding SpellsBelow
behind_all shape groups messages fs before rest [] e read none m f =
    record { own = e; fault = subst (λ (t : List ℕ). FaultsWith shape groups messages fs (t ++ rest) e) none f; told = rw none (sym (shifted_zero e)) }
behind_all shape groups messages fs before rest (r ∷ rs) e read (first, more, one, others, parts) m f =
    let each : (is_some (meaning shape messages fs (r ∷ [])) ≡ true) × (is_some (meaning shape messages fs rs) ≡ true) =
    both_true (is_some (meaning shape messages fs (r ∷ []))) (is_some (meaning shape messages fs rs)) (sym m ∙ meaning_splits shape messages fs (r ∷ []) rs) in
    let whole : before ++ rest ≡ first ++ (more ++ rest) = ap (λ (t : List ℕ). t ++ rest) parts ∙ append_assoc first more rest in
    let fault : FaultsWith shape groups messages fs (first ++ (more ++ rest)) e = subst (λ (t : List ℕ). FaultsWith shape groups messages fs t e) whole f in
    let b = behind_one shape groups messages fs first (more ++ rest) r e read one each.0 fault in
    let c = behind_all shape groups messages fs more rest rs b.own read others each.1 b.fault in
    let long : length before ≡ length first + length more = ap length parts ∙ length-append first more in
    record { own = c.own; fault = c.fault; told = told_behind (length first) (length more) (length before) e b.own c.own b.told c.told long }

ahead_all : (shape : Shape) (groups messages : ℕ) (fs : List FieldShape) (before rest : List ℕ) (rs : List Rec) (e : DecodeError) → Spells groups before rs
    → FaultsWith shape groups messages fs rest e → FaultsWith shape groups messages fs (before ++ rest) (shifted (length before) e)
ahead_all shape groups messages fs before rest rs e s (front, qs, last, own, all, broken, parts, told) = (
  before ++ front,
  rs ++ qs,
  last,
  own,
  spelled_both groups before front rs qs s all,
  broken,
  ap (λ (t : List ℕ). before ++ t) parts ∙ sym (append_assoc before front last),
  ap (shifted (length before)) told ∙ shifted_more (length before) (length front) own ∙ ap (λ n. shifted n own) (sym (length-append before front)),
)

pub faults_behind : FaultsBehind
faults_behind shape groups messages fs before rest rs c e read s m = (
  λ f. let b = behind_all shape groups messages fs before rest rs e read s (ap is_some m) f in (b.own, b.fault, b.told),
  λ h. rw (h.2) (ahead_all shape groups messages fs before rest rs h.0 s h.1),
)

-- a first fault of bytes that have one
is_first : (shape : Shape) (groups messages : ℕ) (fs : List FieldShape) (bytes : List ℕ) (e : DecodeError) → IsReadWith shape groups messages fs
    → FaultsWith shape groups messages fs bytes e
    → ((f : DecodeError) → FaultsWith shape groups messages fs bytes f → offset_of e ≤ offset_of f) → IsFirstWith shape groups messages fs bytes e
is_first shape groups messages fs bytes e read f least = (faulty_means_nothing_with shape groups messages fs bytes e read f, f, least)

pub first_behind : FirstBehind
first_behind shape groups messages fs before rest rs c e read s m (none, fault, least) =
    is_first shape groups messages fs (before ++ rest) (shifted (length before) e) read (ahead_all shape groups messages fs before rest rs e s fault) (λ f h.
    let b = behind_all shape groups messages fs before rest rs f read s (ap is_some m) h in
    let some = (with_placed shape groups messages fs rest e fault).some in
    let own = (with_placed shape groups messages fs rest b.own b.fault).some in
    let le = least b.own b.fault in
    omega (arith, le, offset-shifted (length before) e some, offset-shifted (length before) b.own own, ap offset_of b.told))

pub first_is_with : FirstIsWith
first_is_with shape levels fs bytes e = (
  λ h. (h.0, (message_faults_are_with shape levels fs bytes e).0 h.1, λ f k. h.2 f ((message_faults_are_with shape levels fs bytes f).1 k)),
  λ h. (h.0, (message_faults_are_with shape levels fs bytes e).1 h.1, λ f k. h.2 f ((message_faults_are_with shape levels fs bytes f).0 k)),
)

bound_none : {A : Type 0} (f g : A → Option Content) (o : Option A) → ((x : A) → f x ≡ None → g x ≡ None) → option_and_then f o ≡ None
    → option_and_then g o ≡ None
bound_none f g None h e = refl
bound_none f g (Some x) h e = h x e

pub first_is_merged : FirstIsMerged
first_is_merged shape t old bytes e =
    let alone = meaning shape 100 (fields_of shape t) in
    let onto = meaning_onto shape 100 (fields_of shape t) old in
    let judges = judges_new shape 100 (fields_of shape t) old in (
      λ h. (bound_none alone onto (records_in 100 bytes) (λ rs. (judges rs).1) h.0, h.1, h.2),
      λ h. (bound_none onto alone (records_in 100 bytes) (λ rs. (judges rs).0) h.0, h.1, h.2),
    )

-- ---- at the front

front_fault : (shape : Shape) (groups messages : ℕ) (fs : List FieldShape) (bytes : List ℕ) (e : DecodeError) → Broken shape groups messages fs bytes e
    → FaultsWith shape groups messages fs bytes e
unfolding SpellsBelow
front_fault shape groups messages fs bytes e b = ([], [], bytes, e, refl, b, refl, sym (shifted_zero e))

pub first_at_front : FirstAtFront
first_at_front shape groups messages fs bytes e read b z =
    is_first shape groups messages fs bytes e read (front_fault shape groups messages fs bytes e b) (λ f h. omega (arith, z))

-- the fault of a record that stands behind another
record IsLater (groups : ℕ) (bytes : List ℕ) (e : DecodeError) : Type 0 where
  first : List ℕ
  rest : List ℕ
  rec : Rec
  one : SpellsOne groups first rec
  parts : bytes ≡ first ++ rest
  offset : length first ≤ offset_of e

front_or_later : (shape : Shape) (groups messages : ℕ) (fs : List FieldShape) (bytes : List ℕ) (e : DecodeError) → FaultsWith shape groups messages fs bytes e
    → Broken shape groups messages fs bytes e ⊎ IsLater groups bytes e
unfolding SpellsBelow
front_or_later shape groups messages fs bytes e (before, [], last, own, none, broken, parts, told) =
    let same : bytes ≡ last = parts ∙ ap (λ (t : List ℕ). t ++ last) none in
    let is : e ≡ own = told ∙ ap (λ (t : List ℕ). shifted (length t) own) none ∙ shifted_zero own in
    inl (rw (same, is) broken)
front_or_later shape groups messages fs bytes e (before, q ∷ qs, last, own, (other, more, one, others, split), broken, parts, told) =
    let some = (with_placed shape groups messages fs last own (front_fault shape groups messages fs last own broken)).some in
    inr (record {
      first = other;
      rest = more ++ last;
      rec = q;
      one = one;
      parts = parts ∙ ap (λ (t : List ℕ). t ++ last) split ∙ append_assoc other more last;
      offset = omega (arith, ap offset_of told, offset-shifted (length before) own some, ap length split, length-append other more);
    })

pub found_number : (n : ℕ) (fs : List FieldShape) (f : FieldShape) → field_of n fs ≡ Some f → n ≡ f.number
found_number n [] f e = absurd cc
found_number n (h ∷ fs) f e = at (n == h.number) refl e (found_number n fs f)
  where
    at : (b : Bool) → (n == h.number) ≡ b → (if b then Some h else field_of n fs) ≡ Some f → (field_of n fs ≡ Some f → n ≡ f.number) → n ≡ f.number
    at true d e ih = let is : h ≡ f = cc in eqb-true n h.number d ∙ ap (λ (g : FieldShape). g.number) is
    at false d e ih = ih e

pub found_own : (n : ℕ) (fs : List FieldShape) (f : FieldShape) → field_of n fs ≡ Some f → field_of f.number fs ≡ Some f
found_own n fs f e = subst (λ (m : ℕ). field_of m fs ≡ Some f) (found_number n fs f e) e

all_false : (a b c : Bool) → a || (b || c) ≡ false → (a ≡ false) × (b ≡ false) × (c ≡ false)
all_false true b c e = absurd cc
all_false false true c e = absurd cc
all_false false false c e = (refl, refl, e)

by_type : (shape : Shape) (groups messages : ℕ) (fs : List FieldShape) (bytes rest : List ℕ) (n w : ℕ) (o : Option FieldShape)
    → IsReadWith shape groups messages fs → w < 8 → BeginsWith n w rest bytes → field_of n fs ≡ o → takes_type o w ≡ false
    → IsFirstWith shape groups messages fs bytes (errors.WireType 0)
by_type shape groups messages fs bytes rest n w None read small begins e t = absurd cc
by_type shape groups messages fs bytes rest n w (Some f) read small begins e t =
    let p = all_false (is_float f.kind) (w == 4) (reads f.cardinality f.kind w) t in
    let own : BeginsWith f.number w rest bytes = subst (λ (m : ℕ). BeginsWith m w rest bytes) (found_number n fs f e) begins in
    let no_end : w ≢ 4 = λ is. let yes = eq-eqb w 4 is in absurd cc in
    first_at_front shape groups messages fs bytes (errors.WireType 0) read
    (inr (f, found_own n fs f e, p.0, inl (refl, (w, rest, own, small, no_end, p.2)))) refl

pub first_by_key : FirstByKey
first_by_key shape groups messages fs bytes None read is t = absurd cc
first_by_key shape groups messages fs bytes (Some (n, w)) read (small, (rest, begins)) t =
    by_type shape groups messages fs bytes rest n w (field_of n fs) read small begins refl t

-- no field refuses the key at the front
no_wrong_type : (fs : List FieldShape) (bytes : List ℕ) (key : Option (ℕ × ℕ)) (f : FieldShape) → IsFrontKey bytes key → takes_key fs key ≡ true
    → field_of f.number fs ≡ Some f → is_float f.kind ≡ false → HasWrongType f bytes → ⊥
no_wrong_type fs bytes None f none t found read (w, rest, begins, small, no_end, wrong) = none f.number w rest small begins
no_wrong_type fs bytes (Some (n, v)) f (less, (behind, is)) t found read (w, rest, begins, small, no_end, wrong) =
    let p = key_one is.0 begins.0 behind rest n f.number v w is.1 begins.1 less small (sym is.2 ∙ begins.2) in
    let type : takes_type (field_of n fs) v ≡ takes_type (Some f) w = rw (p.0, p.1, found) refl in
    let no : takes_type (Some f) w ≡ false = rw (read, wrong, other w no_end) refl in
    absurd cc
  where
    other : (w : ℕ) → w ≢ 4 → (w == 4) ≡ false
    other w h = ne_eqb w 4 h

pub first_of_record : FirstOfRecord
first_of_record shape groups messages fs bytes key e read is t b =
    is_first shape groups messages fs bytes e read (front_fault shape groups messages fs bytes e (inl b))
    (λ f h. least f (front_or_later shape groups messages fs bytes f h))
  where
    payload : (f : FieldShape) (head p : List ℕ) → HasPayload f.number head p bytes → ⊥
    payload f head p has =
        let s = payload_spelled groups f.number head p bytes has in
        unbroken groups 0 (head ++ p) has.2 (rec.Bytes f.number p) e s (rw (← has.6) b)

    as_field : (f : FieldShape) (d : DecodeError) → field_of f.number fs ≡ Some f → is_float f.kind ≡ false → BreaksAsField shape groups f bytes d → ⊥
    as_field f (errors.WireType at) found r (z, wrong) = no_wrong_type fs bytes key f is t found r wrong
    as_field f (errors.Utf8 at) found r (z, k, (head, p, has, o)) = payload f head p has
    as_field f (errors.Varint at) found r (z, k, (head, p, has, o)) = payload f head p has
    as_field f (errors.Underflow at) found r (z, k, (head, p, has, o)) = payload f head p has
    as_field f (errors.TooDeep at) found r (z, none, k, (head, p, has, o)) = payload f head p has
    as_field f (errors.Key at) found r b = absurd b
    as_field f (errors.EndGroup at) found r b = absurd b
    as_field f errors.NoMemory found r b = absurd b

    own : (d : DecodeError) → Broken shape groups messages fs bytes d → d ≡ e
    own d (inl c) = one_fault groups bytes d e (at_front groups 0 bytes d c) (at_front groups 0 bytes e b)
    own d (inr (f, found, r, inl c)) = absurd (as_field f d found r c)
    own d (inr (f, found, r, inr (gs, head, p, inner, fields, has, fault, told))) = absurd (payload f head p has)

    least : (f : DecodeError) → Broken shape groups messages fs bytes f ⊎ IsLater groups bytes f → offset_of e ≤ offset_of f
    least f (inl c) = let same = ap offset_of (own f c) in omega arith
    least f (inr l) = absurd (unbroken groups 0 l.first l.rest l.rec e l.one (subst (λ (t : List ℕ). BreaksOne groups t e) l.parts b))

rec_placed : (shape : Shape) (levels : ℕ) (f : FieldShape) (r : Rec) (e : DecodeError) → RecBreaks shape levels f r e → offset_of e ≡ 0
rec_placed shape levels f r (errors.WireType at) b = b.0
rec_placed shape levels f r (errors.Utf8 at) b = b.0
rec_placed shape levels f r (errors.Varint at) b = b.0
rec_placed shape levels f r (errors.Underflow at) b = b.0
rec_placed shape levels f r (errors.TooDeep at) b = b.0
rec_placed shape levels f r (errors.Key at) b = absurd b
rec_placed shape levels f r (errors.EndGroup at) b = absurd b
rec_placed shape levels f r errors.NoMemory b = absurd b

pub first_as_field : FirstAsField
first_as_field shape groups messages fs first rest r f e read one found kept b =
    let numbered = found_number (number_of r) fs f found in
    let breaks = breaks_as shape groups f first rest r e one numbered b in
    first_at_front shape groups messages fs (first ++ rest) e read (inr (f, found_own (number_of r) fs f found, kept, inl breaks))
    (rec_placed shape groups f r e b)

-- ---- in a payload

-- a record with a payload that may be a message is not refused as one of the field
payload_read : (shape : Shape) (c : Cardinality) (k : Kind) (gs : List FieldShape) → payload_fields shape c k ≡ Some gs → reads c k 2 ≡ true
payload_read shape Singular (kind.Message t) gs e = refl
payload_read shape Repeated (kind.Message t) gs e = refl
payload_read shape (Map key) k gs e = refl
payload_read shape c k gs e = absurd cc

payload_no_text : (shape : Shape) (c : Cardinality) (k : Kind) (gs : List FieldShape) → payload_fields shape c k ≡ Some gs → is_of_texts c k ≡ false
payload_no_text shape Singular (kind.Message t) gs e = refl
payload_no_text shape Repeated (kind.Message t) gs e = refl
payload_no_text shape (Map key) k gs e = refl
payload_no_text shape c k gs e = absurd cc

payload_no_numbers : (shape : Shape) (c : Cardinality) (k : Kind) (gs : List FieldShape) → payload_fields shape c k ≡ Some gs → is_of_numbers c k ≡ false
payload_no_numbers shape Singular (kind.Message t) gs e = refl
payload_no_numbers shape Repeated (kind.Message t) gs e = refl
payload_no_numbers shape (Map key) k gs e = refl
payload_no_numbers shape c k gs e = absurd cc

payload_unrefused : (shape : Shape) (levels : ℕ) (f : FieldShape) (r : Rec) (gs : List FieldShape) (payload : List ℕ) (e : DecodeError) → levels ≢ 0
    → payload_fields shape f.cardinality f.kind ≡ Some gs → bytes_of r ≡ Some payload
    → RecBreaks shape levels f r e → ⊥
payload_unrefused shape levels f r gs payload e some of is b = by e b
  where
    type : wire_type_of r ≡ 2
    type = eqb-true (wire_type_of r) 2 (sym (bytes_there r) ∙ ap is_some is)

    by : (e : DecodeError) → RecBreaks shape levels f r e → ⊥
    by (errors.WireType at) (z, wrong) =
        let yes = payload_read shape f.cardinality f.kind gs of in
        let no : reads f.cardinality f.kind 2 ≡ false = rw (← type) wrong in
        absurd cc
    by (errors.Utf8 at) (z, t, o) = let no = payload_no_text shape f.cardinality f.kind gs of in absurd cc
    by (errors.Varint at) (z, t, o) = let no = payload_no_numbers shape f.cardinality f.kind gs of in absurd cc
    by (errors.Underflow at) (z, t, o) = let no = payload_no_numbers shape f.cardinality f.kind gs of in absurd cc
    by (errors.TooDeep at) (z, none, t, o) = some none
    by (errors.Key at) b = absurd b
    by (errors.EndGroup at) b = absurd b
    by errors.NoMemory b = absurd b

pub some_field : (f g : FieldShape) (n : ℕ) (fs : List FieldShape) → field_of n fs ≡ Some f → field_of g.number fs ≡ Some g → n ≡ g.number → f ≡ g
some_field f g n fs e d is = let same : field_of n fs ≡ Some g = rw is d in cc

-- the place of a payload in its record
payload_place : (first head payload : List ℕ) → length first ≡ length head + length payload → length first - length payload ≡ length head
payload_place first head payload h = omega arith

payload_fault : (shape : Shape) (groups messages : ℕ) (fs gs : List FieldShape) (first rest payload : List ℕ) (r : Rec) (f : FieldShape) (e : DecodeError)
    → SpellsOne groups first r → field_of (number_of r) fs ≡ Some f
    → is_float f.kind ≡ false → payload_fields shape f.cardinality f.kind ≡ Some gs → bytes_of r ≡ Some payload → payload_faults shape messages gs payload e
    → FaultsWith shape groups messages fs (first ++ rest) (shifted (length first - length payload) e)
payload_fault shape groups messages fs gs first rest payload r f e one found kept of is fault =
    let p = has_payload groups first r payload one is in
    let place : length first - length payload ≡ length p.head = payload_place first p.head payload (ap length p.parts ∙ length-append p.head payload) in
    let has : HasPayload f.number p.head payload (first ++ rest) =
    subst (λ (n : ℕ). HasPayload n p.head payload (first ++ rest)) (found_number (number_of r) fs f found) (p.has rest) in
    front_fault shape groups messages fs (first ++ rest) (shifted (length first - length payload) e)
    (inr (f, found_own (number_of r) fs f found, kept, inr (gs, p.head, payload, e, of, has, fault, ap (λ n. shifted n e) place)))

-- any other fault of the record is inside the payload too
payload_broken : (shape : Shape) (groups messages : ℕ) (fs gs : List FieldShape) (first rest payload : List ℕ) (r : Rec) (f : FieldShape) (d : DecodeError)
    → groups ≢ 0 → SpellsOne groups first r → field_of (number_of r) fs ≡ Some f
    → payload_fields shape f.cardinality f.kind ≡ Some gs → bytes_of r ≡ Some payload → Broken shape groups messages fs (first ++ rest) d
    → (own : DecodeError) × payload_faults shape messages gs payload own × (d ≡ shifted (length first - length payload) own)
payload_broken shape groups messages fs gs first rest payload r f d some one found of is (inl b) = absurd (unbroken groups 0 first rest r d one b)
payload_broken shape groups messages fs gs first rest payload r f d some one found of is (inr (g, found', kept, inl b)) =
    let own = as_breaks shape groups g first rest r d one b in
    let same = some_field f g (number_of r) fs found found' own.0 in
    absurd (payload_unrefused shape groups g r gs payload d some
    (subst (λ (h : FieldShape). payload_fields shape h.cardinality h.kind ≡ Some gs) same of) is own.1)
payload_broken shape groups messages fs gs first rest payload r f d some one found of is
    (inr (g, found', kept, inr (hs, head, p, own, of', has, fault, told))) =
    let at = payload_one groups first rest r g.number head p one has in
    let same = some_field f g (number_of r) fs found found' at.numbered in
    let text : payload ≡ p = let both : Some payload ≡ Some p = sym is ∙ at.bytes in cc in
    let fields : hs ≡ gs = let both : payload_fields shape f.cardinality f.kind ≡ Some hs = rw same of' in cc in
    let place : length first - length p ≡ length head = payload_place first head p at.long in (
      own,
      subst (λ (b : List ℕ). payload_faults shape messages gs b own) (sym text)
          (subst (λ (h : List FieldShape). payload_faults shape messages h p own) fields fault),
      rw text (told ∙ ap (λ n. shifted n own) (sym place)),
    )

pub first_in_payload : FirstInPayload
first_in_payload shape groups messages fs gs first rest payload r f e read one found kept of is (none, fault, least) =
    let inside = (message_faults_are_with shape messages gs payload e).1 fault in
    let placed = with_placed shape messages messages gs payload e fault in
    let levels : groups ≢ 0 = λ z. absurd (omega (arith, read.left.0 z)) in
    let p = has_payload groups first r payload one is in
    let whole : length first ≡ length p.head + length payload = ap length p.parts ∙ length-append p.head payload in
    let moved = offset-shifted (length first - length payload) e placed.some in
    is_first shape groups (suc messages) fs (first ++ rest) (shifted (length first - length payload) e) read
    (payload_fault shape groups (suc messages) fs gs first rest payload r f e one found kept of is inside)
    (λ d h. elim (front_or_later shape groups (suc messages) fs (first ++ rest) d h) [
      | inr l ↦
          let same = front_one groups first l.first rest l.rest r l.rec one l.one l.parts in
          omega (arith, l.offset, moved, placed.offset, whole, ap length l.parts, length-append first rest, length-append l.first l.rest, ap length same.1)
      | inl b ↦
          let own = payload_broken shape groups (suc messages) fs gs first rest payload r f d levels one found of is b in
          let other = (message_faults_are_with shape messages gs payload own.0).0 own.1 in
          let some = (with_placed shape messages messages gs payload own.0 other).some in
          omega (arith, least own.0 other, moved, ap offset_of own.2, offset-shifted (length first - length payload) own.0 some)
    ])
