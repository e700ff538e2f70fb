-- Records read one by one: what each means alone, and what the bytes mean then.
use Rattle.std.proofs.Common.{◌≡◌, ℕ, zero, suc, ◌-◌, ◌<◌, ◌&&◌, Bool, true, false, not, List, [], ◌∷◌, ◌++◌, length, Option, Some, None, refl, sym, ap, ◌∙◌, subst, arith, append-nil, append_assoc, length-append, inl, inr}
use Rattle.std.specs.Prelude.{◌⊎◌, ◌↔◌, ◌==◌, option_map, option_and_then}
use Rattle.std.specs.Prelude.{Result, Ok, Err, IfOk}
use Rattle.std.specs.Option.{is_some}
use Rattle.std.specs.Str.{is_utf8}
use Rattle.pbx_wire.specs.declared.rec.Rec.{Rec, out-Rec, Varint, Fixed64, Bytes, Group', Fixed32}
use Rattle.pbx_wire.specs.declared.error.DecodeError.{DecodeError}
use Rattle.pbx_wire.specs.Spelling.{Spells, SpellsBelow}
use Rattle.pbx_wire.specs.Faults.{SpellsOne, BreaksOne, shifted}
use Rattle.pbx_wire.specs.Front.{IsFrontFault}
use Rattle.pbx_wire.specs.Reading.{records_in}
use Rattle.pbx_wire.proofs.Laws.{layer_has}
use Rattle.pbx_wire.proofs.Breaking.{are_spelled}
use Rattle.pbx_content.specs.declared.shape.Kind.{Kind}
use Rattle.pbx_content.specs.declared.shape.Kind.TheVariants as kind
use Rattle.pbx_content.specs.declared.shape.Cardinality.{Cardinality}
use Rattle.pbx_content.specs.declared.shape.Cardinality.TheVariants.{Singular, Repeated, Map}
use Rattle.pbx_content.specs.declared.shape.Shape.{Shape}
use Rattle.pbx_content.specs.declared.shape.FieldShape.{FieldShape}
use Rattle.pbx_content.specs.Content.{Content}
use Rattle.pbx_content.specs.Records.{number_of, bytes_of}
use Rattle.pbx_content.specs.Shape.{fields_of, field_of, is_float, Form, as_varint, as_four, as_eight, as_payload, form_of, is_payload}
use Rattle.pbx_content.specs.Meaning.{meaning, numbers_in}
use Rattle.pbx_content.specs.Sound.{IsProper}
use Rattle.pbx_content.specs.Faults.{reads, wire_type, is_of_texts, is_of_numbers, payload_fields, wire_type_of}
use Rattle.pbx_content.specs.Laws.{AreFieldsOf, IsReadWith, meaning_with, FaultsWith, payload_faults}
use Rattle.pbx_content.proofs.OntoSplits.{inner_at, not_there, and_false, meaning_splits}
use Rattle.pbx_content.proofs.OntoLaw.{onto_empty}
use Rattle.pbx_content.proofs.OntoOne.{empty_is_stable}
use Rattle.pbx_content.proofs.FaultyNumbers.{numbers_fail, long_none, end_none}
use Rattle.pbx_content.proofs.FaultyRecords.{FailsInside, RecFails, value_fails, fails_value}
use Rattle.pbx_content.proofs.FaultyFields.{FailsAt, rec_fails, fail_rec, spelled_one, spelled_both}
use Rattle.pbx_content.proofs.FaultyLaw.{are_above, are_records, spelled_behind, one_inner, faulty_means_nothing_with}
use Rattle.pbx_content.proofs.FaultyFirst.{found_number, found_own, some_field}
use Rattle.pbx_content.proofs.FaultyAlone.{spelled_next}
use Rattle.pbx_desc_decodable.specs.declared.fields.FieldView.{FieldView}
use Rattle.pbx_desc_decodable.specs.declared.fields.Owner.{Owner}
use Rattle.pbx_desc_decodable.specs.declared.fields.Owner.TheVariants as owners
use Rattle.pbx_desc_decodable.specs.Fields.{view_of, fields_at}
use Rattle.pbx_desc_decodable.specs.Reading.{RulesOut, GoesOn}

-- ---- fields

pub fields_are : (shape : Shape) (owner : Owner) → AreFieldsOf shape (fields_at shape owner)
fields_are shape (owners.Type t) = inl (t, refl)
fields_are shape (owners.Entry key value) = inr (key, value, refl)

pub on_ok : {A E : Type 0} {P Q : A → Type 0} (result : Result A E) → ((x : A) → P x → Q x) → IfOk result P → IfOk result Q
on_ok (Ok x) more h = more x h
on_ok (Err e) more h = h

-- ---- levels

no_level_at : (shape : Shape) (gs : List FieldShape) (p : List ℕ) → inner_at shape 0 gs (p ∷ []) ≡ None
unfolding inner_at
no_level_at shape gs p = refl

pub no_level : (shape : Shape) (m : ℕ) (gs : List FieldShape) (p : List ℕ) → m ≡ 0 → false ≡ is_some (inner_at shape m gs (p ∷ []))
no_level shape m gs p none = rw (none, no_level_at shape gs p) refl

-- a payload with a level left
pub level_less : (shape : Shape) (m : ℕ) (gs : List FieldShape) (p : List ℕ) → (m ≡ 0 → ⊥)
    → meaning_with shape (m - 1) (m - 1) gs p ≡ inner_at shape m gs (p ∷ [])
level_less shape zero gs p some = absurd (some refl)
level_less shape (suc m) gs p some = let same : suc m - 1 ≡ m = omega arith in rw same (sym (one_inner shape m gs p))

-- ---- a record of a field

pub no_payload : (shape : Shape) (m : ℕ) (c : Cardinality) (k : Kind) (r : Rec) → reads c k (wire_type_of r) ≡ true → bytes_of r ≡ None
    → RecFails shape (inner_at shape m) c k r → ⊥
no_payload shape m c k r read none (inl e) = absurd cc
no_payload shape m c k r read none (inr (inl (t, (p, d, h)))) = let bad : Some p ≡ None = sym d ∙ none in absurd cc
no_payload shape m c k r read none (inr (inr (inl (t, (p, d, h))))) = let bad : Some p ≡ None = sym d ∙ none in absurd cc
no_payload shape m c k r read none (inr (inr (inr h))) = let bad : Some h.payload ≡ None = sym h.of_record ∙ none in absurd cc

-- the same payload
same_payload : (r : Rec) (p q : List ℕ) → bytes_of r ≡ Some p → bytes_of r ≡ Some q → p ≡ q
same_payload r p q d e = let both : Some p ≡ Some q = sym d ∙ e in cc

-- a field whose payloads are messages or entries: it reads neither texts nor numbers
pub inside_told : (shape : Shape) (m : ℕ) (c : Cardinality) (k : Kind) (r : Rec) (gs : List FieldShape) (p : List ℕ) (means : Bool)
    → reads c k (wire_type_of r) ≡ true → bytes_of r ≡ Some p → payload_fields shape c k ≡ Some gs
    → is_of_texts c k ≡ false → is_of_numbers c k ≡ false
    → means ≡ is_some (inner_at shape m gs (p ∷ [])) → RulesOut means (RecFails shape (inner_at shape m) c k r)
inside_told shape m c k r gs p true read d fields no_text no_number told = none
  where
    none : RecFails shape (inner_at shape m) c k r → ⊥
    none (inl e) = absurd cc
    none (inr (inl (t, h))) = let bad : true ≡ false = sym t ∙ no_text in absurd cc
    none (inr (inr (inl (t, h)))) = let bad : true ≡ false = sym t ∙ no_number in absurd cc
    none (inr (inr (inr h))) =
        let same : h.payload ≡ p = same_payload r h.payload p h.of_record d in
        let own : h.gs ≡ gs = (let both : Some h.gs ≡ Some gs = sym h.of_fields ∙ fields in cc) in
        let bad : true ≡ false = told ∙ ap is_some (sym (ap (λ (x : List FieldShape). inner_at shape m x (p ∷ [])) own)
        ∙ sym (ap (λ (x : List ℕ). inner_at shape m h.gs (x ∷ [])) same) ∙ h.none) in
        absurd cc
inside_told shape m c k r gs p false read d fields no_text no_number told =
    inr (inr (inr (record { gs = gs; payload = p; of_fields = fields; of_record = d; none = not_there (inner_at shape m gs (p ∷ [])) (sym told) })))

-- a field whose payloads are texts
pub text_told : (shape : Shape) (m : ℕ) (c : Cardinality) (r : Rec) (p : List ℕ) (means : Bool)
    → reads c kind.String (wire_type_of r) ≡ true → bytes_of r ≡ Some p → is_of_texts c kind.String ≡ true
    → is_of_numbers c kind.String ≡ false → payload_fields shape c kind.String ≡ None
    → means ≡ is_utf8 p → RulesOut means (RecFails shape (inner_at shape m) c kind.String r)
text_told shape m c r p true read d text no_number no_fields told = none
  where
    none : RecFails shape (inner_at shape m) c kind.String r → ⊥
    none (inl e) = absurd cc
    none (inr (inl (t, (q, e, h)))) =
        let same : q ≡ p = same_payload r q p e d in
        let bad : true ≡ false = told ∙ ap is_utf8 (sym same) ∙ h in
        absurd cc
    none (inr (inr (inl (t, h)))) = let bad : true ≡ false = sym t ∙ no_number in absurd cc
    none (inr (inr (inr h))) = let bad : Some h.gs ≡ None = sym h.of_fields ∙ no_fields in absurd cc
text_told shape m c r p false read d text no_number no_fields told = inr (inl (text, (p, d, sym told)))

-- a field whose payloads are bytes
pub bytes_told : (shape : Shape) (m : ℕ) (c : Cardinality) (r : Rec) → reads c kind.Bytes (wire_type_of r) ≡ true
    → is_of_texts c kind.Bytes ≡ false → is_of_numbers c kind.Bytes ≡ false → payload_fields shape c kind.Bytes ≡ None
    → RecFails shape (inner_at shape m) c kind.Bytes r → ⊥
bytes_told shape m c r read no_text no_number no_fields (inl e) = absurd cc
bytes_told shape m c r read no_text no_number no_fields (inr (inl (t, h))) = let bad : true ≡ false = sym t ∙ no_text in absurd cc
bytes_told shape m c r read no_text no_number no_fields (inr (inr (inl (t, h)))) = let bad : true ≡ false = sym t ∙ no_number in absurd cc
bytes_told shape m c r read no_text no_number no_fields (inr (inr (inr h))) = let bad : Some h.gs ≡ None = sym h.of_fields ∙ no_fields in absurd cc

-- a field whose payloads are numbers
pub numbers_told : (shape : Shape) (m : ℕ) (c : Cardinality) (k : Kind) (r : Rec) (p : List ℕ) (means : Bool)
    → reads c k (wire_type_of r) ≡ true → bytes_of r ≡ Some p → is_of_texts c k ≡ false → is_of_numbers c k ≡ true
    → payload_fields shape c k ≡ None → is_payload (form_of k) ≡ false
    → means ≡ is_some (numbers_in (form_of k) p) → RulesOut means (RecFails shape (inner_at shape m) c k r)
numbers_told shape m c k r p true read d no_text number no_fields form told = none
  where
    none : RecFails shape (inner_at shape m) c k r → ⊥
    none (inl e) = absurd cc
    none (inr (inl (t, h))) = let bad : true ≡ false = sym t ∙ no_text in absurd cc
    none (inr (inr (inl (t, (q, e, inl h))))) =
        let same : q ≡ p = same_payload r q p e d in
        let bad : true ≡ false = told ∙ ap (λ (x : List ℕ). is_some (numbers_in (form_of k) x)) (sym same) ∙ ap is_some (long_none (form_of k) q h) in
        absurd cc
    none (inr (inr (inl (t, (q, e, inr h))))) =
        let same : q ≡ p = same_payload r q p e d in
        let bad : true ≡ false = told ∙ ap (λ (x : List ℕ). is_some (numbers_in (form_of k) x)) (sym same) ∙ ap is_some (end_none (form_of k) q h) in
        absurd cc
    none (inr (inr (inr h))) = let bad : Some h.gs ≡ None = sym h.of_fields ∙ no_fields in absurd cc
numbers_told shape m c k r p false read d no_text number no_fields form told =
    inr (inr (inl (number, (p, d, numbers_fail (form_of k) p form (not_there (numbers_in (form_of k) p) (sym told))))))

no_payload_form : (k : Kind) → (k ≡ kind.String → ⊥) → (k ≡ kind.Bytes → ⊥) → ((t : ℕ) → k ≡ kind.Message t → ⊥) → is_payload (form_of k) ≡ false
no_payload_form kind.String s b m = absurd (s refl)
no_payload_form kind.Bytes s b m = absurd (b refl)
no_payload_form (kind.Message t) s b m = absurd (m t refl)
no_payload_form k s b m = refl

no_texts : (k : Kind) → (k ≡ kind.String → ⊥) → is_of_texts Repeated k ≡ false
no_texts kind.String s = absurd (s refl)
no_texts k s = refl

no_messages : (shape : Shape) (k : Kind) → ((t : ℕ) → k ≡ kind.Message t → ⊥) → payload_fields shape Repeated k ≡ None
no_messages shape (kind.Message t) m = absurd (m t refl)
no_messages shape k m = refl

other_type : (f : Form) → is_payload f ≡ false → (2 == wire_type f) ≡ false
other_type as_varint e = refl
other_type as_four e = refl
other_type as_eight e = refl
other_type as_payload e = absurd cc

payload_type : (r : Rec) (p : List ℕ) → bytes_of r ≡ Some p → wire_type_of r ≡ 2
payload_type (Varint n v) p e = absurd cc
payload_type (Fixed64 n v) p e = absurd cc
payload_type (Bytes n b) p e = refl
payload_type (Group' n s rs) p e = absurd cc
payload_type (Fixed32 n v) p e = absurd cc

-- so it is of every other kind
pub default_told : (shape : Shape) (m : ℕ) (c : Cardinality) (k : Kind) (r : Rec) (p : List ℕ) (means : Bool) → ((key : Kind) → c ≡ Map key → ⊥)
    → (k ≡ kind.String → ⊥) → (k ≡ kind.Bytes → ⊥) → ((t : ℕ) → k ≡ kind.Message t → ⊥)
    → reads c k (wire_type_of r) ≡ true → bytes_of r ≡ Some p
    → means ≡ is_some (numbers_in (form_of k) p) → RulesOut means (RecFails shape (inner_at shape m) c k r)
default_told shape m (Map key) k r p means map s b n read d told = absurd (map key refl)
default_told shape m Singular k r p means map s b n read d told =
    let bad : true ≡ false = sym read ∙ ap (λ (w : ℕ). w == wire_type (form_of k)) (payload_type r p d) ∙ other_type (form_of k) (no_payload_form k s b n) in
    absurd cc
default_told shape m Repeated k r p means map s b n read d told =
    numbers_told shape m Repeated k r p means read d (no_texts k s) (ap not (no_payload_form k s b n)) (no_messages shape k n) (no_payload_form k s b n) told

-- ---- a record of a message

found_view : (o : Option FieldShape) (v : FieldView) → Some v ≡ option_map view_of o → (f : FieldShape) × (o ≡ Some f) × (v ≡ view_of f)
found_view None v e = absurd cc
found_view (Some f) v e = (f, refl, cc)

no_view : (o : Option FieldShape) → None ≡ option_map view_of o → o ≡ None
no_view None e = refl
no_view (Some f) e = absurd cc

is_true : (b : Bool) → (b ≡ false → ⊥) → true ≡ b
is_true true h = refl
is_true false h = absurd (h refl)

-- a record that no field reads is kept
pub unread : (shape : Shape) (m : ℕ) (owner : Owner) (r : Rec) → IsProper shape → None ≡ option_map view_of (field_of (number_of r) (fields_at shape owner))
    → true ≡ is_some (meaning shape m (fields_at shape owner) (r ∷ []))
unread shape m owner r proper none =
    is_true _ (λ e.
    let fails = rec_fails shape m (fields_at shape owner) r (are_above shape proper (fields_at shape owner) (fields_are shape owner)) e in
    let found : field_of (number_of r) (fields_at shape owner) ≡ Some fails.field =
    ap (λ (n : ℕ). field_of n (fields_at shape owner)) fails.numbered ∙ fails.found in
    let bad : Some fails.field ≡ None = sym found ∙ no_view _ none in
    absurd cc)

-- so is one of a float
pub unread_float : (shape : Shape) (m : ℕ) (owner : Owner) (r : Rec) (v : FieldView) → IsProper shape
    → Some v ≡ option_map view_of (field_of (number_of r) (fields_at shape owner)) → is_float v.kind ≡ true
    → true ≡ is_some (meaning shape m (fields_at shape owner) (r ∷ []))
unread_float shape m owner r v proper some float =
    let f = found_view _ v some in
    is_true _ (λ e.
    let fails = rec_fails shape m (fields_at shape owner) r (are_above shape proper (fields_at shape owner) (fields_are shape owner)) e in
    let same = some_field f.0 fails.field (number_of r) (fields_at shape owner) f.1 fails.found fails.numbered in
    let bad : true ≡ false = sym float ∙ ap (λ (x : FieldView). is_float x.kind) f.2 ∙ ap (λ (x : FieldShape). is_float x.kind) same ∙ fails.read in
    absurd cc)

-- one that a field reads means something exactly where it is one of the field
pub read_told : (shape : Shape) (m : ℕ) (owner : Owner) (r : Rec) (v : FieldView) (means : Bool) → IsProper shape
    → Some v ≡ option_map view_of (field_of (number_of r) (fields_at shape owner)) → is_float v.kind ≡ false
    → RulesOut means (RecFails shape (inner_at shape m) v.cardinality v.kind r)
    → means ≡ is_some (meaning shape m (fields_at shape owner) (r ∷ []))
read_told shape m owner r v true proper some read no_fault =
    let f = found_view _ v some in
    is_true _ (λ e.
    let fails = rec_fails shape m (fields_at shape owner) r (are_above shape proper (fields_at shape owner) (fields_are shape owner)) e in
    let same = some_field f.0 fails.field (number_of r) (fields_at shape owner) f.1 fails.found fails.numbered in
    let own = value_fails shape (inner_at shape m) fails.field r fails.read fails.none in
    let its : RecFails shape (inner_at shape m) f.0.cardinality f.0.kind r =
    subst (λ (g : FieldShape). RecFails shape (inner_at shape m) g.cardinality g.kind r) (sym same) own in
    no_fault (subst (λ (x : FieldView). RecFails shape (inner_at shape m) x.cardinality x.kind r) (sym f.2) its))
read_told shape m owner r v false proper some read fault =
    let f = found_view _ v some in
    let its : RecFails shape (inner_at shape m) f.0.cardinality f.0.kind r =
    subst (λ (x : FieldView). RecFails shape (inner_at shape m) x.cardinality x.kind r) f.2 fault in
    let plain : is_float f.0.kind ≡ false = ap (λ (x : FieldView). is_float x.kind) (sym f.2) ∙ read in
    sym (fail_rec shape m (fields_at shape owner) r (record {
      field = f.0;
      found = found_own (number_of r) (fields_at shape owner) f.0 f.1;
      read = plain;
      numbered = found_number (number_of r) (fields_at shape owner) f.0 f.1;
      none = fails_value shape (inner_at shape m) f.0 r plain its;
    }))

-- a record of a list of messages means something exactly where its payload does, with a level less
pub message_told : (shape : Shape) (m t u : ℕ) (f : FieldShape) (r : Rec) (p : List ℕ) → IsProper shape → field_of (number_of r) (fields_of shape t) ≡ Some f
    → f.kind ≡ kind.Message u → f.cardinality ≡ Repeated → bytes_of r ≡ Some p
    → is_some (inner_at shape m (fields_of shape u) (p ∷ [])) ≡ is_some (meaning shape m (fields_of shape t) (r ∷ []))
message_told shape m t u f r p proper found k c d =
    let v : FieldView = record { kind = kind.Message u; cardinality = Repeated } in
    let same : v ≡ view_of f = rw (k, c) refl in
    let view : Some v ≡ option_map view_of (field_of (number_of r) (fields_of shape t)) = rw found (ap (λ (x : FieldView). Some x) same) in
    let read : reads Repeated (kind.Message u) (wire_type_of r) ≡ true = rw (payload_type r p d) refl in
    read_told shape m (owners.Type t) r v (is_some (inner_at shape m (fields_of shape u) (p ∷ []))) proper view refl
    (inside_told shape m Repeated (kind.Message u) r (fields_of shape u) p (is_some (inner_at shape m (fields_of shape u) (p ∷ []))) read d refl refl refl refl)

-- ---- the record at the front

read_with : (shape : Shape) (groups messages : ℕ) (owner : Owner) → IsProper shape → ((groups ≡ 0) ↔ (messages ≡ 0))
    → IsReadWith shape groups messages (fields_at shape owner)
read_with shape groups messages owner proper left = record { proper = proper; left = left; fields = fields_are shape owner }

spelled_none : (groups : ℕ) → Spells groups [] []
unfolding SpellsBelow
spelled_none groups = refl

-- bytes that break a rule of the wire mean nothing
pub broken : (shape : Shape) (groups messages : ℕ) (owner : Owner) (bytes : List ℕ) (at : ℕ) (e : DecodeError) → IsProper shape → ((groups ≡ 0) ↔ (messages ≡ 0))
    → IsFrontFault groups at bytes e → meaning_with shape groups messages (fields_at shape owner) bytes ≡ None
broken shape groups messages owner bytes at e proper left (own, breaks, is) =
    faulty_means_nothing_with shape groups messages (fields_at shape owner) bytes (shifted 0 own) (read_with shape groups messages owner proper left)
    ([], [], bytes, own, spelled_none groups, inl breaks, refl, refl)

-- records mean something together exactly where each does
split_at : (shape : Shape) (groups messages : ℕ) (fs : List FieldShape) (before rest : List ℕ) (rs : List Rec) → Spells groups before rs
    → is_some (meaning_with shape groups messages fs (before ++ rest))
    ≡ is_some (meaning shape messages fs rs) && is_some (meaning_with shape groups messages fs rest)
split_at shape groups messages fs before rest rs s = at (records_in groups rest) refl (records_in groups (before ++ rest)) refl
  where
    at : (o : Option (List Rec)) → records_in groups rest ≡ o → (p : Option (List Rec)) → records_in groups (before ++ rest) ≡ p
        → is_some (option_and_then (meaning shape messages fs) p)
        ≡ is_some (meaning shape messages fs rs) && is_some (option_and_then (meaning shape messages fs) o)
    at None d None e = and_false (is_some (meaning shape messages fs rs))
    at None d (Some qs) e =
        let behind = spelled_behind groups before rest rs qs s ((are_spelled groups (before ++ rest) qs).0 e) in
        let bad : Some behind.0 ≡ None = sym (are_records groups rest behind.0 behind.1) ∙ d in
        absurd cc
    at (Some ss) d p e =
        let all = are_records groups (before ++ rest) (rs ++ ss) (spelled_both groups before rest rs ss s ((are_spelled groups rest ss).0 d)) in
        let is : p ≡ Some (rs ++ ss) = sym e ∙ all in
        rw is (meaning_splits shape messages fs rs ss)

-- a record that means nothing alone, at the front
pub front_nothing : (shape : Shape) (groups messages : ℕ) (fs : List FieldShape) (bytes first rest : List ℕ) (r : Rec) → SpellsOne groups first r
    → bytes ≡ first ++ rest → is_some (meaning shape messages fs (r ∷ [])) ≡ false → meaning_with shape groups messages fs bytes ≡ None
front_nothing shape groups messages fs bytes first rest r one parts none =
    not_there (meaning_with shape groups messages fs bytes)
    (ap (λ (x : List ℕ). is_some (meaning_with shape groups messages fs x)) parts
    ∙ split_at shape groups messages fs first rest (r ∷ []) (spelled_one groups first r one)
    ∙ ap (λ b. b && is_some (meaning_with shape groups messages fs rest)) none)

-- ---- the loop

pub nothing_means : (shape : Shape) (levels : ℕ) (gs : List FieldShape) → is_some (meaning shape levels gs []) ≡ true
nothing_means shape levels gs = ap is_some (sym (onto_empty shape levels gs []) ∙ empty_is_stable shape levels gs)

-- the bytes before the rest are read: their records mean something
pub record HasGone (shape : Shape) (groups messages : ℕ) (fs : List FieldShape) (bytes rest : List ℕ) : Type 0 where
  pub before : List ℕ
  pub recs : List Rec
  pub spelled : Spells groups before recs
  pub parts : bytes ≡ before ++ rest
  pub means : is_some (meaning shape messages fs recs) ≡ true

pub gone_none : (shape : Shape) (groups messages : ℕ) (fs : List FieldShape) (bytes : List ℕ) → HasGone shape groups messages fs bytes bytes
gone_none shape groups messages fs bytes =
    record { before = []; recs = []; spelled = spelled_none groups; parts = refl; means = nothing_means shape messages fs }

pub gone_more : (shape : Shape) (groups messages : ℕ) (fs : List FieldShape) (bytes rest after : List ℕ) → HasGone shape groups messages fs bytes rest
    → GoesOn shape groups messages fs rest (Some after) → HasGone shape groups messages fs bytes after
gone_more shape groups messages fs bytes rest after h (first, r, one, parts, means) = record {
  before = h.before ++ first;
  recs = h.recs ++ r ∷ [];
  spelled = spelled_next groups h.before first h.recs r h.spelled one;
  parts = h.parts ∙ ap (λ (x : List ℕ). h.before ++ x) parts ∙ sym (append_assoc h.before first after);
  means = meaning_splits shape messages fs h.recs (r ∷ []) ∙ rw (h.means, means) refl;
}

pub gone_stops : (shape : Shape) (groups messages : ℕ) (fs : List FieldShape) (bytes rest : List ℕ) → HasGone shape groups messages fs bytes rest
    → meaning_with shape groups messages fs rest ≡ None → false ≡ is_some (meaning_with shape groups messages fs bytes)
gone_stops shape groups messages fs bytes rest h none =
    sym (ap (λ (x : List ℕ). is_some (meaning_with shape groups messages fs x)) h.parts
    ∙ split_at shape groups messages fs h.before rest h.recs h.spelled
    ∙ ap (λ b. is_some (meaning shape messages fs h.recs) && b) (ap is_some none)
    ∙ sym (and_false (is_some (meaning shape messages fs h.recs))))

pub gone_all : (shape : Shape) (groups messages : ℕ) (fs : List FieldShape) (bytes rest : List ℕ) → rest ≡ [] → HasGone shape groups messages fs bytes rest
    → true ≡ is_some (meaning_with shape groups messages fs bytes)
gone_all shape groups messages fs bytes rest none h =
    let all : bytes ≡ h.before = h.parts ∙ ap (λ (x : List ℕ). h.before ++ x) none ∙ append-nil h.before in
    rw (all, are_records groups h.before h.recs h.spelled) (sym h.means)

pub goes_shorter : (shape : Shape) (groups messages : ℕ) (fs : List FieldShape) (rest after : List ℕ) → GoesOn shape groups messages fs rest (Some after)
    → length after < length rest
goes_shorter shape groups messages fs rest after (first, r, one, parts, means) =
    omega (arith, layer_has (SpellsBelow groups) first (out-Rec r) one, ap length parts, length-append first after)

pub nothing_left : (rest : List ℕ) → length rest ≡ 0 → rest ≡ []
nothing_left [] e = refl
nothing_left (b ∷ bs) e = absurd (omega (arith, e))
