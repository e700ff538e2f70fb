-- Records read one by one, and the first fault among them.
use Rattle.std.proofs.Common.{◌≡◌, ℕ, zero, suc, ◌+◌, ◌-◌, ◌<◌, ◌≤◌, Bool, true, false, List, [], ◌∷◌, ◌++◌, length, Option, Some, None, refl, sym, ap, ◌∙◌, subst, arith, append-nil, append_assoc, length-append, inl, inr}
use Rattle.std.specs.Prelude.{◌⊎◌, ◌↔◌}
use Rattle.pbx_wire.specs.declared.rec.Rec.{Rec, out-Rec}
use Rattle.pbx_wire.specs.declared.error.DecodeError.{DecodeError}
use Rattle.pbx_wire.specs.declared.error.DecodeError.TheVariants as errors
use Rattle.pbx_wire.specs.Spelling.{Spells, SpellsBelow}
use Rattle.pbx_wire.specs.Faults.{shifted, SpellsOne}
use Rattle.pbx_wire.specs.Front.{IsFrontKey, IsFrontFault}
use Rattle.pbx_wire.proofs.Laws.{layer_has}
use Rattle.pbx_content.specs.declared.shape.Shape.{Shape}
use Rattle.pbx_content.specs.declared.shape.FieldShape.{FieldShape}
use Rattle.pbx_content.specs.Content.{Content}
use Rattle.pbx_content.specs.Meaning.{meaning}
use Rattle.pbx_content.specs.Onto.{meaning_onto}
use Rattle.pbx_content.specs.Sound.{IsProper}
use Rattle.pbx_content.specs.Laws.{AreFieldsOf, IsReadWith, IsFirstWith, takes_key}
use Rattle.pbx_content.proofs.OntoLaw.{judges_new}
use Rattle.pbx_content.proofs.OntoAppends.{onto_appends}
use Rattle.pbx_content.proofs.FaultyLaw.{has_payload, are_records}
use Rattle.pbx_content.proofs.FaultyFirst.{first_behind, first_by_key, first_of_record, first_as_field, first_in_payload}
use Rattle.pbx_content.proofs.FaultyAlone.{spelled_next}
use Rattle.pbx_content_codec.specs.Merging.{onto_with, IsToldAt, RecFails, PayloadFits, GoesOn}
use Rattle.pbx_content_codec.specs.Stability.{IsReady}
use Rattle.pbx_content_codec.proofs.Ready.{ready_more}

-- ---- the loop

-- the bytes before the rest are read: their records mean the new content behind the old one
pub record HasGone (stable : Bool) (shape : Shape) (groups messages : ℕ) (fs : List FieldShape) (old new : Content) (bytes rest : List ℕ) : Type 0 where
  pub before : List ℕ
  pub recs : List Rec
  pub spelled : Spells groups before recs
  pub parts : bytes ≡ before ++ rest
  pub means : meaning_onto shape messages fs old recs ≡ Some new
  pub ready : IsReady stable shape messages fs new

spelled_none : (groups : ℕ) → Spells groups [] []
unfolding SpellsBelow
spelled_none groups = refl

pub gone_none : (stable : Bool) (shape : Shape) (groups messages : ℕ) (fs : List FieldShape) (c : Content) (bytes : List ℕ) → IsProper shape → AreFieldsOf shape fs
    → IsReady stable shape messages fs c
    → HasGone stable shape groups messages fs c c bytes bytes
gone_none stable shape groups messages fs c bytes proper are h =
    record { before = []; recs = []; spelled = spelled_none groups; parts = refl; means = h.0; ready = h }

pub gone_more : (stable : Bool) (shape : Shape) (groups messages : ℕ) (fs : List FieldShape) (old mid new : Content) (bytes rest after : List ℕ) → IsProper shape
    → AreFieldsOf shape fs
    → HasGone stable shape groups messages fs old mid bytes rest → GoesOn shape groups messages fs mid new rest after
    → HasGone stable shape groups messages fs old new bytes after
gone_more stable shape groups messages fs old mid new bytes rest after proper are h (first, r, spelled, parts, means) = record {
  before = h.before ++ first;
  recs = h.recs ++ r ∷ [];
  spelled = spelled_next groups h.before first h.recs r h.spelled spelled;
  parts = h.parts ∙ ap (λ (x : List ℕ). h.before ++ x) parts ∙ sym (append_assoc h.before first after);
  means = onto_appends shape messages fs old mid h.recs (r ∷ []) proper are h.means ∙ means;
  ready = ready_more stable shape messages fs mid new (r ∷ []) proper are h.ready means;
}

pub gone_all : (stable : Bool) (shape : Shape) (groups messages : ℕ) (fs : List FieldShape) (old new : Content) (bytes rest : List ℕ) → rest ≡ []
    → HasGone stable shape groups messages fs old new bytes rest
    → onto_with shape groups messages fs old bytes ≡ Some new
gone_all stable shape groups messages fs old new bytes rest none h =
    let all : bytes ≡ h.before = h.parts ∙ ap (λ (x : List ℕ). h.before ++ x) none ∙ append-nil h.before in
    rw (all, are_records groups h.before h.recs h.spelled) h.means

pub goes_shorter : (shape : Shape) (groups messages : ℕ) (fs : List FieldShape) (old new : Content) (rest after : List ℕ)
    → GoesOn shape groups messages fs old new rest after
    → length after < length rest
goes_shorter shape groups messages fs old new rest after (first, r, spelled, parts, means) =
    omega (arith, layer_has (SpellsBelow groups) first (out-Rec r) spelled, ap length parts, length-append first after)

-- ---- offsets

pub shifted_twice : (n k : ℕ) (e : DecodeError) → shifted n (shifted k e) ≡ shifted (n + k) e
shifted_twice n k (errors.Varint at) = ap errors.Varint (omega arith)
shifted_twice n k (errors.Key at) = ap errors.Key (omega arith)
shifted_twice n k (errors.WireType at) = ap errors.WireType (omega arith)
shifted_twice n k (errors.Underflow at) = ap errors.Underflow (omega arith)
shifted_twice n k (errors.Utf8 at) = ap errors.Utf8 (omega arith)
shifted_twice n k (errors.EndGroup at) = ap errors.EndGroup (omega arith)
shifted_twice n k (errors.TooDeep at) = ap errors.TooDeep (omega arith)
shifted_twice n k errors.NoMemory = refl

pub gone_within : (stable : Bool) (shape : Shape) (groups messages : ℕ) (fs : List FieldShape) (old new : Content) (bytes rest : List ℕ) (end : ℕ)
    → HasGone stable shape groups messages fs old new bytes rest
    → length bytes ≤ end → length rest ≤ end
gone_within stable shape groups messages fs old new bytes rest end h le = omega (arith, ap length h.parts, length-append h.before rest)

read_with : (shape : Shape) (groups messages : ℕ) (fs : List FieldShape) → IsProper shape → ((groups ≡ 0) ↔ (messages ≡ 0)) → AreFieldsOf shape fs
    → IsReadWith shape groups messages fs
read_with shape groups messages fs proper left are = record { proper = proper; left = left; fields = are }

meant_alone : (shape : Shape) (messages : ℕ) (fs : List FieldShape) (old new : Content) (rs : List Rec) → meaning_onto shape messages fs old rs ≡ Some new
    → (c : Content) × (meaning shape messages fs rs ≡ Some c)
meant_alone shape messages fs old new rs e = at (meaning shape messages fs rs) refl
  where
    at : (o : Option Content) → meaning shape messages fs rs ≡ o → (c : Content) × (meaning shape messages fs rs ≡ Some c)
    at None d = absurd (let none = (judges_new shape messages fs old rs).1 d in let bad : None ≡ Some new = sym none ∙ e in cc)
    at (Some c) d = (c, d)

-- what is told of the rest is told of all
pub told_behind : (stable : Bool) (shape : Shape) (groups messages : ℕ) (fs : List FieldShape) (old new : Content) (bytes rest : List ℕ) (end : ℕ) (e : DecodeError)
    → IsProper shape
    → ((groups ≡ 0) ↔ (messages ≡ 0)) → AreFieldsOf shape fs → length bytes ≤ end → HasGone stable shape groups messages fs old new bytes rest
    → IsToldAt (end - length rest) (IsFirstWith shape groups messages fs rest) e → IsToldAt (end - length bytes) (IsFirstWith shape groups messages fs bytes) e
told_behind stable shape groups messages fs old new bytes rest end e proper left are le h (inl none) = inl none
told_behind stable shape groups messages fs old new bytes rest end e proper left are le h (inr (own, first, is)) =
    let c = meant_alone shape messages fs old new h.recs h.means in
    let all = first_behind shape groups messages fs h.before rest h.recs c.0 own (read_with shape groups messages fs proper left are) h.spelled c.1 first in
    let place : end - length rest ≡ (end - length bytes) + length h.before = omega (arith, ap length h.parts, length-append h.before rest) in
    inr (
      shifted (length h.before) own,
      subst (λ (x : List ℕ). IsFirstWith shape groups messages fs x (shifted (length h.before) own)) (sym h.parts) all,
      is ∙ ap (λ (n : ℕ). shifted n own) place ∙ sym (shifted_twice (end - length bytes) (length h.before) own),
    )

-- ---- the record at the front

pub told_key : (shape : Shape) (groups messages : ℕ) (fs : List FieldShape) (bytes : List ℕ) (key : Option (ℕ × ℕ)) (at : ℕ) → IsProper shape
    → ((groups ≡ 0) ↔ (messages ≡ 0)) → AreFieldsOf shape fs → IsFrontKey bytes key → takes_key fs key ≡ false
    → IsToldAt at (IsFirstWith shape groups messages fs bytes) (errors.WireType at)
told_key shape groups messages fs bytes key at proper left are k takes =
    inr (
      errors.WireType 0,
      first_by_key shape groups messages fs bytes key (read_with shape groups messages fs proper left are) k takes,
      ap errors.WireType
          (omega arith),
    )

pub told_front : (shape : Shape) (groups messages : ℕ) (fs : List FieldShape) (bytes : List ℕ) (key : Option (ℕ × ℕ)) (at : ℕ) (e : DecodeError)
    → IsProper shape
    → ((groups ≡ 0) ↔ (messages ≡ 0)) → AreFieldsOf shape fs → IsFrontKey bytes key → takes_key fs key ≡ true
    → (e ≡ errors.NoMemory) ⊎ IsFrontFault groups at bytes e → IsToldAt at (IsFirstWith shape groups messages fs bytes) e
told_front shape groups messages fs bytes key at e proper left are k takes (inl none) = inl none
told_front shape groups messages fs bytes key at e proper left are k takes (inr (own, breaks, is)) =
    inr (own, first_of_record shape groups messages fs bytes key own (read_with shape groups messages fs proper left are) k takes breaks, is)

pub payload_fits : (groups : ℕ) (first bytes rest : List ℕ) (r : Rec) (end : ℕ) → SpellsOne groups first r → bytes ≡ first ++ rest → length bytes ≤ end
    → PayloadFits r (end - length rest)
payload_fits groups first bytes rest r end spelled parts le = λ payload e.
    let p = has_payload groups first r payload spelled e in
    omega (arith, ap length p.parts, length-append p.head payload, ap length parts, length-append first rest)

pub told_rec : (shape : Shape) (groups messages : ℕ) (fs : List FieldShape) (bytes first rest : List ℕ) (r : Rec) (end : ℕ) (e : DecodeError) → IsProper shape
    → ((groups ≡ 0) ↔ (messages ≡ 0)) → AreFieldsOf shape fs → SpellsOne groups first r → bytes ≡ first ++ rest → length bytes ≤ end
    → (e ≡ errors.NoMemory) ⊎ RecFails shape groups messages fs (end - length bytes) (end - length rest) r e
    → IsToldAt (end - length bytes) (IsFirstWith shape groups messages fs bytes) e
told_rec shape groups messages fs bytes first rest r end e proper left are spelled parts le (inl none) = inl none
told_rec shape groups messages fs bytes first rest r end e proper left are spelled parts le (inr (f, listed, plain, inl (own, breaks, is))) =
    let all = first_as_field shape groups messages fs first rest r f own (read_with shape groups messages fs proper left are) spelled listed plain breaks in
    inr (own, subst (λ (x : List ℕ). IsFirstWith shape groups messages fs x own) (sym parts) all, is)
told_rec shape groups messages fs bytes first rest r end e proper left are spelled parts le (inr (
  f,
  listed,
  plain,
  inr
      (deeper, gs, payload, own, deep, inside, has, within, is),
)) =
    at messages left deep
  where
    place : end - length rest - length payload ≡ (end - length bytes) + (length first - length payload)
    place =
        let q = has_payload groups first r payload spelled has in
        omega (arith, ap length q.parts, length-append q.head payload, ap length parts, length-append first rest)

    at : (m : ℕ) → ((groups ≡ 0) ↔ (m ≡ 0)) → m ≡ suc deeper → IsToldAt (end - length bytes) (IsFirstWith shape groups m fs bytes) e
    at zero left d = absurd (omega arith)
    at (suc m) left d =
        let same : deeper ≡ m = omega arith in
        let own_first : IsFirstWith shape m m gs payload own = subst (λ (x : ℕ). IsFirstWith shape x x gs payload own) same within in
        let all = first_in_payload shape groups m fs gs first rest payload r f own (read_with shape groups
        (suc m) fs proper left are) spelled listed plain inside has own_first in
        inr (
          shifted (length first - length payload) own,
          subst (λ (x : List ℕ). IsFirstWith shape groups (suc m) fs x (shifted (length first - length payload) own)) (sym parts) all,
          is ∙ ap (λ (n : ℕ). shifted n own) place ∙ sym (shifted_twice (end - length bytes) (length first - length payload) own),
        )
