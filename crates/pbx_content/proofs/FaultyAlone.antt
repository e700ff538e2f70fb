-- Why a record of a field means nothing alone; numbers of a packed payload, and records, one by one.
use Rattle.std.proofs.Common.{◌≡◌, ◌≢◌, ℕ, zero, suc, false, List, [], ◌∷◌, Some, None, ◌⊎◌}
use Rattle.std.proofs.Common.{inl, inr, refl, sym, ap, ◌∙◌, subst, arith}
use Rattle.std.specs.Option.{is_some}
use Rattle.pbx_wire.specs.declared.error.DecodeError.{DecodeError}
use Rattle.pbx_wire.specs.declared.error.DecodeError.TheVariants as errors
use Rattle.pbx_wire.specs.declared.rec.Rec.{Rec}
use Rattle.pbx_wire.proofs.Laws.{varint_takes, spelled_so}
use Rattle.pbx_wire.proofs.Failing.{varint_fails}
use Rattle.pbx_content.specs.declared.shape.Shape.{Shape}
use Rattle.pbx_content.specs.declared.shape.FieldShape.{FieldShape}
use Rattle.pbx_content.specs.Records.{number_of}
use Rattle.pbx_content.specs.Shape.{field_of, is_float}
use Rattle.pbx_content.specs.Meaning.{meaning}
use Rattle.pbx_content.specs.Faults.{payload_fields, RecBreaks}
use Rattle.pbx_content.specs.Laws.{IsReadWith, PayloadMeansNothing, RecMeansNothing, NumbersGoOn, NumbersStop, SpelledNext}
use Rattle.pbx_content.proofs.OntoSplits.{not_there, inner_at}
use Rattle.pbx_content.proofs.FaultyNumbers.{numbers_after}
use Rattle.pbx_content.proofs.FaultyRecords.{FailsInside, RecFails, value_fails, fails_value, rec_breaks, breaks_rec}
use Rattle.pbx_content.proofs.FaultyFields.{rec_fails, fail_rec, spelled_both, spelled_one}
use Rattle.pbx_content.proofs.FaultyLaw.{are_above, no_level, one_inner}
use Rattle.pbx_content.proofs.FaultyFirst.{found_number, found_own, some_field}

-- ---- a record alone

inside_none : (shape : Shape) (messages : ℕ) (f : FieldShape) (r : Rec) → messages ≢ 0
    → FailsInside shape (inner_at shape messages) (payload_fields shape f.cardinality f.kind) r → PayloadMeansNothing shape messages f r
inside_none shape zero f r some h = absurd (some refl)
inside_none shape (suc deeper) f r some h = (deeper, h.gs, h.payload, refl, h.of_fields, h.of_record, sym (one_inner shape deeper h.gs h.payload) ∙ h.none)

none_inside : (shape : Shape) (messages : ℕ) (f : FieldShape) (r : Rec) → PayloadMeansNothing shape messages f r
    → FailsInside shape (inner_at shape messages) (payload_fields shape f.cardinality f.kind) r
none_inside shape messages f r (deeper, gs, payload, levels, of, is, none) =
    let inner : inner_at shape messages gs (payload ∷ []) ≡ None = rw levels (one_inner shape deeper gs payload ∙ none) in
    record { gs = gs; payload = payload; of_fields = of; of_record = is; none = inner }

breaks_or_inside : (shape : Shape) (groups messages : ℕ) (fs : List FieldShape) (r : Rec) (f : FieldShape) → IsReadWith shape groups messages fs
    → RecFails shape (inner_at shape messages) f.cardinality f.kind r
    → ((e : DecodeError) × RecBreaks shape groups f r e) ⊎ PayloadMeansNothing shape messages f r
breaks_or_inside shape groups messages fs r f read fails = elim (rec_breaks shape (inner_at shape messages) groups f r fails) [
  | inl b ↦ inl b
  | inr h ↦ by messages refl h
]
  where
    by : (m : ℕ) → messages ≡ m → FailsInside shape (inner_at shape messages) (payload_fields shape f.cardinality f.kind) r
        → ((e : DecodeError) × RecBreaks shape groups f r e) ⊎ PayloadMeansNothing shape messages f r
    by zero z h = inl (errors.TooDeep 0, (refl, read.left.1 z, rw h.of_fields refl, (h.payload, h.of_record, tt)))
    by (suc m) z h = inr (inside_none shape messages f r (λ n. absurd (omega arith)) h)

alone_none : (shape : Shape) (messages : ℕ) (fs : List FieldShape) (r : Rec) (f : FieldShape) → field_of (number_of r) fs ≡ Some f → is_float f.kind ≡ false
    → RecFails shape (inner_at shape messages) f.cardinality f.kind r
    → meaning shape messages fs (r ∷ []) ≡ None
alone_none shape messages fs r f found kept fails =
    not_there (meaning shape messages fs (r ∷ [])) (fail_rec shape messages fs r (record {
      field = f;
      found = found_own (number_of r) fs f found;
      read = kept;
      numbered = found_number (number_of r) fs f found;
      none = fails_value shape (inner_at shape messages) f r kept fails;
    }))

pub rec_means_nothing : RecMeansNothing
rec_means_nothing shape groups messages fs r f read found kept = (
  λ none.
      let fails = rec_fails shape messages fs r (are_above shape read.proper fs read.fields) (ap is_some none) in
      let same = some_field f fails.field (number_of r) fs found fails.found fails.numbered in
      let own = value_fails shape (inner_at shape messages) fails.field r fails.read fails.none in
      breaks_or_inside shape groups messages fs r f read
      (subst (λ (g : FieldShape). RecFails shape (inner_at shape messages) g.cardinality g.kind r) (sym same) own),
  λ why. elim why [
    | inl (e, b) ↦ alone_none shape messages fs r f found kept
        (breaks_rec shape (inner_at shape messages) groups f r e (λ z gs p. no_level shape messages gs (p ∷ []) (read.left.0 z)) b)
    | inr h ↦ alone_none shape messages fs r f found kept (inr (inr (inr (none_inside shape messages f r h))))
  ],
)

-- ---- numbers

pub numbers_go_on : NumbersGoOn
numbers_go_on at before rest after numbers v all read =
    let t = varint_takes at 9 rest v after read in
    (t.text, t.parts, numbers_after before t.text numbers v all (spelled_so t.text v v t.holds refl))

pub numbers_stop : NumbersStop
numbers_stop at before rest numbers e all some read = elim (varint_fails at 9 rest e read) [
  | inl (told, on, short) ↦ inr (told, (before, numbers, rest, all, (some, (on, omega arith)), refl))
  | inr (told, l) ↦ inl (told, (refl, (before, numbers, rest, all, (l.front, l.tenth, l.rest, l.goes_on, l.nine, l.large, l.parts), refl)))
]

-- ---- records

pub spelled_next : SpelledNext
spelled_next levels before first rs r s one = spelled_both levels before first rs (r ∷ []) s (spelled_one levels first r one)
