-- Payloads of numbers, read number by number or judged by their length.
use Rattle.std.proofs.Common.{◌≡◌, ℕ, zero, ◌<◌, ◌%◌, Bool, true, false, List, [], ◌∷◌, ◌++◌, length, Option, Some, None, Ok, Err, refl, sym, ap, ◌∙◌, subst, arith, append-nil, append_assoc, length-append, inl, inr}
use Rattle.std.specs.Prelude.{◌⊎◌, ◌≢◌, ◌==◌}
use Rattle.std.specs.Option.{is_some}
use Rattle.std.specs.Str.{is_utf8, IsUtf8}
use Rattle.std.proofs.lemmas.Bool.Decides.{nat_tests}
use Rattle.std.proofs.lemmas.Str.{is_utf8-from_IsUtf8, IsUtf8-from_is_utf8}
use Rattle.pbx_wire.specs.Reading.{varint_at}
use Rattle.pbx_wire.specs.declared.error.DecodeError.{DecodeError}
use Rattle.pbx_wire.specs.declared.error.DecodeError.TheVariants as errors
use Rattle.pbx_wire.proofs.Laws.{varint_takes, chain_has}
use Rattle.pbx_content.specs.declared.shape.Kind.{Kind}
use Rattle.pbx_content.specs.Records.{varints_in}
use Rattle.pbx_content.specs.Shape.{Form, as_varint, as_four, as_eight, form_of}
use Rattle.pbx_content.specs.Meaning.{numbers_in}
use Rattle.pbx_content.specs.Faults.{HasLongNumber, EndsInNumber}
use Rattle.pbx_content.proofs.OntoSplits.{not_there}
use Rattle.pbx_content.proofs.FaultyNumbers.{numbers_fail, long_none, end_none}
use Rattle.pbx_content.proofs.FaultyAlone.{numbers_go_on, numbers_stop}

-- ---- texts

pub text_is : (b : List ℕ) → IsUtf8 b → true ≡ is_utf8 b
text_is b h = sym (is_utf8-from_IsUtf8 b h)

pub no_text : (b : List ℕ) → (IsUtf8 b → ⊥) → false ≡ is_utf8 b
no_text b h = at (is_utf8 b) (IsUtf8-from_is_utf8 b)
  where
    at : (c : Bool) → (c ≡ true → IsUtf8 b) → false ≡ c
    at true k = absurd (h (k refl))
    at false k = refl

-- ---- varints

-- the bytes before the rest are varints
pub record HaveRead (whole rest : List ℕ) : Type 0 where
  pub before : List ℕ
  pub numbers : List ℕ
  pub read : varints_in (length before) before ≡ Some numbers
  pub parts : whole ≡ before ++ rest

pub read_none : (whole : List ℕ) → HaveRead whole whole
unfolding varints_in
read_none whole = record { before = []; numbers = []; read = refl; parts = refl }

pub varint_shorter : (bytes : List ℕ) (v : ℕ) (rest : List ℕ) → varint_at 0 9 bytes ≡ Ok (v, rest) → length rest < length bytes
varint_shorter bytes v rest e =
    let t = varint_takes 0 9 bytes v rest e in
    omega (arith, chain_has t.text t.holds.chain, ap length t.parts, length-append t.text rest)

pub read_more : (whole rest : List ℕ) (v : ℕ) (after : List ℕ) → varint_at 0 9 rest ≡ Ok (v, after) → HaveRead whole rest → HaveRead whole after
read_more whole rest v after e h =
    let t = numbers_go_on 0 h.before rest after h.numbers v h.read e in
    record {
      before = h.before ++ t.0;
      numbers = h.numbers ++ v ∷ [];
      read = t.2;
      parts = h.parts ∙ ap (λ (x : List ℕ). h.before ++ x) t.1 ∙ sym (append_assoc h.before t.0 after);
    }

pub read_all : (whole rest : List ℕ) → rest ≡ [] → HaveRead whole rest → true ≡ is_some (varints_in (length whole) whole)
read_all whole rest none h =
    let all : whole ≡ h.before = h.parts ∙ ap (λ (x : List ℕ). h.before ++ x) none ∙ append-nil h.before in
    rw (all, h.read) refl

pub read_stops : (whole rest : List ℕ) (e : DecodeError) → rest ≢ [] → HaveRead whole rest → varint_at 0 9 rest ≡ Err e
    → false ≡ is_some (varints_in (length whole) whole)
read_stops whole rest e some h fails = by (numbers_stop 0 h.before rest h.numbers e h.read some fails)
  where
    none : varints_in (length (h.before ++ rest)) (h.before ++ rest) ≡ None → false ≡ is_some (varints_in (length whole) whole)
    none n = rw (h.parts, n) refl

    by : (((e ≡ errors.Varint 0) × HasLongNumber as_varint (h.before ++ rest)) ⊎ ((e ≡ errors.Underflow 0) × EndsInNumber as_varint (h.before ++ rest)))
        → false ≡ is_some (varints_in (length whole) whole)
    by (inl p) = none (long_none as_varint (h.before ++ rest) p.1)
    by (inr p) = none (end_none as_varint (h.before ++ rest) p.1)

-- ---- numbers of so many bytes each

pub of_kind : (k : Kind) (form : Form) (bytes : List ℕ) (b : Bool) → form_of k ≡ form → b ≡ is_some (numbers_in form bytes) → b ≡ is_some (numbers_in (form_of k) bytes)
of_kind k form bytes b is told = told ∙ ap (λ (f : Form). is_some (numbers_in f bytes)) (sym is)

pub fours_are : (bytes : List ℕ) → (length bytes % 4 == 0) ≡ is_some (numbers_in as_four bytes)
fours_are bytes = at (length bytes % 4 == 0) refl (is_some (numbers_in as_four bytes)) refl
  where
    at : (b : Bool) → (length bytes % 4 == 0) ≡ b → (c : Bool) → is_some (numbers_in as_four bytes) ≡ c → b ≡ c
    at true d true e = refl
    at false d false e = refl
    at true d false e = elim (numbers_fail as_four bytes refl (not_there (numbers_in as_four bytes) e)) [
      | inl long ↦ absurd (let bad : as_four ≡ as_varint = long.0 in cc)
      | inr left ↦ absurd (left (grind (arith, nat_tests, d)))
    ]
    at false d true e =
        let left : EndsInNumber as_four bytes = λ none. (let bad : (length bytes % 4 == 0) ≡ true = grind (arith, nat_tests, none) in absurd cc) in
        let bad : true ≡ false = sym e ∙ ap is_some (end_none as_four bytes left) in
        absurd cc

pub eights_are : (bytes : List ℕ) → (length bytes % 8 == 0) ≡ is_some (numbers_in as_eight bytes)
eights_are bytes = at (length bytes % 8 == 0) refl (is_some (numbers_in as_eight bytes)) refl
  where
    at : (b : Bool) → (length bytes % 8 == 0) ≡ b → (c : Bool) → is_some (numbers_in as_eight bytes) ≡ c → b ≡ c
    at true d true e = refl
    at false d false e = refl
    at true d false e = elim (numbers_fail as_eight bytes refl (not_there (numbers_in as_eight bytes) e)) [
      | inl long ↦ absurd (let bad : as_eight ≡ as_varint = long.0 in cc)
      | inr left ↦ absurd (left (grind (arith, nat_tests, d)))
    ]
    at false d true e =
        let left : EndsInNumber as_eight bytes = λ none. (let bad : (length bytes % 8 == 0) ≡ true = grind (arith, nat_tests, none) in absurd cc) in
        let bad : true ≡ false = sym e ∙ ap is_some (end_none as_eight bytes left) in
        absurd cc
