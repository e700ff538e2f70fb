-- What a number is written as is read as the number, by the form of its kind.
use Rattle.std.proofs.Common.{◌≡◌, ℕ, zero, suc, ◌%◌, ◌^◌, ◌<◌, ◌≤◌, ℤ, pos, negsuc, Bool, true, false, not, nat_lt, List, [], ◌∷◌, ◌++◌, length, Some, None}
use Rattle.std.proofs.Common.{option_map, refl, ap, ◌∙◌, arith, length-append}
use Rattle.std.specs.Int.{Width, w32, w64, cast_signed, cast_unsigned, to_le_bytes}
use Rattle.pbx_wire.specs.Fixed.{fixed}
use Rattle.std.specs.Int.RustNames.{FitsSigned}
use Rattle.std.proofs.lemmas.Bool.{le-ltb}
use Rattle.std.proofs.lemmas.Bool.Decides.{nat_tests}
use Rattle.std.proofs.lemmas.Int.{to_z-of_z}
use Rattle.std.proofs.lemmas.List.{take_at, drop_at}
use Rattle.pbx_wire.proofs.Fixed.{fixed_back_4, fixed_back_8}
use Rattle.pbx_wire.specs.Varint.{varint}
use Rattle.pbx_wire.specs.Spelling.{IsVarint}
use Rattle.pbx_wire.proofs.Again.{varint_again}
use Rattle.pbx_wire.proofs.Written.{varint_spelled}
use Rattle.pbx_content.specs.declared.shape.Kind.{Kind}
use Rattle.pbx_content.specs.declared.shape.Kind.TheVariants as kind
use Rattle.pbx_content.specs.Content.{Val, number, truth}
use Rattle.pbx_content.specs.Records.{bytes_of, varints_in, fixed_in}
use Rattle.pbx_content.specs.Shape.{Form, as_varint, as_four, as_eight, as_payload, form_of, is_payload, is_float}
use Rattle.pbx_content.specs.Meaning.{numeric, unzigzag, number_in, numbers_in}
use Rattle.pbx_content.specs.Encoding.{zigzag, wire_number, numeral, number_text, number_rec}
use Rattle.pbx_content.specs.Sound.{IsNumber}

-- ---- one number

-- the number has as many bits as the form writes
abbrev pub FitsForm : Form → ℕ → Type 0
FitsForm as_varint v = v < 2 ^ 64
FitsForm as_four v = v < 2 ^ 32
FitsForm as_eight v = v < 2 ^ 64
FitsForm as_payload v = ⊥

low_bits : (z : ℤ) → FitsSigned w32 z → cast_unsigned w64 z % 2 ^ 32 ≡ cast_unsigned w32 z
low_bits (pos n) h = omega (arith, h.sfits)
low_bits (negsuc n) h = omega (arith, h.sfits)

low_back : (z : ℤ) → FitsSigned w32 z → cast_signed w32 (cast_unsigned w64 z % 2 ^ 32) ≡ z
low_back z h = ap (cast_signed w32) (low_bits z h) ∙ to_z-of_z w32 z h

zigzag_low_back : (z : ℤ) → FitsSigned w32 z → unzigzag (zigzag z % 2 ^ 64 % 2 ^ 32) ≡ z
zigzag_low_back (pos n) h = grind (arith, nat_tests, h.sfits)
zigzag_low_back (negsuc n) h = grind (arith, nat_tests, h.sfits)

zigzag_back : (z : ℤ) → FitsSigned w64 z → unzigzag (zigzag z % 2 ^ 64) ≡ z
zigzag_back (pos n) h = grind (arith, nat_tests, h.sfits)
zigzag_back (negsuc n) h = grind (arith, nat_tests, h.sfits)

number_back : (k : Kind) (z : ℤ) → IsNumber k z → numeric k (wire_number k z) ≡ number z
number_back kind.Double z h = absurd h
number_back kind.Float z h = absurd h
number_back kind.Int32 z h = ap number (low_back z h)
number_back kind.Int64 z h = ap number (to_z-of_z w64 z h)
number_back kind.Uint32 (pos n) h = let low : n % 2 ^ 32 ≡ n = omega (arith, h) in ap (λ v. number (pos v)) low
number_back kind.Uint32 (negsuc n) h = absurd h
number_back kind.Uint64 (pos n) h = refl
number_back kind.Uint64 (negsuc n) h = absurd h
number_back kind.Sint32 z h = ap number (zigzag_low_back z h)
number_back kind.Sint64 z h = ap number (zigzag_back z h)
number_back kind.Fixed32 (pos n) h = let low : n % 2 ^ 32 ≡ n = omega (arith, h) in ap (λ v. number (pos v)) low
number_back kind.Fixed32 (negsuc n) h = absurd h
number_back kind.Fixed64 (pos n) h = refl
number_back kind.Fixed64 (negsuc n) h = absurd h
number_back kind.Sfixed32 z h = ap number (low_back z h)
number_back kind.Sfixed64 z h = ap number (to_z-of_z w64 z h)
number_back kind.Bool z h = absurd h
number_back kind.String z h = absurd h
number_back kind.Bytes z h = absurd h
number_back (kind.Message t) z h = absurd h
number_back (kind.Enum e) z h = ap number (low_back z h)

unsigned_fits : (z : ℤ) → FitsSigned w64 z → cast_unsigned w64 z < 2 ^ 64
unsigned_fits (pos n) h = omega (arith, h.sfits)
unsigned_fits (negsuc n) h = omega (arith, h.sfits)

unsigned_fits_32 : (z : ℤ) → FitsSigned w32 z → (cast_unsigned w32 z < 2 ^ 32) × (cast_unsigned w64 z < 2 ^ 64)
unsigned_fits_32 (pos n) h = (omega (arith, h.sfits), omega (arith, h.sfits))
unsigned_fits_32 (negsuc n) h = (omega (arith, h.sfits), omega (arith, h.sfits))

number_fits : (k : Kind) (z : ℤ) → IsNumber k z → FitsForm (form_of k) (wire_number k z)
number_fits kind.Double z h = absurd h
number_fits kind.Float z h = absurd h
number_fits kind.Int32 z h = (unsigned_fits_32 z h).1
number_fits kind.Int64 z h = unsigned_fits z h
number_fits kind.Uint32 (pos n) h = omega (arith, h)
number_fits kind.Uint32 (negsuc n) h = absurd h
number_fits kind.Uint64 (pos n) h = h
number_fits kind.Uint64 (negsuc n) h = absurd h
number_fits kind.Sint32 z h = omega arith
number_fits kind.Sint64 z h = omega arith
number_fits kind.Fixed32 (pos n) h = omega arith
number_fits kind.Fixed32 (negsuc n) h = absurd h
number_fits kind.Fixed64 (pos n) h = h
number_fits kind.Fixed64 (negsuc n) h = absurd h
number_fits kind.Sfixed32 z h = omega arith
number_fits kind.Sfixed64 z h = unsigned_fits z h
number_fits kind.Bool z h = absurd h
number_fits kind.String z h = absurd h
number_fits kind.Bytes z h = absurd h
number_fits (kind.Message t) z h = absurd h
number_fits (kind.Enum e) z h = (unsigned_fits_32 z h).1

number_read : (k : Kind) (z : ℤ) → IsNumber k z → is_float k ≡ false
number_read kind.Double z h = absurd h
number_read kind.Float z h = absurd h
number_read kind.Int32 z h = refl
number_read kind.Int64 z h = refl
number_read kind.Uint32 z h = refl
number_read kind.Uint64 z h = refl
number_read kind.Sint32 z h = refl
number_read kind.Sint64 z h = refl
number_read kind.Fixed32 z h = refl
number_read kind.Fixed64 z h = refl
number_read kind.Sfixed32 z h = refl
number_read kind.Sfixed64 z h = refl
number_read kind.Bool z h = refl
number_read kind.String z h = refl
number_read kind.Bytes z h = refl
number_read (kind.Message t) z h = refl
number_read (kind.Enum e) z h = refl

-- ---- numbers and truth values of a kind

-- the value is written as a number of the kind's form, which is read as the value
pub record IsNumeral (k : Kind) (v : Val) : Type 0 where
  pub read : is_float k ≡ false
  pub fits : FitsForm (form_of k) (numeral k v)
  pub back : numeric k (numeral k v) ≡ v

pub number_numeral : (k : Kind) (z : ℤ) → IsNumber k z → IsNumeral k (number z)
number_numeral k z h = record { read = number_read k z h; fits = number_fits k z h; back = number_back k z h }

pub truth_numeral : (b : Bool) → IsNumeral kind.Bool (truth b)
truth_numeral true = record { read = refl; fits = omega arith; back = refl }
truth_numeral false = record { read = refl; fits = omega arith; back = refl }

-- ---- one record

pub number_of_rec : (form : Form) (n v : ℕ) → FitsForm form v → number_in form (number_rec n form v) ≡ Some v
number_of_rec as_varint n v h = refl
number_of_rec as_four n v h = refl
number_of_rec as_eight n v h = refl
number_of_rec as_payload n v h = absurd h

pub no_payload : (form : Form) (n v : ℕ) → FitsForm form v → bytes_of (number_rec n form v) ≡ None
no_payload as_varint n v h = refl
no_payload as_four n v h = refl
no_payload as_eight n v h = refl
no_payload as_payload n v h = absurd h

pub form_packable : (form : Form) (v : ℕ) → FitsForm form v → not (is_payload form) ≡ true
form_packable as_varint v h = refl
form_packable as_four v h = refl
form_packable as_eight v h = refl
form_packable as_payload v h = absurd h

-- ---- numbers one after another

-- the numbers in the form, one after another
abbrev pub numbers_text : Form → List ℕ → List ℕ
numbers_text form [] = []
numbers_text form (v ∷ vs) = number_text form v ++ numbers_text form vs

-- each fits the form
abbrev pub AllFit : Form → List ℕ → Type 0
AllFit form [] = Unit {0}
AllFit form (v ∷ vs) = FitsForm form v × AllFit form vs

varint_has : (t : List ℕ) (v : ℕ) → IsVarint t v → 0 < length t
varint_has [] v h = absurd h.chain
varint_has (b ∷ t) v h = omega arith

varints_step : (turns v : ℕ) (t rest : List ℕ) → IsVarint t v → varints_in (suc turns) (t ++ rest) ≡ option_map (λ vs. v ∷ vs) (varints_in turns rest)
unfolding varints_in
varints_step turns v [] rest h = absurd h.chain
varints_step turns v (b ∷ t) rest h = rw (varint_again 0 (b ∷ t) rest v h) refl

no_varints : (turns : ℕ) → varints_in turns [] ≡ Some []
unfolding varints_in
no_varints turns = refl

varints_back : (vs : List ℕ) (turns : ℕ) → AllFit as_varint vs → length (numbers_text as_varint vs) ≤ turns
    → varints_in turns (numbers_text as_varint vs) ≡ Some vs
varints_back [] turns h le = no_varints turns
varints_back (v ∷ vs) zero h le =
    absurd (omega (arith, varint_has (varint v) v (varint_spelled v h.0), length-append (varint v) (numbers_text as_varint vs)))
varints_back (v ∷ vs) (suc turns) h le =
    let is = varint_spelled v h.0 in
    let rest = varints_back vs turns h.1 (omega (arith, varint_has (varint v) v is, length-append (varint v) (numbers_text as_varint vs))) in
    rw (varints_step turns v (varint v) (numbers_text as_varint vs) is, rest) refl

fixed_step : (w : Width) (len turns v : ℕ) (t rest : List ℕ) → 0 < len → length t ≡ len → fixed w t ≡ v
    → fixed_in w len (suc turns) (t ++ rest) ≡ option_map (λ vs. v ∷ vs) (fixed_in w len turns rest)
unfolding fixed_in
fixed_step w len turns v [] rest lt e is = absurd (omega arith)
fixed_step w len turns v (b ∷ t) rest lt e is =
    let long : nat_lt (length (b ∷ (t ++ rest))) len ≡ false = le-ltb _ _ (omega (arith, length-append t rest)) in
    rw (long, take_at (b ∷ t) rest len e, drop_at (b ∷ t) rest len e, is) refl

no_fixed : (w : Width) (len turns : ℕ) → fixed_in w len turns [] ≡ Some []
unfolding fixed_in
no_fixed w len turns = refl

fours_back : (vs : List ℕ) (turns : ℕ) → AllFit as_four vs → length (numbers_text as_four vs) ≤ turns → fixed_in w32 4 turns (numbers_text as_four vs) ≡ Some vs
fours_back [] turns h le = no_fixed w32 4 turns
fours_back (v ∷ vs) zero h le = absurd (omega (arith, length-append (to_le_bytes w32 v) (numbers_text as_four vs)))
fours_back (v ∷ vs) (suc turns) h le =
    let rest = fours_back vs turns h.1 (omega (arith, length-append (to_le_bytes w32 v) (numbers_text as_four vs))) in
    rw (fixed_step w32 4 turns v (to_le_bytes w32 v) (numbers_text as_four vs) (omega arith) refl (fixed_back_4 v h.0), rest) refl

eights_back : (vs : List ℕ) (turns : ℕ) → AllFit as_eight vs → length (numbers_text as_eight vs) ≤ turns
    → fixed_in w64 8 turns (numbers_text as_eight vs) ≡ Some vs
eights_back [] turns h le = no_fixed w64 8 turns
eights_back (v ∷ vs) zero h le = absurd (omega (arith, length-append (to_le_bytes w64 v) (numbers_text as_eight vs)))
eights_back (v ∷ vs) (suc turns) h le =
    let rest = eights_back vs turns h.1 (omega (arith, length-append (to_le_bytes w64 v) (numbers_text as_eight vs))) in
    rw (fixed_step w64 8 turns v (to_le_bytes w64 v) (numbers_text as_eight vs) (omega arith) refl (fixed_back_8 v h.0), rest) refl

pub numbers_back : (form : Form) (vs : List ℕ) → (is_payload form ≡ false) → AllFit form vs → numbers_in form (numbers_text form vs) ≡ Some vs
numbers_back as_varint vs e h = varints_back vs (length (numbers_text as_varint vs)) h (omega arith)
numbers_back as_four vs e h = fours_back vs (length (numbers_text as_four vs)) h (omega arith)
numbers_back as_eight vs e h = eights_back vs (length (numbers_text as_eight vs)) h (omega arith)
numbers_back as_payload vs e h = absurd cc
