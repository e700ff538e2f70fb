-- Decimal texts as integers.
use Rattle.std.proofs.Common.{◌≡◌, ℕ, ℤ, pos, negsuc, ◌<ℤ◌, SFits, w32, List, Bool, true, false, if◌then◌else◌, Option, Some, None, Result, Ok, Err, refl, arith}
use Rattle.std.specs.Prelude.{◌&&◌, int_le}
use Rattle.std.proofs.lemmas.Int.{ints}
use Rattle.serde_json.specs.Data.{Data, null, boolean, number, string, array, object}
use Rattle.pbx_text.specs.Decimal.{and_then, or_form, within, signed_of, signed_read}
use Rattle.pbx_text.specs.declared.fault.TextFault.{TextFault}
use Rattle.pbx_text.specs.declared.fault.TextFault.TheVariants as text
use Rattle.pbx_json_meaning.specs.Scalars.{if_ok, or_fault, in_range, whole, integer_read}
use Rattle.pbx_json_meaning.specs.declared.kind.JsonKind.{JsonKind}
use Rattle.pbx_json_meaning.specs.declared.kind.JsonKind.TheVariants as fault

-- the rule that a text breaks which is no number
abbrev pub told : {X : Type 0} → Result X TextFault → Result X JsonKind
told (Ok z) = Ok z
told (Err text.Form) = Err fault.NotDecimal
told (Err _) = Err fault.Range

pub signed_told : (min max : ℤ) (s : List ℕ) → min <ℤ pos 0 → told (signed_read min max s) ≡ integer_read min max (string s)
signed_told (pos m) max s h = absurd (omega (arith, ints))
signed_told (negsuc m) max s h = at (signed_of s)
  where
    judged : (z : ℤ) (b : Bool) → told (if b then Ok z else Err text.Range) ≡ (if b then Ok z else Err fault.Range)
    judged z true = refl
    judged z false = refl

    at : (o : Option ℤ) → told (and_then (or_form o) (within (negsuc m) max)) ≡ if_ok (or_fault fault.NotDecimal o) (in_range (negsuc m) max)
    at None = refl
    at (Some z) = judged z (int_le (negsuc m) z && int_le z max)

-- ---- integers of 32 bits

within_32_bits : (r : Result ℤ JsonKind) (z : ℤ) → Ok z ≡ if_ok r (in_range (negsuc 2147483647) (pos 2147483647)) → SFits w32 z
within_32_bits (Err k) z h = absurd (cc)
within_32_bits (Ok y) z h = at (int_le (negsuc 2147483647) y) (int_le y (pos 2147483647)) refl refl h
  where
    at : (a b : Bool) → int_le (negsuc 2147483647) y ≡ a → int_le y (pos 2147483647) ≡ b → Ok z ≡ (if a && b then Ok y else Err fault.Range) → SFits w32 z
    at true true p q h = let same : z ≡ y = cc in rw same (grind (arith, ints))
    at true false p q h = absurd (cc)
    at false b p q h = absurd (cc)

-- what is read as an integer of 32 bits has 32 bits
pub in_32_bits : (d : Data) (z : ℤ) → Ok z ≡ integer_read (negsuc 2147483647) (pos 2147483647) d → SFits w32 z
in_32_bits (number n) z h = within_32_bits (whole n) z h
in_32_bits (string s) z h = within_32_bits (or_fault fault.NotDecimal (signed_of s)) z h
in_32_bits null z h = absurd (cc)
in_32_bits (boolean b) z h = absurd (cc)
in_32_bits (array ds) z h = absurd (cc)
in_32_bits (object ms) z h = absurd (cc)
