-- Timestamp texts by their parts.
use Rattle.std.proofs.Common.{◌≡◌, ◌∙◌, ℕ, ◌<◌, List, take, drop, codes, length, Bool, true, false, if◌then◌else◌, ℤ, pos, ◌-ℤ◌, of_z, to_z, to_z-of_z, w64, Option, Some, None, option_map, option_and_then, refl, ap, sym, arith, inl, inr}
use Rattle.std.proofs.lemmas.Bool.{cases_Bool}
use Rattle.std.proofs.lemmas.List.{length-take}
use Rattle.jiff_core.specs.Calendar.{IsWithin}
use Rattle.jiff_core.proofs.SignedLemmas.{fits_between, signed_arith}
use Rattle.pbx_text.specs.Clock.{fits_picture, fraction_of}
use Rattle.pbx_text.specs.Timestamp.{at_zone, is_local, local_seconds, timestamp_of, zone_of}
use Rattle.pbx_text.proofs.Pictures.{local_length}

abbrev pub local_of : List ℕ → Option ℤ
local_of text = if is_local text then Some (local_seconds text) else None

abbrev joined : Option ℤ → Option (ℕ × List ℕ) → Option (ℤ × ℤ)
joined local fraction = option_and_then (λ s. option_and_then (at_zone s) fraction) local

by_test : (b : Bool) (s : ℤ) (fraction : Option (ℕ × List ℕ))
    → (if b then option_and_then (at_zone s) fraction else None) ≡ joined (if b then Some s else None) fraction
by_test true s fraction = refl
by_test false s fraction = refl

whole : (text : List ℕ) → timestamp_of text ≡ joined (local_of (take 19 text)) (fraction_of (drop 19 text))
unfolding timestamp_of
whole text = by_test (is_local (take 19 text)) (local_seconds (take 19 text)) (fraction_of (drop 19 text))

pub short : (text : List ℕ) → length text < 19 → None ≡ timestamp_of text
unfolding timestamp_of
short text h = elim (cases_Bool (fits_picture (codes "0000-00-00T00:00:00") (take 19 text))) [
  | inl fits ↦ absurd (omega (arith, local_length (take 19 text) fits, length-take 19 text))
  | inr other ↦ rw other refl
]

pub no_local : (text front : List ℕ) → front ≡ take 19 text → None ≡ local_of front → None ≡ timestamp_of text
no_local text front is none =
    sym (whole text ∙ ap (λ o. joined o (fraction_of (drop 19 text))) (ap local_of (sym is) ∙ sym none))

pub no_fraction : (text behind : List ℕ) → behind ≡ drop 19 text → fraction_of behind ≡ None → None ≡ timestamp_of text
no_fraction text behind is none =
    sym (whole text ∙ ap (joined (local_of (take 19 text))) (ap fraction_of (sym is) ∙ none) ∙ at (local_of (take 19 text)))
  where
    at : (o : Option ℤ) → joined o None ≡ None
    at None = refl
    at (Some s) = refl

pub instant_is : (text front behind zone : List ℕ) (s : ℤ) (n : ℕ) (offset : Option ℤ) → front ≡ take 19 text → behind ≡ drop 19 text
    → Some s ≡ local_of front → fraction_of behind ≡ Some (n, zone) → offset ≡ zone_of zone
    → option_map (λ o. (s -ℤ o, pos n)) offset ≡ timestamp_of text
instant_is text front behind zone s n offset front_is behind_is local fraction ahead =
    ap (option_map (λ o. (s -ℤ o, pos n))) ahead
    ∙ sym (whole text
    ∙ ap (λ o. joined o (fraction_of (drop 19 text))) (ap local_of (sym front_is) ∙ sym local)
    ∙ ap (joined (Some s)) (ap fraction_of (sym behind_is) ∙ fraction))

-- a local time less an offset has 64 bits
pub difference_fits : (a b : ℤ) → IsWithin 377705203200 a → IsWithin 86399 b → to_z w64 (of_z w64 (a -ℤ b)) ≡ a -ℤ b
difference_fits a b near ahead = to_z-of_z (fits_between w64 (a -ℤ b) (omega (arith, signed_arith), omega (arith, signed_arith)))
