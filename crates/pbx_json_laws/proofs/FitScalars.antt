-- A value of a kind that is no message, as it is read from a tree, is of the kind.
use Rattle.std.proofs.Common.{◌≡◌, ℕ, ◌^◌, ◌&&◌, ◌<◌, ◌≤ℤ◌, ℤ, pos, negsuc, List, Bool, true, false, if◌then◌else◌, Option, Some, None, refl, sym, subst, arith}
use lib.Signed.{le_z_yes}
use lib.Dec.{T}
use Rattle.std.specs.Prelude.{int_le, Result, Ok, Err, codes}
use Rattle.std.specs.Int.{w32, w64}
use Rattle.std.specs.Int.RustNames.{FitsSigned}
use Rattle.std.specs.Str.{is_utf8, bytes_eq}
use Rattle.std.proofs.lemmas.Bool.Decides.{nat_tests}
use Rattle.base64.specs.GeneralPurpose.{IsBytes}
use Rattle.serde_json.specs.Data.{Data, null, boolean, number, string, array, object}
use Rattle.pbx_content.specs.Content as content
use Rattle.pbx_content.specs.Content.{Val, Key}
use Rattle.pbx_content.specs.Shape.{enum_values_of}
use Rattle.pbx_content.specs.Sound.{IsNumber}
use Rattle.pbx_content.specs.declared.shape.Kind.{Kind}
use Rattle.pbx_content.specs.declared.shape.Kind.TheVariants as kind
use Rattle.pbx_content.specs.declared.shape.EnumValueShape.{EnumValueShape}
use Rattle.pbx_content.specs.declared.shape.Shape.{Shape}
use Rattle.pbx_text.specs.Base64.{base64_of}
use Rattle.pbx_json_meaning.specs.Named.{IsWellNamed, has_enum_number}
use Rattle.pbx_json_meaning.specs.Scalars.{Family, integers, truths, texts, bytes_texts, floats, messages, enums, family, or_fault, if_ok, in_range, whole}
use Rattle.pbx_json_meaning.specs.Scalars.{integer_read, decimal_of, truth_read, is_null_value, value_named, unknown_name, number_named}
use Rattle.pbx_json_meaning.specs.Scalars.{as_number, enum_read, null_value_read, scalar_of}
use Rattle.pbx_json_meaning.specs.Trees.{HasTexts}
use Rattle.pbx_json_meaning.specs.declared.kind.JsonKind.{JsonKind}
use Rattle.pbx_json_meaning.specs.declared.kind.JsonKind.TheVariants as fault
use Rattle.pbx_json_laws.proofs.FitBytes.{base64_bytes}
use Rattle.pbx_json_laws.proofs.Parts.{both, from_if_ok, found_with}

-- ---- numbers in range

-- z lies from min to max
abbrev pub lies : ℤ → ℤ → ℤ → Bool
lies min max z = int_le min z && int_le z max

in_order : (a b : ℤ) → int_le a b ≡ true → a ≤ℤ b
in_order a b h = le_z_yes (subst T (sym h) tt)

pub fits_32 : (z : ℤ) → lies (negsuc 2147483647) (pos 2147483647) z ≡ true → FitsSigned w32 z
fits_32 (pos n) h =
    let low : pos n ≤ℤ pos 2147483647 = in_order (pos n) (pos 2147483647) (both (int_le (negsuc 2147483647) (pos n)) _ h).1 in
    let small : n < 2 ^ 31 = grind (arith, nat_tests) in record { sfits = small }
fits_32 (negsuc n) h =
    let high : negsuc 2147483647 ≤ℤ negsuc n = in_order (negsuc 2147483647) (negsuc n) (both (int_le (negsuc 2147483647) (negsuc n)) _ h).0 in
    let small : n < 2 ^ 31 = grind (arith, nat_tests) in record { sfits = small }

fits_64 : (z : ℤ) → lies (negsuc 9223372036854775807) (pos 9223372036854775807) z ≡ true → FitsSigned w64 z
fits_64 (pos n) h =
    let low : pos n ≤ℤ pos 9223372036854775807 = in_order (pos n) (pos 9223372036854775807) (both (int_le (negsuc 9223372036854775807) (pos n)) _ h).1 in
    let small : n < 2 ^ 63 = grind (arith, nat_tests) in record { sfits = small }
fits_64 (negsuc n) h =
    let high : negsuc 9223372036854775807 ≤ℤ negsuc n =
    in_order (negsuc 9223372036854775807) (negsuc n) (both (int_le (negsuc 9223372036854775807) (negsuc n)) _ h).0 in
    let small : n < 2 ^ 63 = grind (arith, nat_tests) in record { sfits = small }

abbrev IsBelow : ℕ → ℤ → Type 0
IsBelow m (pos n) = n < m
IsBelow m (negsuc n) = ⊥

below_32 : (z : ℤ) → lies (pos 0) (pos 4294967295) z ≡ true → IsBelow (2 ^ 32) z
below_32 (pos n) h =
    let low : pos n ≤ℤ pos 4294967295 = in_order (pos n) (pos 4294967295) (both (int_le (pos 0) (pos n)) _ h).1 in
    grind (arith, nat_tests)
below_32 (negsuc n) h = absurd (cc)

below_64 : (z : ℤ) → lies (pos 0) (pos 18446744073709551615) z ≡ true → IsBelow (2 ^ 64) z
below_64 (pos n) h =
    let low : pos n ≤ℤ pos 18446744073709551615 = in_order (pos n) (pos 18446744073709551615) (both (int_le (pos 0) (pos n)) _ h).1 in
    grind (arith, nat_tests)
below_64 (negsuc n) h = absurd (cc)

-- what a number of the family is
abbrev pub IsOf : Family → ℤ → Type 0
IsOf (integers min max) z = lies min max z ≡ true
IsOf (enums e) z = FitsSigned w32 z
IsOf _ z = ⊥

of_below : (k : Kind) (m : ℕ) → ((n : ℕ) → n < m → IsNumber k (pos n)) → (z : ℤ) → IsBelow m z → IsNumber k z
of_below k m f (pos n) h = f n h
of_below k m f (negsuc n) h = absurd h

pub number_of_kind : (k : Kind) (z : ℤ) → IsOf (family k) z → IsNumber k z
number_of_kind kind.Int32 z h = fits_32 z h
number_of_kind kind.Sint32 z h = fits_32 z h
number_of_kind kind.Sfixed32 z h = fits_32 z h
number_of_kind kind.Int64 z h = fits_64 z h
number_of_kind kind.Sint64 z h = fits_64 z h
number_of_kind kind.Sfixed64 z h = fits_64 z h
number_of_kind kind.Uint32 z h = of_below kind.Uint32 (2 ^ 32) (λ n lt. lt) z (below_32 z h)
number_of_kind kind.Fixed32 z h = of_below kind.Fixed32 (2 ^ 32) (λ n lt. lt) z (below_32 z h)
number_of_kind kind.Uint64 z h = of_below kind.Uint64 (2 ^ 64) (λ n lt. lt) z (below_64 z h)
number_of_kind kind.Fixed64 z h = of_below kind.Fixed64 (2 ^ 64) (λ n lt. lt) z (below_64 z h)
number_of_kind (kind.Enum e) z h = h
number_of_kind kind.Double z h = absurd h
number_of_kind kind.Float z h = absurd h
number_of_kind kind.Bool z h = absurd h
number_of_kind kind.String z h = absurd h
number_of_kind kind.Bytes z h = absurd h
number_of_kind (kind.Message t) z h = absurd h

-- ---- scalars

ranged : (min max z y : ℤ) → in_range min max z ≡ Ok y → (z ≡ y) × (lies min max y ≡ true)
ranged min max z y h = at (lies min max z) refl h
  where
    at : (b : Bool) → lies min max z ≡ b → (if b then Ok z else Err fault.Range) ≡ Ok y → (z ≡ y) × (lies min max y ≡ true)
    at true e k = let same : z ≡ y = cc in (same, rw (← same) e)
    at false e k = absurd (cc)

pub integer_lies : (min max : ℤ) (d : Data) (z : ℤ) → integer_read min max d ≡ Ok z → lies min max z ≡ true
integer_lies min max (number n) z h = let it = from_if_ok (whole n) (in_range min max) z h in (ranged min max it.0 z it.2).1
integer_lies min max (string s) z h =
    let it = from_if_ok (or_fault fault.NotDecimal (decimal_of min s)) (in_range min max) z h in
    (ranged min max it.0 z it.2).1
integer_lies min max null z h = absurd (cc)
integer_lies min max (boolean b) z h = absurd (cc)
integer_lies min max (array ds) z h = absurd (cc)
integer_lies min max (object ms) z h = absurd (cc)

-- what a tree that has texts is as a value of a family
abbrev pub IsOfFamily : Shape → Family → Val → Type 0
IsOfFamily shape (integers min max) (content.number z) = lies min max z ≡ true
IsOfFamily shape (enums e) (content.number z) = FitsSigned w32 z × (is_null_value shape e ≡ true → z ≡ pos 0)
IsOfFamily shape truths (content.truth b) = Unit {0}
IsOfFamily shape texts (content.text s) = is_utf8 s ≡ true
IsOfFamily shape bytes_texts (content.octets b) = IsBytes b
IsOfFamily shape _ _ = ⊥

number_is : (r : Result ℤ JsonKind) (v : Val) → as_number r ≡ Ok (Some v) → (z : ℤ) × (r ≡ Ok z) × (content.number z ≡ v)
number_is r v h =
    let it = from_if_ok r (λ z. Ok (Some (content.number z))) (Some v) h in
    (it.0, it.1, (let e : Ok (Some (content.number it.0)) ≡ Ok (Some v) = it.2 in cc))

module _ (shape : Shape) (well : IsWellNamed shape) (allow : Bool) where
  integers_fit : (min max : ℤ) (d : Data) (v : Val) → scalar_of shape allow (integers min max) d ≡ Ok (Some v) → IsOfFamily shape (integers min max) v
  integers_fit min max d v h = let it = number_is (integer_read min max d) v h in rw (← it.2) (integer_lies min max d it.0 it.1)

  truth_fits : (d : Data) (v : Val) → scalar_of shape allow truths d ≡ Ok (Some v) → IsOfFamily shape truths v
  truth_fits d v h =
      let it = from_if_ok (truth_read d) (λ b. Ok (Some (content.truth b))) (Some v) h in
      let same : content.truth it.0 ≡ v = (let e : Ok (Some (content.truth it.0)) ≡ Ok (Some v) = it.2 in cc) in
      rw (← same) tt

  text_fits : (d : Data) (v : Val) → HasTexts d → scalar_of shape allow texts d ≡ Ok (Some v) → IsOfFamily shape texts v
  text_fits (string s) v t h = let same : content.text s ≡ v = cc in rw (← same) t
  text_fits null v t h = absurd (cc)
  text_fits (boolean b) v t h = absurd (cc)
  text_fits (number n) v t h = absurd (cc)
  text_fits (array ds) v t h = absurd (cc)
  text_fits (object ms) v t h = absurd (cc)

  bytes_fit : (d : Data) (v : Val) → scalar_of shape allow bytes_texts d ≡ Ok (Some v) → IsOfFamily shape bytes_texts v
  bytes_fit (string s) v h =
      let it = from_if_ok (or_fault fault.Base64 (base64_of s)) (λ s. Ok (Some (content.octets s))) (Some v) h in
      let same : content.octets it.0 ≡ v = (let e : Ok (Some (content.octets it.0)) ≡ Ok (Some v) = it.2 in cc) in
      rw (← same) (base64_bytes s it.0 (from_or (base64_of s) it.0 it.1))
    where
      from_or : (o : Option (List ℕ)) (x : List ℕ) → or_fault fault.Base64 o ≡ Ok x → o ≡ Some x
      from_or None x e = absurd (cc)
      from_or (Some y) x e = cc
  bytes_fit null v h = absurd (cc)
  bytes_fit (boolean b) v h = absurd (cc)
  bytes_fit (number n) v h = absurd (cc)
  bytes_fit (array ds) v h = absurd (cc)
  bytes_fit (object ms) v h = absurd (cc)

  never_dropped : (v : Val) → unknown_name allow ≡ Ok (Some v) → ⊥
  never_dropped v h = at allow h
    where
      at : (b : Bool) → unknown_name b ≡ Ok (Some v) → ⊥
      at true k = cc
      at false k = cc

  named_fits : (e : ℕ) (s : List ℕ) (v : Val) → number_named allow (value_named s (enum_values_of shape e)) ≡ Ok (Some v)
      → (z : ℤ) × (content.number z ≡ v) × FitsSigned w32 z
  named_fits e s v h = at (value_named s (enum_values_of shape e)) refl h
    where
      at : (o : Option EnumValueShape) → value_named s (enum_values_of shape e) ≡ o → number_named allow o ≡ Ok (Some v)
          → (z : ℤ) × (content.number z ≡ v) × FitsSigned w32 z
      at None p k = absurd (never_dropped v k)
      at (Some x) p k =
          let same : content.number x.number ≡ v = cc in (
            x.number,
            same,
            fits_32 x.number (found_with (λ (w : EnumValueShape). bytes_eq w.name s) (λ (w : EnumValueShape). has_enum_number w.number)
                (enum_values_of shape e) x (well.numbers e) p),
          )

  enum_fits : (e : ℕ) (d : Data) (v : Val) → enum_read allow (enum_values_of shape e) d ≡ Ok (Some v) → (z : ℤ) × (content.number z ≡ v) × FitsSigned w32 z
  enum_fits e (string s) v h = named_fits e s v h
  enum_fits e (number n) v h =
      let it = number_is (if_ok (whole n) (in_range (negsuc 2147483647) (pos 2147483647))) v h in
      let r = from_if_ok (whole n) (in_range (negsuc 2147483647) (pos 2147483647)) it.0 it.1 in
      (it.0, it.2, fits_32 it.0 (ranged (negsuc 2147483647) (pos 2147483647) r.0 it.0 r.2).1)
  enum_fits e null v h = absurd (cc)
  enum_fits e (boolean b) v h = absurd (cc)
  enum_fits e (array ds) v h = absurd (cc)
  enum_fits e (object ms) v h = absurd (cc)

  null_is : (d : Data) (v : Val) → null_value_read allow d ≡ Ok (Some v) → content.number (pos 0) ≡ v
  null_is null v h = cc
  null_is (string s) v h = at (bytes_eq s (codes "NULL_VALUE")) h
    where
      at : (b : Bool) → (if b then Ok (Some (content.number (pos 0))) else unknown_name allow) ≡ Ok (Some v) → content.number (pos 0) ≡ v
      at true k = cc
      at false k = absurd (never_dropped v k)
  null_is (boolean b) v h = absurd (cc)
  null_is (number n) v h = absurd (cc)
  null_is (array ds) v h = absurd (cc)
  null_is (object ms) v h = absurd (cc)

  enums_fit : (e : ℕ) (d : Data) (v : Val) → scalar_of shape allow (enums e) d ≡ Ok (Some v) → IsOfFamily shape (enums e) v
  enums_fit e d v h = at (is_null_value shape e) refl h
    where
      at : (b : Bool) → is_null_value shape e ≡ b → (if b then null_value_read allow d else enum_read allow (enum_values_of shape e) d) ≡ Ok (Some v)
          → IsOfFamily shape (enums e) v
      at true p k = rw (← null_is d v k) (record { sfits = grind (arith, nat_tests) }, λ q. refl)
      at false p k = let it = enum_fits e d v k in rw (← it.1) (it.2, λ q. absurd (cc))

  pub family_fits : (f : Family) (d : Data) (v : Val) → HasTexts d → scalar_of shape allow f d ≡ Ok (Some v) → IsOfFamily shape f v
  family_fits (integers min max) d v t h = integers_fit min max d v h
  family_fits truths d v t h = truth_fits d v h
  family_fits texts d v t h = text_fits d v t h
  family_fits bytes_texts d v t h = bytes_fit d v h
  family_fits (enums e) d v t h = enums_fit e d v h
  family_fits floats d v t h = absurd (cc)
  family_fits (messages t) d v x h = absurd (cc)
