-- Each value of a kind that is no message has a tree, which reads back as the value.
use Rattle.std.proofs.Common.{◌≡◌, ℕ, ◌^◌, ◌<◌, ◌&&◌, ℤ, pos, negsuc, unsigned_abs, List, Bool, true, false, if◌then◌else◌, Option, Some, None, option_map, refl, ap, sym, ◌∙◌, subst, arith}
use Rattle.std.specs.Prelude.{int_le, Ok}
use Rattle.std.specs.Fmt.{signed_decimal}
use Rattle.std.specs.Int.{w32, w64}
use Rattle.std.specs.Int.RustNames.{FitsSigned}
use Rattle.std.specs.Ordering.{int_eq}
use Rattle.std.proofs.lemmas.Bool.Decides.{nat_tests, Decides-int_eq}
use Rattle.base64.specs.GeneralPurpose.{IsBytes}
use Rattle.serde_json.specs.Data.{Data, null, boolean, number, string, array, object}
use Rattle.serde_json.specs.Find.{of_integer}
use Rattle.pbx_content.specs.Content as content
use Rattle.pbx_content.specs.Content.{Val, Key, number_key, truth_key, text_key}
use Rattle.pbx_content.specs.Shape.{enum_values_of}
use Rattle.pbx_content.specs.Sound.{IsNumber, IsKeyOf}
use Rattle.pbx_content.specs.declared.shape.Kind.{Kind}
use Rattle.pbx_content.specs.declared.shape.Kind.TheVariants as kind
use Rattle.pbx_content.specs.declared.shape.EnumValueShape.{EnumValueShape}
use Rattle.pbx_content.specs.declared.shape.Shape.{Shape}
use Rattle.pbx_text.specs.Base64.{base64_text}
use Rattle.pbx_text.proofs.Decimals.{signed_reads, unsigned_reads}
use Rattle.pbx_text.proofs.Writing.{bytes_read}
use Rattle.pbx_json_meaning.specs.Asked.{reads_null}
use Rattle.pbx_json_meaning.specs.Named.{IsWellNamed}
use Rattle.pbx_json_meaning.specs.Scalars.{integers, enums, family, in_range, decimal_of, integer_read, is_null_value, number_named}
use Rattle.pbx_json_meaning.specs.Scalars.{enum_read, scalar_of, key_of, key_read, if_ok}
use Rattle.pbx_json_meaning.specs.Canonical.{Writing, is_wide, integer, integer_tree, value_of_number, name_or_number, number_by, truth_by, text_by, bytes_by, key_text}
use Rattle.pbx_json_laws.proofs.Fits.{IsNull}
use Rattle.pbx_json_laws.proofs.FitScalars.{lies}
use Rattle.pbx_json_laws.proofs.Parts.{both, found_passes}

-- ---- integers

-- as the least number of a kind and the greatest are
pub record Ranged (min max z : ℤ) : Type 0 where
  pub inside : lies min max z ≡ true
  pub small : unsigned_abs z < 2 ^ 64

ranged_32 : (z : ℤ) → FitsSigned w32 z → Ranged (negsuc 2147483647) (pos 2147483647) z
ranged_32 (pos n) h = let low : n < 2 ^ 31 = h.sfits in record { inside = grind (arith, nat_tests); small = omega arith }
ranged_32 (negsuc n) h = let low : n < 2 ^ 31 = h.sfits in record { inside = grind (arith, nat_tests); small = omega arith }

ranged_64 : (z : ℤ) → FitsSigned w64 z → Ranged (negsuc 9223372036854775807) (pos 9223372036854775807) z
ranged_64 (pos n) h = let low : n < 2 ^ 63 = h.sfits in record { inside = grind (arith, nat_tests); small = omega arith }
ranged_64 (negsuc n) h = let low : n < 2 ^ 63 = h.sfits in record { inside = grind (arith, nat_tests); small = omega arith }

ranged_below_32 : (n : ℕ) → n < 2 ^ 32 → Ranged (pos 0) (pos 4294967295) (pos n)
ranged_below_32 n h = record { inside = grind (arith, nat_tests); small = omega arith }

ranged_below_64 : (n : ℕ) → n < 2 ^ 64 → Ranged (pos 0) (pos 18446744073709551615) (pos n)
ranged_below_64 n h = record { inside = grind (arith, nat_tests); small = h }

range_back : (min max z : ℤ) → lies min max z ≡ true → in_range min max z ≡ Ok z
range_back min max z h = rw h refl

whole_back : (min max z : ℤ) → lies min max z ≡ true → integer_read min max (number (of_integer z)) ≡ Ok z
whole_back min max (pos n) h = range_back min max (pos n) h
whole_back min max (negsuc n) h = range_back min max (negsuc n) h

decimal_back : (min z : ℤ) → unsigned_abs z < 2 ^ 64 → int_le min z ≡ true → decimal_of min (signed_decimal z) ≡ Some z
decimal_back (negsuc m) z small low = signed_reads z small
decimal_back (pos m) (pos n) small low = ap (option_map pos) (unsigned_reads n small)
decimal_back (pos m) (negsuc n) small low = absurd (cc)

pub text_back : (min max z : ℤ) → Ranged min max z → integer_read min max (string (signed_decimal z)) ≡ Ok z
text_back min max z r =
    let low : int_le min z ≡ true = (both (int_le min z) (int_le z max) r.inside).0 in
    rw (decimal_back min z r.small low) (range_back min max z r.inside)

-- a tree that reads back as a value of the kind, and is null only where null is a value
pub record ScalarBack (shape : Shape) (k : Kind) (v : Val) (tree : Option Data) (d : Data) : Type 0 where
  pub made : tree ≡ Some d
  pub back : scalar_of shape false (family k) d ≡ Ok (Some v)
  pub null_ok : (d ≡ null) → reads_null shape k ≡ true

abbrev IsNullTree : Data → Type 0
IsNullTree null = Unit {0}
IsNullTree (boolean b) = ⊥
IsNullTree (number n) = ⊥
IsNullTree (string s) = ⊥
IsNullTree (array ds) = ⊥
IsNullTree (object ms) = ⊥

pub no_null : {P : Type 0} (d : Data) → (IsNullTree d → P) → d ≡ null → P
no_null d f e = f (subst IsNullTree (sym e) tt)

module _ (shape : Shape) (well : IsWellNamed shape) (o : Writing) where
  integer_back : (min max z : ℤ) (k : Kind) → Ranged min max z
      → (d : Data) × (integer_tree o k z ≡ d) × (integer_read min max d ≡ Ok z) × (d ≡ null → ⊥)
  integer_back min max z k r = at (is_wide k && o.options.stringify_64_bit_integers) refl
    where
      at : (b : Bool) → (is_wide k && o.options.stringify_64_bit_integers) ≡ b
          → (d : Data) × ((if b then string (signed_decimal z) else integer z) ≡ d) × (integer_read min max d ≡ Ok z) × (d ≡ null → ⊥)
      at true e = (string (signed_decimal z), refl, text_back min max z r, no_null (string (signed_decimal z)) (λ x. absurd x))
      at false e = (integer z, refl, whole_back min max z r.inside, no_null (integer z) (λ x. absurd x))

  integers_back : (min max z : ℤ) (k : Kind) → family k ≡ integers min max → Ranged min max z
      → (d : Data) × ScalarBack shape k (content.number z) (number_by shape o k (family k) z) d
  integers_back min max z k is r =
      let it = integer_back min max z k r in (
        it.0,
        record {
          made = ap (λ f. number_by shape o k f z) is ∙ ap (λ d. Some d) it.1;
          back = ap (λ f. scalar_of shape false f it.0) is ∙ rw it.2 refl;
          null_ok = λ q. absurd (it.3 q);
        },
      )

  -- an enum that is not `NullValue`
  numbered_back : (e : ℕ) (z : ℤ) → FitsSigned w32 z → enum_read false (enum_values_of shape e) (integer z) ≡ Ok (Some (content.number z))
  numbered_back e (pos n) h = let r = ranged_32 (pos n) h in rw (range_back (negsuc 2147483647) (pos 2147483647) (pos n) r.inside) refl
  numbered_back e (negsuc n) h = let r = ranged_32 (negsuc n) h in rw (range_back (negsuc 2147483647) (pos 2147483647) (negsuc n) r.inside) refl

  abbrev EnumBack : ℕ → ℤ → Data → Type 0
  EnumBack e z tree = (enum_read false (enum_values_of shape e) tree ≡ Ok (Some (content.number z))) × (tree ≡ null → ⊥)

  named_back : (e : ℕ) (z : ℤ) → FitsSigned w32 z → EnumBack e z (name_or_number z (value_of_number z (enum_values_of shape e)))
  named_back e z h = at (value_of_number z (enum_values_of shape e)) refl
    where
      at : (v : Option EnumValueShape) → value_of_number z (enum_values_of shape e) ≡ v → EnumBack e z (name_or_number z v)
      at None p = (numbered_back e z h, no_null (integer z) (λ x. absurd x))
      at (Some v) p =
          let test : int_eq v.number z ≡ true = found_passes (λ (v : EnumValueShape). int_eq v.number z) (enum_values_of shape e) v p in
          let same : v.number ≡ z = (Decides-int_eq v.number z).0 test in
          (ap (number_named false) (well.values e z v p) ∙ ap (λ y. Ok (Some (content.number y))) same, no_null (string v.name) (λ x. absurd x))

  enum_back : (e : ℕ) (z : ℤ) → FitsSigned w32 z → (is_null_value shape e ≡ true → z ≡ pos 0)
      → (d : Data) × ScalarBack shape (kind.Enum e) (content.number z) (number_by shape o (kind.Enum e) (enums e) z) d
  enum_back e z h n = at (is_null_value shape e) refl
    where
      other : (b : Bool)
          → EnumBack e z (if b then integer z else name_or_number z (value_of_number z (enum_values_of shape e)))
      other true = (numbered_back e z h, no_null (integer z) (λ x. absurd x))
      other false = named_back e z h

      at : (b : Bool) → is_null_value shape e ≡ b
          → (d : Data) × ScalarBack shape (kind.Enum e) (content.number z) (number_by shape o (kind.Enum e) (enums e) z) d
      at true p = (null, record { made = rw p refl; back = rw (p, n p) refl; null_ok = λ q. p })
      at false p =
          let it = other o.options.use_enum_numbers in (
            if o.options.use_enum_numbers then integer z else name_or_number z (value_of_number z (enum_values_of shape e)),
            record { made = rw p refl; back = rw p it.0; null_ok = λ q. absurd (it.1 q) },
          )

  pub number_back : (k : Kind) (z : ℤ) → IsNumber k z → IsNull shape k z
      → (d : Data) × ScalarBack shape k (content.number z) (number_by shape o k (family k) z) d
  number_back (kind.Enum e) z h n = enum_back e z h n
  number_back kind.Int32 z h n = integers_back _ _ z kind.Int32 refl (ranged_32 z h)
  number_back kind.Sint32 z h n = integers_back _ _ z kind.Sint32 refl (ranged_32 z h)
  number_back kind.Sfixed32 z h n = integers_back _ _ z kind.Sfixed32 refl (ranged_32 z h)
  number_back kind.Int64 z h n = integers_back _ _ z kind.Int64 refl (ranged_64 z h)
  number_back kind.Sint64 z h n = integers_back _ _ z kind.Sint64 refl (ranged_64 z h)
  number_back kind.Sfixed64 z h n = integers_back _ _ z kind.Sfixed64 refl (ranged_64 z h)
  number_back kind.Uint32 (pos m) h n = integers_back _ _ (pos m) kind.Uint32 refl (ranged_below_32 m h)
  number_back kind.Fixed32 (pos m) h n = integers_back _ _ (pos m) kind.Fixed32 refl (ranged_below_32 m h)
  number_back kind.Uint64 (pos m) h n = integers_back _ _ (pos m) kind.Uint64 refl (ranged_below_64 m h)
  number_back kind.Fixed64 (pos m) h n = integers_back _ _ (pos m) kind.Fixed64 refl (ranged_below_64 m h)
  number_back _ z h n = absurd h

  pub truth_back : (k : Kind) (b : Bool) → k ≡ kind.Bool → (d : Data) × ScalarBack shape k (content.truth b) (truth_by (family k) b) d
  truth_back k b is = (
    boolean b,
    record {
      made = ap (λ k. truth_by (family k) b) is;
      back = ap (λ k. scalar_of shape false (family k) (boolean b)) is;
      null_ok = no_null (boolean b) (λ x. absurd x);
    },
  )

  pub text_as_is : (k : Kind) (s : List ℕ) → k ≡ kind.String → (d : Data) × ScalarBack shape k (content.text s) (text_by (family k) s) d
  text_as_is k s is = (
    string s,
    record {
      made = ap (λ k. text_by (family k) s) is;
      back = ap (λ k. scalar_of shape false (family k) (string s)) is;
      null_ok = no_null (string s) (λ x. absurd x);
    },
  )

  pub bytes_back : (k : Kind) (s : List ℕ) → k ≡ kind.Bytes → IsBytes s → (d : Data) × ScalarBack shape k (content.octets s) (bytes_by (family k) s) d
  bytes_back k s is b = (
    string (base64_text s),
    record {
      made = ap (λ k. bytes_by (family k) s) is;
      back = ap (λ k. scalar_of shape false (family k) (string (base64_text s))) is ∙ rw (bytes_read s b) refl;
      null_ok = no_null (string (base64_text s)) (λ x. absurd x);
    },
  )

-- ---- keys

truth_word : (b : Bool) → key_read kind.Bool (key_text (truth_key b)) ≡ Ok (truth_key b)
truth_word true = refl
truth_word false = refl

integer_key : (min max z : ℤ) (k : Kind) → family k ≡ integers min max → Ranged min max z → key_read k (signed_decimal z) ≡ Ok (number_key z)
integer_key min max z k is r = ap (λ f. key_of f (signed_decimal z)) is ∙ ap (λ x. if_ok x (λ y. Ok (number_key y))) (text_back min max z r)

-- the text of a key reads back as the key
pub key_back : (k : Kind) (l : Key) → IsKeyOf k l → key_read k (key_text l) ≡ Ok l
key_back kind.Bool (truth_key b) h = truth_word b
key_back kind.String (text_key s) h = refl
key_back kind.Int32 (number_key z) h = integer_key _ _ z kind.Int32 refl (ranged_32 z h)
key_back kind.Sint32 (number_key z) h = integer_key _ _ z kind.Sint32 refl (ranged_32 z h)
key_back kind.Sfixed32 (number_key z) h = integer_key _ _ z kind.Sfixed32 refl (ranged_32 z h)
key_back kind.Int64 (number_key z) h = integer_key _ _ z kind.Int64 refl (ranged_64 z h)
key_back kind.Sint64 (number_key z) h = integer_key _ _ z kind.Sint64 refl (ranged_64 z h)
key_back kind.Sfixed64 (number_key z) h = integer_key _ _ z kind.Sfixed64 refl (ranged_64 z h)
key_back kind.Uint32 (number_key (pos m)) h = integer_key _ _ (pos m) kind.Uint32 refl (ranged_below_32 m h)
key_back kind.Fixed32 (number_key (pos m)) h = integer_key _ _ (pos m) kind.Fixed32 refl (ranged_below_32 m h)
key_back kind.Uint64 (number_key (pos m)) h = integer_key _ _ (pos m) kind.Uint64 refl (ranged_below_64 m h)
key_back kind.Fixed64 (number_key (pos m)) h = integer_key _ _ (pos m) kind.Fixed64 refl (ranged_below_64 m h)
key_back _ (number_key z) h = absurd h
key_back _ (truth_key b) h = absurd h
key_back _ (text_key s) h = absurd h
