-- The values that texts of defaults say are of their kinds.
use Rattle.std.proofs.Common.{◌≡◌, ℕ, ◌-◌, ◌^◌, ◌==◌, ◌&&◌, if◌then◌else◌, List, [], ◌∷◌, Bool, true, false, Option, Some, None, refl, sym, subst, arith}
use Rattle.std.specs.Prelude.{ℤ, pos, negsuc, ◌-ℤ◌, nat_le, option_map, IsTrue}
use Rattle.std.specs.Int.{w32, w64}
use Rattle.std.specs.Int.RustNames.{FitsSigned}
use Rattle.std.specs.Str.{is_utf8, chars}
use lib.Utf8.{encode}
use Rattle.std.proofs.lemmas.Bool.{eqb-true}
use Rattle.std.proofs.lemmas.Bool.Decides.{nat_tests}
use Rattle.pbx_content.specs.declared.shape.Kind.{Kind}
use Rattle.pbx_content.specs.declared.shape.Kind.TheVariants as kind
use Rattle.pbx_content.specs.declared.shape.Shape.{Shape}
use Rattle.pbx_content.specs.Content.{empty}
use Rattle.pbx_content.specs.Meaning.{zero_of}
use Rattle.pbx_content.specs.Shape.{fields_of, is_float}
use Rattle.pbx_content.specs.Sound.{IsNumber, IsElement}
use Rattle.pbx_content.proofs.SoundValues.{nothing_sound, sound_of}
use Rattle.pbx_link_definitions.specs.Says.{signed_or_zero}
use Rattle.pbx_link_rules_field.specs.Rules.{is_type}
use Rattle.pbx_link_rules_scope.specs.Defaults.{digits_value, decimal_value, fits_signed, fits_unsigned, passes, is_signed_text, is_unsigned_text, is_scalar_default}
use Rattle.pbx_desc_records.specs.declared.file.FileDescriptorProto.{FileDescriptorProto}
use Rattle.pbx_link_meaning.specs.Shapes.{place_of_message, place_of_enum, scalar_kind, kind_by}
use Rattle.pbx_message_laws.specs.Defaults.{enum_default, declared_val}

-- ---- numbers

signed_32 : (t : List ℕ) → is_signed_text (2 ^ 31 - 1) t ≡ true → FitsSigned w32 (signed_or_zero (decimal_value true t))
signed_32 t h = at (decimal_value true t) h
  where
    at : (o : Option ℤ) → passes (fits_signed (2 ^ 31 - 1)) o ≡ true → FitsSigned w32 (signed_or_zero o)
    at None h = absurd cc
    at (Some (pos n)) h = record { sfits = grind (arith, nat_tests) }
    at (Some (negsuc n)) h = record { sfits = grind (arith, nat_tests) }

signed_64 : (t : List ℕ) → is_signed_text (2 ^ 63 - 1) t ≡ true → FitsSigned w64 (signed_or_zero (decimal_value true t))
signed_64 t h = at (decimal_value true t) h
  where
    at : (o : Option ℤ) → passes (fits_signed (2 ^ 63 - 1)) o ≡ true → FitsSigned w64 (signed_or_zero o)
    at None h = absurd cc
    at (Some (pos n)) h = record { sfits = grind (arith, nat_tests) }
    at (Some (negsuc n)) h = record { sfits = grind (arith, nat_tests) }

-- a text without a sign says the same number whether `-` may be one or not
as_signed : (t : List ℕ) (z : ℤ) → decimal_value false t ≡ Some z → decimal_value true t ≡ Some z
as_signed [] z h = absurd cc
as_signed (b ∷ bs) z h =
    at (b == 43) (b == 45) (option_map pos (digits_value bs)) (option_map (λ n. pos 0 -ℤ pos n) (digits_value bs)) (option_map pos (digits_value (b ∷ bs)))
    none h
  where
    none : (b == 45) ≡ true → option_map pos (digits_value (b ∷ bs)) ≡ None
    none e = subst (λ (c : ℕ). option_map pos (digits_value (c ∷ bs)) ≡ None) (sym (eqb-true b 45 e)) refl

    at : (c d : Bool) (plus minus plain : Option ℤ) → (d ≡ true → plain ≡ None)
        → (if c then plus else (if d && false then minus else plain)) ≡ Some z → (if c then plus else (if d && true then minus else plain)) ≡ Some z
    at true d plus minus plain e h = h
    at false true plus minus plain e h = absurd (let bad = e refl in cc)
    at false false plus minus plain e h = h

-- the number of a text without `-`, as one of an unsigned kind
unsigned_by : (greatest : ℕ) (P : ℤ → Type 0) → ((n : ℕ) → nat_le n greatest ≡ true → P (pos n)) → (t : List ℕ) → is_unsigned_text greatest t ≡ true
    → P (signed_or_zero (decimal_value true t))
unsigned_by greatest P holds t h = at (decimal_value false t) refl h
  where
    at : (o : Option ℤ) → decimal_value false t ≡ o → passes (fits_unsigned greatest) o ≡ true → P (signed_or_zero (decimal_value true t))
    at None d h = absurd cc
    at (Some (pos n)) d h = subst (λ (o : Option ℤ). P (signed_or_zero o)) (sym (as_signed t (pos n) d)) (holds n h)
    at (Some (negsuc n)) d h = absurd cc

unsigned_32 : (t : List ℕ) → is_unsigned_text (2 ^ 32 - 1) t ≡ true → IsNumber kind.Uint32 (signed_or_zero (decimal_value true t))
unsigned_32 t h = unsigned_by (2 ^ 32 - 1) (λ (z : ℤ). IsNumber kind.Uint32 z) (λ n le. grind (arith, nat_tests)) t h

unsigned_64 : (t : List ℕ) → is_unsigned_text (2 ^ 64 - 1) t ≡ true → IsNumber kind.Uint64 (signed_or_zero (decimal_value true t))
unsigned_64 t h = unsigned_by (2 ^ 64 - 1) (λ (z : ℤ). IsNumber kind.Uint64 z) (λ n le. grind (arith, nat_tests)) t h

fixed_32 : (t : List ℕ) → is_unsigned_text (2 ^ 32 - 1) t ≡ true → IsNumber kind.Fixed32 (signed_or_zero (decimal_value true t))
fixed_32 t h = unsigned_by (2 ^ 32 - 1) (λ (z : ℤ). IsNumber kind.Fixed32 z) (λ n le. grind (arith, nat_tests)) t h

fixed_64 : (t : List ℕ) → is_unsigned_text (2 ^ 64 - 1) t ≡ true → IsNumber kind.Fixed64 (signed_or_zero (decimal_value true t))
fixed_64 t h = unsigned_by (2 ^ 64 - 1) (λ (z : ℤ). IsNumber kind.Fixed64 z) (λ n le. grind (arith, nat_tests)) t h

-- ---- all kinds

-- the number of the default fits where the kind is an enum
abbrev pub FitIf : Shape → Kind → Option (List ℕ) → Type 0
FitIf shape k text = (e : ℕ) → k ≡ kind.Enum e → FitsSigned w32 (enum_default shape e text)

message_element : (shape : Shape) (t : ℕ) → IsElement shape (kind.Message t) (zero_of shape (kind.Message t))
message_element shape t = (t, refl, sound_of shape t empty (nothing_sound shape (fields_of shape t)))

pub zero_element : (shape : Shape) (k : Kind) → is_float k ≡ false → FitIf shape k None → IsElement shape k (zero_of shape k)
unfolding is_utf8 chars encode
zero_element shape kind.Double f fit = absurd cc
zero_element shape kind.Float f fit = absurd cc
zero_element shape kind.Bool f fit = refl
zero_element shape kind.String f fit = (refl, refl)
zero_element shape kind.Bytes f fit = refl
zero_element shape (kind.Message t) f fit = message_element shape t
zero_element shape (kind.Enum e) f fit = fit e refl
zero_element shape kind.Uint32 f fit = omega arith
zero_element shape kind.Uint64 f fit = omega arith
zero_element shape kind.Fixed32 f fit = omega arith
zero_element shape kind.Fixed64 f fit = omega arith
zero_element shape k f fit = record { sfits = omega arith }

-- the type is one, and the text is a default of it where it is no enum's
abbrev pub IsTyped : ℕ → List ℕ → Type 0
IsTyped n t = (is_type (pos n) ≡ true) × ((n == 14) ≡ false → (n == 11) ≡ false → is_scalar_default n t ≡ true)

module _ (shape : Shape) (t : List ℕ) where
  abbrev IsGood : Kind → Type 0
  IsGood k = is_float k ≡ false → FitIf shape k (Some t) → (k ≡ kind.String → IsTrue (is_utf8 t)) → IsElement shape k (declared_val shape k t)

  pick : (n m : ℕ) (j k : Kind) → (n ≡ m → IsGood j) → ((n == m) ≡ false → IsGood k) → IsGood (if n == m then j else k)
  pick n m j k this other = at (n == m) refl
    where
      at : (b : Bool) → (n == m) ≡ b → IsGood (if b then j else k)
      at true e = this (eqb-true n m e)
      at false e = other e

  module _ (pool : List FileDescriptorProto) (name : Option (List ℕ)) (n : ℕ) (typed : IsTyped n t) where
    says : (m : ℕ) → (m == 14) ≡ false → (m == 11) ≡ false → n ≡ m → is_scalar_default m t ≡ true
    says m a b e = subst (λ (k : ℕ). (k == 14) ≡ false → (k == 11) ≡ false → is_scalar_default k t ≡ true) e typed.1 a b

    last : (n == 11) ≡ false → (n == 14) ≡ false → (n == 1) ≡ false → (n == 2) ≡ false → (n == 3) ≡ false → (n == 4) ≡ false → (n == 5) ≡ false
        → (n == 6) ≡ false → (n == 7) ≡ false → (n == 8) ≡ false → (n == 9) ≡ false → (n == 12) ≡ false → (n == 13) ≡ false → (n == 15) ≡ false
        → (n == 16) ≡ false → (n == 17) ≡ false → n ≡ 18
    last a11 a14 a1 a2 a3 a4 a5 a6 a7 a8 a9 a12 a13 a15 a16 a17 = grind (arith, nat_tests, typed.0)

    good_scalar : (n == 11) ≡ false → (n == 14) ≡ false → IsGood (scalar_kind n)
    good_scalar a11 a14 =
        pick n 1 _ _ (λ e f fit u. absurd cc) (λ a1.
        pick n 2 _ _ (λ e f fit u. absurd cc) (λ a2.
        pick n 3 _ _ (λ e f fit u. signed_64 t (says 3 refl refl e)) (λ a3.
        pick n 4 _ _ (λ e f fit u. unsigned_64 t (says 4 refl refl e)) (λ a4.
        pick n 5 _ _ (λ e f fit u. signed_32 t (says 5 refl refl e)) (λ a5.
        pick n 6 _ _ (λ e f fit u. fixed_64 t (says 6 refl refl e)) (λ a6.
        pick n 7 _ _ (λ e f fit u. fixed_32 t (says 7 refl refl e)) (λ a7.
        pick n 8 _ _ (λ e f fit u. refl) (λ a8.
        pick n 9 _ _ (λ e f fit u. (refl, u refl)) (λ a9.
        pick n 12 _ _ (λ e f fit u. refl) (λ a12.
        pick n 13 _ _ (λ e f fit u. unsigned_32 t (says 13 refl refl e)) (λ a13.
        pick n 15 _ _ (λ e f fit u. signed_32 t (says 15 refl refl e)) (λ a15.
        pick n 16 _ _ (λ e f fit u. signed_64 t (says 16 refl refl e)) (λ a16.
        pick n 17 _ _ (λ e f fit u. signed_32 t (says 17 refl refl e)) (λ a17 f fit u.
        signed_64 t (says 18 refl refl (last a11 a14 a1 a2 a3 a4 a5 a6 a7 a8 a9 a12 a13 a15 a16 a17))))))))))))))))

    pub good_default : IsGood (kind_by pool n name)
    good_default =
        pick n 11 _ _ (λ e f fit u. message_element shape (place_of_message pool name)) (λ a11.
        pick n 14 _ _ (λ e f fit u. fit (place_of_enum pool name) refl) (λ a14. good_scalar a11 a14))
