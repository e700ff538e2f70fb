-- The order of keys.
use Rattle.std.proofs.Common.{◌≡◌, Bool, true, false, nat_lt, ◌==◌, if◌then◌else◌, refl, sym, ◌∙◌, arith}
use Rattle.std.proofs.lemmas.Bool.Decides.{nat_tests}
use Rattle.pbx_content.specs.Content.{key_before}
use Rattle.pbx_content.proofs.OntoPairs.{Compared, first, same, later, key_compared, key_follows}
use Rattle.pbx_content_codec.specs.View.{key_of}
use Rattle.pbx_content_codec.specs.declared.key.MapKey.{MapKey}
use Rattle.pbx_content_codec.specs.declared.key.MapKey.TheVariants as key
use Rattle.pbx_message_dynamic.specs.Keys.{variant_of_key, is_before}

-- by variant, and of one variant as the keys of contents
pub before_is : (a b : MapKey) → is_before a b
    ≡ (if variant_of_key a == variant_of_key b then key_before (key_of a) (key_of b) else nat_lt (variant_of_key a) (variant_of_key b))
before_is (key.Bool x) (key.Bool y) = refl
before_is (key.Bool x) (key.I32 y) = refl
before_is (key.Bool x) (key.I64 y) = refl
before_is (key.Bool x) (key.U32 y) = refl
before_is (key.Bool x) (key.U64 y) = refl
before_is (key.Bool x) (key.String y) = refl
before_is (key.I32 x) (key.Bool y) = refl
before_is (key.I32 x) (key.I32 y) = refl
before_is (key.I32 x) (key.I64 y) = refl
before_is (key.I32 x) (key.U32 y) = refl
before_is (key.I32 x) (key.U64 y) = refl
before_is (key.I32 x) (key.String y) = refl
before_is (key.I64 x) (key.Bool y) = refl
before_is (key.I64 x) (key.I32 y) = refl
before_is (key.I64 x) (key.I64 y) = refl
before_is (key.I64 x) (key.U32 y) = refl
before_is (key.I64 x) (key.U64 y) = refl
before_is (key.I64 x) (key.String y) = refl
before_is (key.U32 x) (key.Bool y) = refl
before_is (key.U32 x) (key.I32 y) = refl
before_is (key.U32 x) (key.I64 y) = refl
before_is (key.U32 x) (key.U32 y) = refl
before_is (key.U32 x) (key.U64 y) = refl
before_is (key.U32 x) (key.String y) = refl
before_is (key.U64 x) (key.Bool y) = refl
before_is (key.U64 x) (key.I32 y) = refl
before_is (key.U64 x) (key.I64 y) = refl
before_is (key.U64 x) (key.U32 y) = refl
before_is (key.U64 x) (key.U64 y) = refl
before_is (key.U64 x) (key.String y) = refl
before_is (key.String x) (key.Bool y) = refl
before_is (key.String x) (key.I32 y) = refl
before_is (key.String x) (key.I64 y) = refl
before_is (key.String x) (key.U32 y) = refl
before_is (key.String x) (key.U64 y) = refl
before_is (key.String x) (key.String y) = refl

key_same : (a b : MapKey) → variant_of_key a ≡ variant_of_key b → key_of a ≡ key_of b → a ≡ b
key_same (key.Bool x) (key.Bool y) v e = cc
key_same (key.Bool x) (key.I32 y) v e = absurd (omega (arith, v))
key_same (key.Bool x) (key.I64 y) v e = absurd (omega (arith, v))
key_same (key.Bool x) (key.U32 y) v e = absurd (omega (arith, v))
key_same (key.Bool x) (key.U64 y) v e = absurd (omega (arith, v))
key_same (key.Bool x) (key.String y) v e = absurd (omega (arith, v))
key_same (key.I32 x) (key.Bool y) v e = absurd (omega (arith, v))
key_same (key.I32 x) (key.I32 y) v e = cc
key_same (key.I32 x) (key.I64 y) v e = absurd (omega (arith, v))
key_same (key.I32 x) (key.U32 y) v e = absurd (omega (arith, v))
key_same (key.I32 x) (key.U64 y) v e = absurd (omega (arith, v))
key_same (key.I32 x) (key.String y) v e = absurd (omega (arith, v))
key_same (key.I64 x) (key.Bool y) v e = absurd (omega (arith, v))
key_same (key.I64 x) (key.I32 y) v e = absurd (omega (arith, v))
key_same (key.I64 x) (key.I64 y) v e = cc
key_same (key.I64 x) (key.U32 y) v e = absurd (omega (arith, v))
key_same (key.I64 x) (key.U64 y) v e = absurd (omega (arith, v))
key_same (key.I64 x) (key.String y) v e = absurd (omega (arith, v))
key_same (key.U32 x) (key.Bool y) v e = absurd (omega (arith, v))
key_same (key.U32 x) (key.I32 y) v e = absurd (omega (arith, v))
key_same (key.U32 x) (key.I64 y) v e = absurd (omega (arith, v))
key_same (key.U32 x) (key.U32 y) v e = cc
key_same (key.U32 x) (key.U64 y) v e = absurd (omega (arith, v))
key_same (key.U32 x) (key.String y) v e = absurd (omega (arith, v))
key_same (key.U64 x) (key.Bool y) v e = absurd (omega (arith, v))
key_same (key.U64 x) (key.I32 y) v e = absurd (omega (arith, v))
key_same (key.U64 x) (key.I64 y) v e = absurd (omega (arith, v))
key_same (key.U64 x) (key.U32 y) v e = absurd (omega (arith, v))
key_same (key.U64 x) (key.U64 y) v e = cc
key_same (key.U64 x) (key.String y) v e = absurd (omega (arith, v))
key_same (key.String x) (key.Bool y) v e = absurd (omega (arith, v))
key_same (key.String x) (key.I32 y) v e = absurd (omega (arith, v))
key_same (key.String x) (key.I64 y) v e = absurd (omega (arith, v))
key_same (key.String x) (key.U32 y) v e = absurd (omega (arith, v))
key_same (key.String x) (key.U64 y) v e = absurd (omega (arith, v))
key_same (key.String x) (key.String y) v e = cc

-- ---- an order

pub follows : (a b c : MapKey) → is_before a b ≡ true → is_before b c ≡ true → is_before a c ≡ true
follows a b c e d =
    before_is a c
    ∙ at (variant_of_key a == variant_of_key b) (variant_of_key b == variant_of_key c) (variant_of_key a == variant_of_key c) refl refl refl
    (sym (before_is a b) ∙ e) (sym (before_is b c) ∙ d)
  where
    at : (x y z : Bool) → (variant_of_key a == variant_of_key b) ≡ x → (variant_of_key b == variant_of_key c) ≡ y → (variant_of_key a == variant_of_key c) ≡ z
        → (if x then key_before (key_of a) (key_of b) else nat_lt (variant_of_key a) (variant_of_key b)) ≡ true
        → (if y then key_before (key_of b) (key_of c) else nat_lt (variant_of_key b) (variant_of_key c)) ≡ true
        → (if z then key_before (key_of a) (key_of c) else nat_lt (variant_of_key a) (variant_of_key c)) ≡ true
    at true true true p q r e d = key_follows (key_of a) (key_of b) (key_of c) e d
    at true true false p q r e d = grind (arith, nat_tests, p, q, r)
    at true false true p q r e d = grind (arith, nat_tests, p, q, r, d)
    at true false false p q r e d = grind (arith, nat_tests, p, q, r, d)
    at false true true p q r e d = grind (arith, nat_tests, p, q, r, e)
    at false true false p q r e d = grind (arith, nat_tests, p, q, r, e)
    at false false true p q r e d = grind (arith, nat_tests, p, q, r, e, d)
    at false false false p q r e d = grind (arith, nat_tests, p, q, r, e, d)

-- of two keys one is before the other, or they are equal
pub compared : (a b : MapKey) → Compared is_before a b
compared a b = at (variant_of_key a == variant_of_key b) refl (before_is a b) (before_is b a) (key_compared (key_of a) (key_of b))
  where
    back : (x : Bool) → (variant_of_key a == variant_of_key b) ≡ x → (variant_of_key b == variant_of_key a) ≡ x
    back true e = grind (arith, nat_tests, e)
    back false e = grind (arith, nat_tests, e)

    apart : (p q : Bool) → nat_lt (variant_of_key a) (variant_of_key b) ≡ p → nat_lt (variant_of_key b) (variant_of_key a) ≡ q
        → (variant_of_key a == variant_of_key b) ≡ false
        → is_before a b ≡ nat_lt (variant_of_key a) (variant_of_key b) → is_before b a ≡ nat_lt (variant_of_key b) (variant_of_key a) → Compared is_before a b
    apart true false d f e s t = first (s ∙ d) (t ∙ f)
    apart false true d f e s t = later (t ∙ f) (s ∙ d)
    apart true true d f e s t = absurd (let bad : false ≡ true = grind (arith, nat_tests, d, f) in cc)
    apart false false d f e s t = absurd (let bad : false ≡ true = grind (arith, nat_tests, d, f, e) in cc)

    together : variant_of_key a ≡ variant_of_key b → is_before a b ≡ key_before (key_of a) (key_of b) → is_before b a ≡ key_before (key_of b) (key_of a)
        → Compared key_before (key_of a) (key_of b) → Compared is_before a b
    together v s t (first p q) = first (s ∙ p) (t ∙ q)
    together v s t (later p q) = later (t ∙ p) (s ∙ q)
    together v s t (same e p q) = same (key_same a b v e) (s ∙ p) (t ∙ q)

    at : (x : Bool) → (variant_of_key a == variant_of_key b) ≡ x
        → is_before a b ≡ (if variant_of_key a == variant_of_key b then key_before (key_of a) (key_of b) else nat_lt (variant_of_key a) (variant_of_key b))
        → is_before b a ≡ (if variant_of_key b == variant_of_key a then key_before (key_of b) (key_of a) else nat_lt (variant_of_key b) (variant_of_key a))
        → Compared key_before (key_of a) (key_of b) → Compared is_before a b
    at true e s t c = together (grind (arith, nat_tests, e)) (rw e at s) (rw (back true e) at t) c
    at false e s t c = apart (nat_lt (variant_of_key a) (variant_of_key b)) (nat_lt (variant_of_key b) (variant_of_key a)) refl refl e (rw e at s) (rw (back false e) at t)

pub not_both : (a b : MapKey) → is_before a b ≡ true → is_before b a ≡ false
not_both a b e = at (compared a b)
  where
    at : Compared is_before a b → is_before b a ≡ false
    at (first p q) = q
    at (same s p q) = q
    at (later p q) = absurd (let bad : false ≡ true = sym q ∙ e in cc)

pub equal : (a b : MapKey) → is_before a b ≡ false → is_before b a ≡ false → a ≡ b
equal a b e d = at (compared a b)
  where
    at : Compared is_before a b → a ≡ b
    at (first p q) = absurd (let bad : false ≡ true = sym e ∙ p in cc)
    at (same s p q) = s
    at (later p q) = absurd (let bad : false ≡ true = sym d ∙ p in cc)
