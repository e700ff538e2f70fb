-- Keys of one kind have texts of their own.
use Rattle.std.proofs.Common.{◌≡◌, ℕ, ◌<◌, ◌^◌, ℤ, pos, negsuc, unsigned_abs, List, Bool, true, false, Some, refl, sym, ap, ◌∙◌, arith}
use Rattle.std.specs.Fmt.{signed_decimal}
use Rattle.pbx_text.specs.Decimal.{signed_of}
use Rattle.pbx_text.proofs.Decimals.{signed_reads}
use Rattle.pbx_content.specs.Content.{Key, truth_key, number_key, text_key}
use Rattle.pbx_content.specs.Sound.{IsNumber, IsKeyOf}
use Rattle.pbx_content.specs.declared.shape.Kind.{Kind}
use Rattle.pbx_content.specs.declared.shape.Kind.TheVariants as kind
use Rattle.pbx_json_meaning.specs.Canonical.{key_text}

has_64_bits : (k : Kind) (z : ℤ) → IsNumber k z → unsigned_abs z < 2 ^ 64
has_64_bits kind.Double z h = absurd h
has_64_bits kind.Float z h = absurd h
has_64_bits kind.Bool z h = absurd h
has_64_bits kind.String z h = absurd h
has_64_bits kind.Bytes z h = absurd h
has_64_bits (kind.Message t) z h = absurd h
has_64_bits (kind.Enum e) (pos n) h = omega arith
has_64_bits (kind.Enum e) (negsuc n) h = omega arith
has_64_bits kind.Int32 (pos n) h = omega arith
has_64_bits kind.Int32 (negsuc n) h = omega arith
has_64_bits kind.Sint32 (pos n) h = omega arith
has_64_bits kind.Sint32 (negsuc n) h = omega arith
has_64_bits kind.Sfixed32 (pos n) h = omega arith
has_64_bits kind.Sfixed32 (negsuc n) h = omega arith
has_64_bits kind.Int64 (pos n) h = omega arith
has_64_bits kind.Int64 (negsuc n) h = omega arith
has_64_bits kind.Sint64 (pos n) h = omega arith
has_64_bits kind.Sint64 (negsuc n) h = omega arith
has_64_bits kind.Sfixed64 (pos n) h = omega arith
has_64_bits kind.Sfixed64 (negsuc n) h = omega arith
has_64_bits kind.Uint32 (pos n) h = omega arith
has_64_bits kind.Uint32 (negsuc n) h = absurd h
has_64_bits kind.Fixed32 (pos n) h = omega arith
has_64_bits kind.Fixed32 (negsuc n) h = absurd h
has_64_bits kind.Uint64 (pos n) h = omega arith
has_64_bits kind.Uint64 (negsuc n) h = absurd h
has_64_bits kind.Fixed64 (pos n) h = omega arith
has_64_bits kind.Fixed64 (negsuc n) h = absurd h

same_number : (y z : ℤ) → unsigned_abs y < 2 ^ 64 → unsigned_abs z < 2 ^ 64 → signed_decimal y ≡ signed_decimal z → y ≡ z
same_number y z p q e =
    let both : Some y ≡ Some z = sym (signed_reads y p) ∙ ap signed_of e ∙ signed_reads z q in
    cc

-- no kind has keys of two sorts
truth_not_number : (k : Kind) (b : Bool) (z : ℤ) → IsKeyOf k (truth_key b) → IsKeyOf k (number_key z) → ⊥
truth_not_number kind.Bool b z h g = g
truth_not_number kind.Double b z h g = h
truth_not_number kind.Float b z h g = h
truth_not_number kind.String b z h g = h
truth_not_number kind.Bytes b z h g = h
truth_not_number (kind.Message t) b z h g = h
truth_not_number (kind.Enum e) b z h g = h
truth_not_number kind.Int32 b z h g = h
truth_not_number kind.Int64 b z h g = h
truth_not_number kind.Uint32 b z h g = h
truth_not_number kind.Uint64 b z h g = h
truth_not_number kind.Sint32 b z h g = h
truth_not_number kind.Sint64 b z h g = h
truth_not_number kind.Fixed32 b z h g = h
truth_not_number kind.Fixed64 b z h g = h
truth_not_number kind.Sfixed32 b z h g = h
truth_not_number kind.Sfixed64 b z h g = h

text_not_number : (k : Kind) (s : List ℕ) (z : ℤ) → IsKeyOf k (text_key s) → IsKeyOf k (number_key z) → ⊥
text_not_number kind.Bool s z h g = g
text_not_number kind.Double s z h g = h
text_not_number kind.Float s z h g = h
text_not_number kind.String s z h g = g
text_not_number kind.Bytes s z h g = h
text_not_number (kind.Message t) s z h g = h
text_not_number (kind.Enum e) s z h g = h
text_not_number kind.Int32 s z h g = h
text_not_number kind.Int64 s z h g = h
text_not_number kind.Uint32 s z h g = h
text_not_number kind.Uint64 s z h g = h
text_not_number kind.Sint32 s z h g = h
text_not_number kind.Sint64 s z h g = h
text_not_number kind.Fixed32 s z h g = h
text_not_number kind.Fixed64 s z h g = h
text_not_number kind.Sfixed32 s z h g = h
text_not_number kind.Sfixed64 s z h g = h

truth_not_text : (k : Kind) (b : Bool) (s : List ℕ) → IsKeyOf k (truth_key b) → IsKeyOf k (text_key s) → ⊥
truth_not_text kind.Bool b s h g = g
truth_not_text kind.Double b s h g = h
truth_not_text kind.Float b s h g = h
truth_not_text kind.String b s h g = h
truth_not_text kind.Bytes b s h g = h
truth_not_text (kind.Message t) b s h g = h
truth_not_text (kind.Enum e) b s h g = h
truth_not_text kind.Int32 b s h g = h
truth_not_text kind.Int64 b s h g = h
truth_not_text kind.Uint32 b s h g = h
truth_not_text kind.Uint64 b s h g = h
truth_not_text kind.Sint32 b s h g = h
truth_not_text kind.Sint64 b s h g = h
truth_not_text kind.Fixed32 b s h g = h
truth_not_text kind.Fixed64 b s h g = h
truth_not_text kind.Sfixed32 b s h g = h
truth_not_text kind.Sfixed64 b s h g = h

same_truth : (a b : Bool) → key_text (truth_key a) ≡ key_text (truth_key b) → truth_key a ≡ truth_key b
same_truth true true e = refl
same_truth true false e = absurd (cc)
same_truth false true e = absurd (cc)
same_truth false false e = refl

-- keys of one kind with one text are one
pub one_text : (k : Kind) (l m : Key) → IsKeyOf k l → IsKeyOf k m → key_text l ≡ key_text m → l ≡ m
one_text k (truth_key a) (truth_key b) h g e = same_truth a b e
one_text k (truth_key a) (number_key z) h g e = absurd (truth_not_number k a z h g)
one_text k (truth_key a) (text_key s) h g e = absurd (truth_not_text k a s h g)
one_text k (number_key y) (truth_key b) h g e = absurd (truth_not_number k b y g h)
one_text k (number_key y) (number_key z) h g e = ap number_key (same_number y z (has_64_bits k y (as_number k y h)) (has_64_bits k z (as_number k z g)) e)
  where
    as_number : (k : Kind) (z : ℤ) → IsKeyOf k (number_key z) → IsNumber k z
    as_number kind.Bool z h = absurd h
    as_number kind.Double z h = h
    as_number kind.Float z h = h
    as_number kind.String z h = absurd h
    as_number kind.Bytes z h = h
    as_number (kind.Message t) z h = h
    as_number (kind.Enum e) z h = absurd h
    as_number kind.Int32 z h = h
    as_number kind.Int64 z h = h
    as_number kind.Uint32 z h = h
    as_number kind.Uint64 z h = h
    as_number kind.Sint32 z h = h
    as_number kind.Sint64 z h = h
    as_number kind.Fixed32 z h = h
    as_number kind.Fixed64 z h = h
    as_number kind.Sfixed32 z h = h
    as_number kind.Sfixed64 z h = h
one_text k (number_key y) (text_key s) h g e = absurd (text_not_number k s y g h)
one_text k (text_key s) (truth_key b) h g e = absurd (truth_not_text k b s g h)
one_text k (text_key s) (number_key z) h g e = absurd (text_not_number k s z h g)
one_text k (text_key s) (text_key t) h g e = ap text_key e
