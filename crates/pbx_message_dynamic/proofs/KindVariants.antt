-- Kinds by the variants of their values.
use Rattle.std.proofs.Common.{◌≡◌, ℕ, ◌<◌, ◌^◌, pos, zero, suc, refl, sym, ap, ◌∙◌}
use Rattle.std.specs.Prelude.{ℤ, List, Bool, IsTrue}
use Rattle.std.specs.Int.{w32, w64}
use Rattle.std.specs.Int.RustNames.{FitsSigned}
use Rattle.std.specs.Str.{is_utf8}
use Rattle.pbx_content.specs.declared.shape.Kind.{Kind}
use Rattle.pbx_content.specs.declared.shape.Kind.TheVariants as kind
use Rattle.pbx_content.specs.Content.{truth_key, number_key, text_key}
use Rattle.pbx_content.specs.Sound.{IsNumber, IsKeyOf}
use Rattle.pbx_message_dynamic.specs.Values.{Variant, variant_of, truths, numbers_i32, numbers_i64, numbers_u32, numbers_u64, texts, octet_strings, enum_numbers, messages, lists, maps, no_variant}
use Rattle.pbx_message_dynamic.specs.Variants.{variant_number}

abbrev variant_at : ℕ → Variant
variant_at zero = truths
variant_at (suc zero) = numbers_i32
variant_at (suc (suc zero)) = numbers_i64
variant_at (suc (suc (suc zero))) = numbers_u32
variant_at (suc (suc (suc (suc zero)))) = numbers_u64
variant_at (suc (suc (suc (suc (suc zero))))) = texts
variant_at (suc (suc (suc (suc (suc (suc zero)))))) = octet_strings
variant_at (suc (suc (suc (suc (suc (suc (suc zero))))))) = enum_numbers
variant_at (suc (suc (suc (suc (suc (suc (suc (suc zero)))))))) = messages
variant_at (suc (suc (suc (suc (suc (suc (suc (suc (suc zero))))))))) = lists
variant_at (suc (suc (suc (suc (suc (suc (suc (suc (suc (suc zero)))))))))) = maps
variant_at (suc (suc (suc (suc (suc (suc (suc (suc (suc (suc (suc n))))))))))) = no_variant

back : (v : Variant) → variant_at (variant_number v) ≡ v
back truths = refl
back numbers_i32 = refl
back numbers_i64 = refl
back numbers_u32 = refl
back numbers_u64 = refl
back texts = refl
back octet_strings = refl
back enum_numbers = refl
back messages = refl
back lists = refl
back maps = refl
back no_variant = refl

pub same_variant : (v w : Variant) → variant_number v ≡ variant_number w → v ≡ w
same_variant v w e = sym (back v) ∙ ap variant_at e ∙ back w

pub number_i32 : (k : Kind) (z : ℤ) → variant_of k ≡ numbers_i32 → FitsSigned w32 z → IsNumber k z
number_i32 kind.Double z e f = absurd cc
number_i32 kind.Float z e f = absurd cc
number_i32 kind.Int32 z e f = f
number_i32 kind.Int64 z e f = absurd cc
number_i32 kind.Uint32 z e f = absurd cc
number_i32 kind.Uint64 z e f = absurd cc
number_i32 kind.Sint32 z e f = f
number_i32 kind.Sint64 z e f = absurd cc
number_i32 kind.Fixed32 z e f = absurd cc
number_i32 kind.Fixed64 z e f = absurd cc
number_i32 kind.Sfixed32 z e f = f
number_i32 kind.Sfixed64 z e f = absurd cc
number_i32 kind.Bool z e f = absurd cc
number_i32 kind.String z e f = absurd cc
number_i32 kind.Bytes z e f = absurd cc
number_i32 (kind.Message t) z e f = absurd cc
number_i32 (kind.Enum t) z e f = absurd cc

pub number_i64 : (k : Kind) (z : ℤ) → variant_of k ≡ numbers_i64 → FitsSigned w64 z → IsNumber k z
number_i64 kind.Double z e f = absurd cc
number_i64 kind.Float z e f = absurd cc
number_i64 kind.Int32 z e f = absurd cc
number_i64 kind.Int64 z e f = f
number_i64 kind.Uint32 z e f = absurd cc
number_i64 kind.Uint64 z e f = absurd cc
number_i64 kind.Sint32 z e f = absurd cc
number_i64 kind.Sint64 z e f = f
number_i64 kind.Fixed32 z e f = absurd cc
number_i64 kind.Fixed64 z e f = absurd cc
number_i64 kind.Sfixed32 z e f = absurd cc
number_i64 kind.Sfixed64 z e f = f
number_i64 kind.Bool z e f = absurd cc
number_i64 kind.String z e f = absurd cc
number_i64 kind.Bytes z e f = absurd cc
number_i64 (kind.Message t) z e f = absurd cc
number_i64 (kind.Enum t) z e f = absurd cc

pub number_u32 : (k : Kind) (n : ℕ) → variant_of k ≡ numbers_u32 → n < 2 ^ 32 → IsNumber k (pos n)
number_u32 kind.Double z e f = absurd cc
number_u32 kind.Float z e f = absurd cc
number_u32 kind.Int32 z e f = absurd cc
number_u32 kind.Int64 z e f = absurd cc
number_u32 kind.Uint32 z e f = f
number_u32 kind.Uint64 z e f = absurd cc
number_u32 kind.Sint32 z e f = absurd cc
number_u32 kind.Sint64 z e f = absurd cc
number_u32 kind.Fixed32 z e f = f
number_u32 kind.Fixed64 z e f = absurd cc
number_u32 kind.Sfixed32 z e f = absurd cc
number_u32 kind.Sfixed64 z e f = absurd cc
number_u32 kind.Bool z e f = absurd cc
number_u32 kind.String z e f = absurd cc
number_u32 kind.Bytes z e f = absurd cc
number_u32 (kind.Message t) z e f = absurd cc
number_u32 (kind.Enum t) z e f = absurd cc

pub number_u64 : (k : Kind) (n : ℕ) → variant_of k ≡ numbers_u64 → n < 2 ^ 64 → IsNumber k (pos n)
number_u64 kind.Double z e f = absurd cc
number_u64 kind.Float z e f = absurd cc
number_u64 kind.Int32 z e f = absurd cc
number_u64 kind.Int64 z e f = absurd cc
number_u64 kind.Uint32 z e f = absurd cc
number_u64 kind.Uint64 z e f = f
number_u64 kind.Sint32 z e f = absurd cc
number_u64 kind.Sint64 z e f = absurd cc
number_u64 kind.Fixed32 z e f = absurd cc
number_u64 kind.Fixed64 z e f = f
number_u64 kind.Sfixed32 z e f = absurd cc
number_u64 kind.Sfixed64 z e f = absurd cc
number_u64 kind.Bool z e f = absurd cc
number_u64 kind.String z e f = absurd cc
number_u64 kind.Bytes z e f = absurd cc
number_u64 (kind.Message t) z e f = absurd cc
number_u64 (kind.Enum t) z e f = absurd cc

pub number_enum : (k : Kind) (z : ℤ) → variant_of k ≡ enum_numbers → FitsSigned w32 z → IsNumber k z
number_enum kind.Double z e f = absurd cc
number_enum kind.Float z e f = absurd cc
number_enum kind.Int32 z e f = absurd cc
number_enum kind.Int64 z e f = absurd cc
number_enum kind.Uint32 z e f = absurd cc
number_enum kind.Uint64 z e f = absurd cc
number_enum kind.Sint32 z e f = absurd cc
number_enum kind.Sint64 z e f = absurd cc
number_enum kind.Fixed32 z e f = absurd cc
number_enum kind.Fixed64 z e f = absurd cc
number_enum kind.Sfixed32 z e f = absurd cc
number_enum kind.Sfixed64 z e f = absurd cc
number_enum kind.Bool z e f = absurd cc
number_enum kind.String z e f = absurd cc
number_enum kind.Bytes z e f = absurd cc
number_enum (kind.Message t) z e f = absurd cc
number_enum (kind.Enum t) z e f = f

pub kind_bool : (k : Kind) → variant_of k ≡ truths → k ≡ kind.Bool
kind_bool kind.Double e = absurd cc
kind_bool kind.Float e = absurd cc
kind_bool kind.Int32 e = absurd cc
kind_bool kind.Int64 e = absurd cc
kind_bool kind.Uint32 e = absurd cc
kind_bool kind.Uint64 e = absurd cc
kind_bool kind.Sint32 e = absurd cc
kind_bool kind.Sint64 e = absurd cc
kind_bool kind.Fixed32 e = absurd cc
kind_bool kind.Fixed64 e = absurd cc
kind_bool kind.Sfixed32 e = absurd cc
kind_bool kind.Sfixed64 e = absurd cc
kind_bool kind.Bool e = refl
kind_bool kind.String e = absurd cc
kind_bool kind.Bytes e = absurd cc
kind_bool (kind.Message t) e = absurd cc
kind_bool (kind.Enum t) e = absurd cc

pub kind_string : (k : Kind) → variant_of k ≡ texts → k ≡ kind.String
kind_string kind.Double e = absurd cc
kind_string kind.Float e = absurd cc
kind_string kind.Int32 e = absurd cc
kind_string kind.Int64 e = absurd cc
kind_string kind.Uint32 e = absurd cc
kind_string kind.Uint64 e = absurd cc
kind_string kind.Sint32 e = absurd cc
kind_string kind.Sint64 e = absurd cc
kind_string kind.Fixed32 e = absurd cc
kind_string kind.Fixed64 e = absurd cc
kind_string kind.Sfixed32 e = absurd cc
kind_string kind.Sfixed64 e = absurd cc
kind_string kind.Bool e = absurd cc
kind_string kind.String e = refl
kind_string kind.Bytes e = absurd cc
kind_string (kind.Message t) e = absurd cc
kind_string (kind.Enum t) e = absurd cc

pub kind_bytes : (k : Kind) → variant_of k ≡ octet_strings → k ≡ kind.Bytes
kind_bytes kind.Double e = absurd cc
kind_bytes kind.Float e = absurd cc
kind_bytes kind.Int32 e = absurd cc
kind_bytes kind.Int64 e = absurd cc
kind_bytes kind.Uint32 e = absurd cc
kind_bytes kind.Uint64 e = absurd cc
kind_bytes kind.Sint32 e = absurd cc
kind_bytes kind.Sint64 e = absurd cc
kind_bytes kind.Fixed32 e = absurd cc
kind_bytes kind.Fixed64 e = absurd cc
kind_bytes kind.Sfixed32 e = absurd cc
kind_bytes kind.Sfixed64 e = absurd cc
kind_bytes kind.Bool e = absurd cc
kind_bytes kind.String e = absurd cc
kind_bytes kind.Bytes e = refl
kind_bytes (kind.Message t) e = absurd cc
kind_bytes (kind.Enum t) e = absurd cc

pub key_i32 : (k : Kind) (z : ℤ) → variant_of k ≡ numbers_i32 → FitsSigned w32 z → IsKeyOf k (number_key z)
key_i32 kind.Double z e f = absurd cc
key_i32 kind.Float z e f = absurd cc
key_i32 kind.Int32 z e f = f
key_i32 kind.Int64 z e f = absurd cc
key_i32 kind.Uint32 z e f = absurd cc
key_i32 kind.Uint64 z e f = absurd cc
key_i32 kind.Sint32 z e f = f
key_i32 kind.Sint64 z e f = absurd cc
key_i32 kind.Fixed32 z e f = absurd cc
key_i32 kind.Fixed64 z e f = absurd cc
key_i32 kind.Sfixed32 z e f = f
key_i32 kind.Sfixed64 z e f = absurd cc
key_i32 kind.Bool z e f = absurd cc
key_i32 kind.String z e f = absurd cc
key_i32 kind.Bytes z e f = absurd cc
key_i32 (kind.Message t) z e f = absurd cc
key_i32 (kind.Enum t) z e f = absurd cc

pub key_i64 : (k : Kind) (z : ℤ) → variant_of k ≡ numbers_i64 → FitsSigned w64 z → IsKeyOf k (number_key z)
key_i64 kind.Double z e f = absurd cc
key_i64 kind.Float z e f = absurd cc
key_i64 kind.Int32 z e f = absurd cc
key_i64 kind.Int64 z e f = f
key_i64 kind.Uint32 z e f = absurd cc
key_i64 kind.Uint64 z e f = absurd cc
key_i64 kind.Sint32 z e f = absurd cc
key_i64 kind.Sint64 z e f = f
key_i64 kind.Fixed32 z e f = absurd cc
key_i64 kind.Fixed64 z e f = absurd cc
key_i64 kind.Sfixed32 z e f = absurd cc
key_i64 kind.Sfixed64 z e f = f
key_i64 kind.Bool z e f = absurd cc
key_i64 kind.String z e f = absurd cc
key_i64 kind.Bytes z e f = absurd cc
key_i64 (kind.Message t) z e f = absurd cc
key_i64 (kind.Enum t) z e f = absurd cc

pub key_u32 : (k : Kind) (n : ℕ) → variant_of k ≡ numbers_u32 → n < 2 ^ 32 → IsKeyOf k (number_key (pos n))
key_u32 kind.Double z e f = absurd cc
key_u32 kind.Float z e f = absurd cc
key_u32 kind.Int32 z e f = absurd cc
key_u32 kind.Int64 z e f = absurd cc
key_u32 kind.Uint32 z e f = f
key_u32 kind.Uint64 z e f = absurd cc
key_u32 kind.Sint32 z e f = absurd cc
key_u32 kind.Sint64 z e f = absurd cc
key_u32 kind.Fixed32 z e f = f
key_u32 kind.Fixed64 z e f = absurd cc
key_u32 kind.Sfixed32 z e f = absurd cc
key_u32 kind.Sfixed64 z e f = absurd cc
key_u32 kind.Bool z e f = absurd cc
key_u32 kind.String z e f = absurd cc
key_u32 kind.Bytes z e f = absurd cc
key_u32 (kind.Message t) z e f = absurd cc
key_u32 (kind.Enum t) z e f = absurd cc

pub key_u64 : (k : Kind) (n : ℕ) → variant_of k ≡ numbers_u64 → n < 2 ^ 64 → IsKeyOf k (number_key (pos n))
key_u64 kind.Double z e f = absurd cc
key_u64 kind.Float z e f = absurd cc
key_u64 kind.Int32 z e f = absurd cc
key_u64 kind.Int64 z e f = absurd cc
key_u64 kind.Uint32 z e f = absurd cc
key_u64 kind.Uint64 z e f = f
key_u64 kind.Sint32 z e f = absurd cc
key_u64 kind.Sint64 z e f = absurd cc
key_u64 kind.Fixed32 z e f = absurd cc
key_u64 kind.Fixed64 z e f = f
key_u64 kind.Sfixed32 z e f = absurd cc
key_u64 kind.Sfixed64 z e f = absurd cc
key_u64 kind.Bool z e f = absurd cc
key_u64 kind.String z e f = absurd cc
key_u64 kind.Bytes z e f = absurd cc
key_u64 (kind.Message t) z e f = absurd cc
key_u64 (kind.Enum t) z e f = absurd cc

pub key_bool : (k : Kind) (b : Bool) → variant_of k ≡ truths → IsKeyOf k (truth_key b)
key_bool k b e = rw (kind_bool k e) tt

pub key_string : (k : Kind) (s : List ℕ) → variant_of k ≡ texts → IsTrue (is_utf8 s) → IsKeyOf k (text_key s)
key_string k s e u = rw (kind_string k e) u
