-- The values that scalars of a tree are.
use Rattle.std.proofs.Common.{◌≡◌, ℕ, ℤ, pos, ◌^◌, ◌<◌, List, Bool, rules}
use Rattle.std.specs.Int.{w32, w64}
use Rattle.std.specs.Int.RustNames.{FitsSigned}
use Rattle.std.specs.Str.{IsUtf8}
use Rattle.std.proofs.lemmas.Str.{is_utf8-from_IsUtf8}
use Rattle.pbx_wire.specs.declared.text.Text.{Text}
use Rattle.pbx_content.specs.declared.shape.Kind.TheVariants as kind
use Rattle.pbx_content.specs.Content.{number, truth, text, octets}
use Rattle.pbx_content_codec.specs.declared.contents.Held as held
use Rattle.pbx_content_codec.specs.declared.contents.Contents.{the_lemmas}
use Rattle.pbx_content_codec.specs.View.{val_of}
use Rattle.pbx_desc_wrappers.specs.Wrapped.{IsOf}

val_of-I32 : (z : ℤ) → val_of (held.I32 z) ≡ number z
val_of-I32 z = search (rules, the_lemmas)

val_of-I64 : (z : ℤ) → val_of (held.I64 z) ≡ number z
val_of-I64 z = search (rules, the_lemmas)

val_of-U32 : (n : ℕ) → val_of (held.U32 n) ≡ number (pos n)
val_of-U32 n = search (rules, the_lemmas)

val_of-U64 : (n : ℕ) → val_of (held.U64 n) ≡ number (pos n)
val_of-U64 n = search (rules, the_lemmas)

val_of-Bool : (b : Bool) → val_of (held.Bool b) ≡ truth b
val_of-Bool b = search (rules, the_lemmas)

val_of-Text : (t : Text) → val_of (held.Text t) ≡ text t
val_of-Text t = search (rules, the_lemmas)

val_of-Bytes : (b : List ℕ) → val_of (held.Bytes b) ≡ octets b
val_of-Bytes b = search (rules, the_lemmas)

pub of_i32 : (z : ℤ) → FitsSigned w32 z → IsOf kind.Int32 (val_of (held.I32 z))
of_i32 z h = rw (val_of-I32 z) h

pub of_i64 : (z : ℤ) → FitsSigned w64 z → IsOf kind.Int64 (val_of (held.I64 z))
of_i64 z h = rw (val_of-I64 z) h

pub of_u32 : (n : ℕ) → n < 2 ^ 32 → IsOf kind.Uint32 (val_of (held.U32 n))
of_u32 n h = rw (val_of-U32 n) h

pub of_u64 : (n : ℕ) → n < 2 ^ 64 → IsOf kind.Uint64 (val_of (held.U64 n))
of_u64 n h = rw (val_of-U64 n) h

pub of_bool : (b : Bool) → IsOf kind.Bool (val_of (held.Bool b))
of_bool b = rw (val_of-Bool b) tt

pub of_text : (t : Text) (s : List ℕ) → t ≡ s → IsUtf8 s → IsOf kind.String (val_of (held.Text t))
of_text t s e h = rw (val_of-Text t, e) (is_utf8-from_IsUtf8 s h)

pub of_bytes : (b : List ℕ) → IsOf kind.Bytes (val_of (held.Bytes b))
of_bytes b = rw (val_of-Bytes b) tt
