-- Which rule a record breaks where it is read as a value of a kind, told with the offset of its key.
use Rattle.std.specs.Prelude.{◌≡◌, ◌⊎◌, ℕ, List, true, false, ◌==◌, nat_lt, length, take, drop, Option, Some, None, if◌then◌else◌}
use Rattle.std.specs.Int.{Width}
use Rattle.pbx_wire.specs.Fixed.{fixed}
use Rattle.std.specs.Str.{is_utf8}
use Rattle.pbx_wire.specs.declared.error.DecodeError.{DecodeError}
use Rattle.pbx_wire.specs.declared.error.DecodeError.TheVariants as errors
use Rattle.pbx_wire.specs.declared.rec.Rec.{Rec}
use Rattle.pbx_content.specs.declared.shape.Kind.{Kind}
use Rattle.pbx_content.specs.declared.shape.Kind.TheVariants as kinds
use Rattle.pbx_content.specs.Records.{bytes_of}
use Rattle.pbx_content.specs.Shape.{form_of, is_packable}
use Rattle.pbx_content.specs.Faults.{wire_type, wire_type_of, OwnPayloadIs, HasLongNumber, EndsInNumber}

-- so many bytes at the front as a number, the least first, and the bytes behind it
abbrev pub front_number : Width → ℕ → List ℕ → Option (ℕ × List ℕ)
front_number w len bytes = if nat_lt (length bytes) len then None else Some (fixed w (take len bytes), drop len bytes)

-- as one value: another wire type, or a text that is not UTF-8
abbrev pub AloneFails : Kind → ℕ → Rec → DecodeError → Type 0
AloneFails k at r e =
    ((e ≡ errors.WireType at) × ((wire_type_of r == wire_type (form_of k)) ≡ false))
    ⊎ ((e ≡ errors.Utf8 at) × (k ≡ kinds.String) × OwnPayloadIs r (λ p. is_utf8 p ≡ false))

-- as packed numbers: a number that is too long, or the beginning of one
abbrev pub PackedFails : Kind → ℕ → List ℕ → DecodeError → Type 0
PackedFails k at bytes e =
    ((e ≡ errors.Varint at) × HasLongNumber (form_of k) bytes) ⊎ ((e ≡ errors.Underflow at) × EndsInNumber (form_of k) bytes)

-- as values of a repeated field
abbrev pub SpreadFails : Kind → ℕ → Rec → DecodeError → Type 0
SpreadFails k at r e =
    (AloneFails k at r e × (is_packable k ≡ true → bytes_of r ≡ None)) ⊎ ((is_packable k ≡ true) × OwnPayloadIs r (λ p. PackedFails k at p e))
