-- What holds of the texts.
use Rattle.std.specs.Prelude.{◌≡◌, ℕ, ◌<◌, ◌^◌, ℤ, unsigned_abs, List, Some}
use Rattle.std.specs.Fmt.{decimal, signed_decimal}
use Rattle.std.specs.List.{join_with_byte}
use Rattle.base64.specs.GeneralPurpose.{IsBytes}
use Rattle.pbx_text.specs.Decimal.{signed_of, unsigned_of}
use Rattle.pbx_text.specs.Base64.{base64_of, base64_text}
use Rattle.pbx_text.specs.Duration.{duration_of, duration_text}
use Rattle.pbx_text.specs.Mask.{filled_pieces, mask_of, mask_text}

-- What is written of a number of 64 bits reads as the number.
abbrev pub NumbersReadBack : Type 0
NumbersReadBack = ((z : ℤ) → unsigned_abs z < 2 ^ 64 → signed_of (signed_decimal z) ≡ Some z) × ((n : ℕ) → n < 2 ^ 64 → unsigned_of (decimal n) ≡ Some n)

-- What is written of bytes reads as the bytes.
abbrev pub BytesReadBack : Type 0
BytesReadBack = (bytes : List ℕ) → IsBytes bytes → base64_of (base64_text bytes) ≡ Some bytes

-- What is written of a duration reads as the duration.
abbrev pub DurationsReadBack : Type 0
DurationsReadBack = (seconds nanos : ℤ) (text : List ℕ) → duration_text seconds nanos ≡ Some text → duration_of text ≡ Some (seconds, nanos)

-- A mask text, read and written, is its pieces that are not empty, joined by commas; and what is written of paths reads as the paths.
abbrev pub MasksReadBack : Type 0
MasksReadBack =
    ((text : List ℕ) (paths : List (List ℕ)) → mask_of text ≡ Some paths → mask_text paths ≡ Some (join_with_byte 44 (filled_pieces text)))
    × ((paths : List (List ℕ)) (text : List ℕ) → mask_text paths ≡ Some text → mask_of text ≡ Some paths)
