-- A JSON text is one in UTF-8.
use Rattle.std.proofs.Common.{◌≡◌, ℕ, List, Bool, true, false, IsTrue, if◌then◌else◌, Some, None, refl}
use Rattle.std.specs.Str.{IsUtf8, is_utf8}
use Rattle.std.proofs.lemmas.Str.{is_utf8-from_IsUtf8, IsUtf8-from_is_utf8}
use Rattle.serde_json.specs.Data.{Data}
use Rattle.serde_json.specs.Read.{read as read_text}
use Rattle.protox_transcode.specs.Json.{json_of}

pub json_some : (input : List ℕ) (d : Data) → IsUtf8 input → read_text input ≡ Some d → json_of input ≡ Some d
json_some input d u h = rw (is_utf8-from_IsUtf8 input u) h

pub json_none : (input : List ℕ) → (IsUtf8 input → read_text input ≡ None) → json_of input ≡ None
json_none input h = at (is_utf8 input) (IsUtf8-from_is_utf8 input)
  where
    at : (b : Bool) → (b ≡ true → IsUtf8 input) → (if b then read_text input else None) ≡ None
    at true k = h (k refl)
    at false k = refl

pub not_memory : (b : Bool) → IsTrue b → b ≡ false → ⊥
not_memory true h e = cc
not_memory false h e = cc
