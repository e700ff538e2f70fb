-- Laws of payloads, each proved as the contract of a public function.
use Rattle.std.specs.Prelude.{◌≡◌, ℕ, ◌≤◌, List, length, Some}
use Rattle.pbx_content.specs.declared.shape.FieldShape.{FieldShape}
use Rattle.pbx_content.specs.declared.shape.Shape.{Shape}
use Rattle.pbx_content.specs.Content.{Content}
use Rattle.pbx_content.specs.Meaning.{meaning_within, meaning_of}
use Rattle.pbx_content.specs.Encoding.{encoded}
use Rattle.pbx_content.specs.Sound.{IsProper, IsSound}
use Rattle.pbx_json_payload_laws.specs.Inside.{AreShorter, HasNoKept}

-- Bytes that stand as values inside what bytes mean are shorter than these, since each record has a key.
abbrev pub MeaningShrinks : Type 0
MeaningShrinks =
    (shape : Shape) (levels : ℕ) (fs : List FieldShape) (bytes : List ℕ) (c : Content)
    → meaning_within shape levels fs bytes ≡ Some c → AreShorter (length bytes) c

-- What bytes mean with some levels, they mean with more.
abbrev pub MoreLevels : Type 0
MoreLevels =
    (shape : Shape) (levels more : ℕ) (fs : List FieldShape) (bytes : List ℕ) (c : Content)
    → levels ≤ more → meaning_within shape levels fs bytes ≡ Some c → meaning_within shape more fs bytes ≡ Some c

-- What is written of a content without kept records is read as no other one, whatever its size.
abbrev pub EncodedIsRead : Type 0
EncodedIsRead =
    (shape : Shape) (t : ℕ) (c d : Content)
    → IsProper shape → IsSound shape t c → HasNoKept c → meaning_of shape t (encoded shape t c) ≡ Some d → d ≡ c
