-- Laws of payloads in JSON, each proved as the contract of a public function.
use Rattle.std.specs.Prelude.{◌≡◌, ℕ, List, false, Some, None}
use Rattle.pbx_content.specs.Content.{Content}
use Rattle.pbx_content.specs.Meaning.{meaning_of}
use Rattle.pbx_content.specs.declared.shape.Shape.{Shape}
use Rattle.pbx_json_meaning.specs.Canonical.{content_tree, tree_of_payload, writing}
use Rattle.pbx_json_meaning.specs.Fits.{payload_fits, payloads_fit}
use Rattle.pbx_json_meaning.specs.declared.options.SerializeOptions.{SerializeOptions}

-- A payload is written as the content that its bytes mean, however deep payloads stand inside payloads.
abbrev pub PayloadsByContent : Type 0
PayloadsByContent =
    (shape : Shape) (o : SerializeOptions) (u : ℕ) (bytes : List ℕ) (c : Content)
    → meaning_of shape u bytes ≡ Some c → tree_of_payload shape o u bytes ≡ content_tree shape (writing shape o) c u

-- A payload is read again exactly where its bytes mean a content and so do the payloads in that content.
abbrev pub FitsByContent : Type 0
FitsByContent =
    (shape : Shape) (u : ℕ) (bytes : List ℕ) (c : Content)
    → meaning_of shape u bytes ≡ Some c → payload_fits shape (record { type_at = u; bytes = bytes }) ≡ payloads_fit shape u c

-- A payload that means nothing is not.
abbrev pub FaultyFitsNot : Type 0
FaultyFitsNot = (shape : Shape) (u : ℕ) (bytes : List ℕ) → meaning_of shape u bytes ≡ None → payload_fits shape (record { type_at = u; bytes = bytes }) ≡ false
