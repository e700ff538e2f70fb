-- How bytes are read as a value of a message type.
use Rattle.std.specs.Prelude.{ℕ, List, Option, option_map}
use Rattle.pbx_wire.specs.declared.error.DecodeError.{DecodeError}
use Rattle.pbx_content.specs.declared.shape.Shape.{Shape}
use Rattle.pbx_content.specs.Content.{Content, without_kept}
use Rattle.pbx_content.specs.Meaning.{meaning_of, parts_meaning_of}
use Rattle.pbx_content.specs.Faults.{IsFaultOf, IsFaultOfParts}

-- the three ways: all that the bytes mean; without the records of unknown numbers; all, where each message in a field has 100 levels of its own
pub data Decoding : Type 0 where
  Whole : Decoding
  WithoutUnknown : Decoding
  ByParts : Decoding

-- what bytes mean as a message of the type at the place, read so
abbrev pub meaning_by : Decoding → Shape → ℕ → List ℕ → Option Content
meaning_by Whole shape t bytes = meaning_of shape t bytes
meaning_by WithoutUnknown shape t bytes = option_map without_kept (meaning_of shape t bytes)
meaning_by ByParts shape t bytes = parts_meaning_of shape t bytes

-- which rule bytes break as such a message, read so, and in which record
abbrev pub IsFaultBy : Decoding → Shape → ℕ → List ℕ → DecodeError → Type 0
IsFaultBy Whole shape t bytes e = IsFaultOf shape t bytes e
IsFaultBy WithoutUnknown shape t bytes e = IsFaultOf shape t bytes e
IsFaultBy ByParts shape t bytes e = IsFaultOfParts shape t bytes e
