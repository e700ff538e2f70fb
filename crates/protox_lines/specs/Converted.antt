-- What an item is converted to, and what is wrong with one that is not (ProtoJSON Format; Protocol Buffers "Techniques": Streaming Multiple
-- Messages).
-- States: the bytes that both calls write, and the errors that name an item.
use Rattle.std.specs.Prelude.{◌≡◌, ℕ, List, ◌++◌, length, false, Option, Some, None, option_map, option_and_then, codes, if◌then◌else◌}
use Rattle.serde_json.specs.Data.{Data}
use Rattle.serde_json.specs.Written.{compact_text}
use Rattle.pbx_wire.specs.Varint.{varint}
use Rattle.pbx_wire.specs.declared.error.DecodeError.TheVariants as decode
use Rattle.pbx_content.specs.Content.{Content}
use Rattle.pbx_content.specs.Encoding.{encoded}
use Rattle.pbx_content.specs.Faults.{IsFaultOf, IsFirst}
use Rattle.pbx_content.specs.Meaning.{meaning_of}
use Rattle.pbx_content.specs.declared.shape.Shape.{Shape}
use Rattle.pbx_json_meaning.specs.Canonical.{canonical}
use Rattle.pbx_json_meaning.specs.Fits.{fits}
use Rattle.pbx_json_meaning.specs.Options.{default_writing}
use Rattle.pbx_json_meaning.specs.Stands.{content_for}
use Rattle.pbx_json_meaning.specs.WriteFaults.{WriteFault}
use Rattle.pbx_json_meaning.specs.declared.kind.JsonKind.TheVariants as json
use Rattle.protox_lines_items.specs.Told.{Convert, Faulty}
use Rattle.protox_lines_items.specs.declared.error.ItemFault.TheVariants as faults
use Rattle.protox_transcode.specs.Json.{json_of}
use Rattle.protox_transcode.specs.Top.{IsUnread, IsTooDeep}

-- ---- a line

-- the content that the text stands for
abbrev pub content_in : Shape → ℕ → List ℕ → Option Content
content_in shape t line = option_and_then (content_for shape t false) (json_of line)

-- the encoding, with its length before it
abbrev pub behind_length : List ℕ → List ℕ
behind_length bytes = varint (length bytes) ++ bytes

-- the record of a content; none where it nests too deep
abbrev pub record_of : Shape → ℕ → Content → Option (List ℕ)
record_of shape t c = if fits shape t c then Some (behind_length (encoded shape t c)) else None

abbrev pub to_record : Shape → ℕ → Convert
to_record shape t line = option_and_then (record_of shape t) (content_in shape t line)

-- what is wrong with a line that is not too long, in the order of the tests
abbrev pub IsLineFault : Shape → ℕ → Faulty
IsLineFault shape t line faults.NotJson = json_of line ≡ None
IsLineFault shape t line (faults.Json e) = (tree : Data) × (json_of line ≡ Some tree) × IsUnread shape t tree e
IsLineFault shape t line faults.TooDeep = (tree : Data) × (json_of line ≡ Some tree) × IsTooDeep shape t tree
IsLineFault shape t line _ = ⊥

-- ---- a record

-- the canonical tree of what it decodes to
abbrev pub tree_of : Shape → ℕ → List ℕ → Option Data
tree_of shape t bytes = option_and_then (λ c. canonical shape t c default_writing) (meaning_of shape t bytes)

-- its compact text and a line feed
abbrev pub to_line : Shape → ℕ → Convert
to_line shape t bytes = option_map (λ tree. compact_text tree ++ codes "\n") (tree_of shape t bytes)

-- what is wrong with a record whose bytes are all there, in the order of the tests
abbrev pub IsRecordFault : Shape → ℕ → Faulty
IsRecordFault shape t bytes (faults.Decode e) = ¬ (e ≡ decode.NoMemory) × IsFirst (meaning_of shape t bytes) (IsFaultOf shape t bytes) e
IsRecordFault shape t bytes (faults.Json e) =
    ¬ (e.kind ≡ json.NoMemory) × ((c : Content) × (meaning_of shape t bytes ≡ Some c)
    × (canonical shape t c default_writing ≡ None) × WriteFault shape t c default_writing e.place e.kind)
IsRecordFault shape t bytes _ = ⊥
