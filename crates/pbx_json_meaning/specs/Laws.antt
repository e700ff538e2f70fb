-- What is to hold of trees and contents; what is proved of it so far is what a public function of the crate cites.
use Rattle.std.specs.Prelude.{◌≡◌, ◌↔◌, ℕ, Bool, true, false, List, Some, None}
use Rattle.serde_json.specs.Data.{Data}
use Rattle.serde_json.specs.Written.{has_float}
use Rattle.pbx_content.specs.Content.{Content}
use Rattle.pbx_content.specs.Sound.{IsProper, IsSound}
use Rattle.pbx_content.specs.declared.shape.Shape.{Shape}
use Rattle.pbx_json_meaning.specs.Trees.{IsOrdered, HasTexts}
use Rattle.pbx_json_meaning.specs.Named.{IsWellNamed}
use Rattle.pbx_json_meaning.specs.Stands.{Stands}
use Rattle.pbx_json_meaning.specs.Faults.{JsonFault, FirstJsonFault}
use Rattle.pbx_json_meaning.specs.Canonical.{canonical}
use Rattle.pbx_json_meaning.specs.WriteFaults.{WriteFault}
use Rattle.pbx_json_meaning.specs.Clash.{Naming, ByJsonName, ByAnyName, naming_of, name_fault}
use Rattle.pbx_json_meaning.specs.Fits.{payloads_fit}
use Rattle.pbx_json_meaning.specs.declared.kind.JsonKind.{JsonKind}
use Rattle.pbx_json_meaning.specs.declared.options.SerializeOptions.{SerializeOptions}
use Rattle.pbx_json_meaning.specs.declared.place.Step.{Step}

-- At most one content stands for a tree.
abbrev pub StandsForOne : Type 0
StandsForOne =
    (shape : Shape) (t : ℕ) (allow : Bool) (tree : Data) (c d : Content) → Stands shape t allow tree c → Stands shape t allow tree d → c ≡ d

-- A message stands for a tree exactly where the tree has no fault.
abbrev pub StandsWithoutFault : Type 0
StandsWithoutFault =
    (shape : Shape) (t : ℕ) (allow : Bool) (tree : Data) → IsProper shape → IsOrdered tree
    → ((c : Content) × Stands shape t allow tree c) ↔ ((place : List Step) (kind : JsonKind) → ¬ JsonFault shape t allow tree place kind)

-- A tree has at most one first place of a fault.
abbrev pub FirstFaultIsOnePlace : Type 0
FirstFaultIsOnePlace =
    (shape : Shape) (t : ℕ) (allow : Bool) (tree : Data) (p q : List Step) (j k : JsonKind)
    → FirstJsonFault shape t allow tree p j → FirstJsonFault shape t allow tree q k → p ≡ q

-- What is read with unknown fields denied is read with them allowed, as the same message.
abbrev pub ReadWhenAllowed : Type 0
ReadWhenAllowed = (shape : Shape) (t : ℕ) (tree : Data) (c : Content) → Stands shape t false tree c → Stands shape t true tree c

-- What a tree stands for may be held by a message of the type.
abbrev pub StandsSound : Type 0
StandsSound =
    (shape : Shape) (t : ℕ) (allow : Bool) (tree : Data) (c : Content)
    → IsProper shape → IsWellNamed shape → HasTexts tree → Stands shape t allow tree c → IsSound shape t c

-- A content has a canonical tree exactly where writing it has no fault.
abbrev pub CanonicalWithoutFault : Type 0
CanonicalWithoutFault =
    (shape : Shape) (t : ℕ) (c : Content) (o : SerializeOptions) → IsProper shape → IsSound shape t c
    → ((d : Data) × (canonical shape t c o ≡ Some d)) ↔ ((place : List Step) (kind : JsonKind) → ¬ WriteFault shape t c o place kind)

-- Where no key has two meanings while fields may be written under any name, none has two where they are written under some of these names.
abbrev pub ClearByAnyName : Type 0
ClearByAnyName = (shape : Shape) (naming : Naming) → name_fault ByAnyName shape ≡ None → name_fault naming shape ≡ None

-- Of a content that some tree stands for, each tree written under the fields' JSON names stands for it too, where no key of the shape's messages has
-- two meanings and each well-known name has its shape.
abbrev pub CanonicalStands : Type 0
CanonicalStands =
    (shape : Shape) (t : ℕ) (allow : Bool) (tree d : Data) (c : Content) (o : SerializeOptions)
    → IsProper shape → IsWellNamed shape → name_fault ByJsonName shape ≡ None → HasTexts tree → o.use_proto_field_name ≡ false
    → Stands shape t allow tree c → canonical shape t c o ≡ Some d → Stands shape t false d c

-- Of a content that some tree stands for as a message of the shape's, each tree that is written of it, under any options, stands for it too.
abbrev pub EachWrittenStands : Shape → Type 0
EachWrittenStands shape =
    (t : ℕ) (allow : Bool) (tree d : Data) (c : Content) (o : SerializeOptions)
    → HasTexts tree → Stands shape t allow tree c → canonical shape t c o ≡ Some d → Stands shape t false d c

-- The same of each shape where moreover no field's JSON name is the name of another field.
abbrev pub WrittenStands : Type 0
WrittenStands = (shape : Shape) → IsProper shape → IsWellNamed shape → name_fault ByAnyName shape ≡ None → EachWrittenStands shape

-- A content that some tree stands for has a tree under any options, where no key has two meanings under them, well-known names have their shapes, and
-- the payloads of its `Any` messages are read again.
abbrev pub FittingIsWritten : Type 0
FittingIsWritten =
    (shape : Shape) (t : ℕ) (allow : Bool) (tree : Data) (c : Content) (o : SerializeOptions) → IsProper shape → IsWellNamed shape
    → name_fault (naming_of o) shape ≡ None → HasTexts tree → Stands shape t allow tree c → payloads_fit shape t c ≡ true
    → (d : Data) × (canonical shape t c o ≡ Some d)

-- What is written is ordered as `serde_json` holds objects, and has no number with a fraction or an exponent.
abbrev pub CanonicalIsPlain : Type 0
CanonicalIsPlain =
    (shape : Shape) (t : ℕ) (c : Content) (o : SerializeOptions) (d : Data) → canonical shape t c o ≡ Some d → IsOrdered d × (has_float d ≡ false)
