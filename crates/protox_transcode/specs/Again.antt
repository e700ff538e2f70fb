-- Transcoding over the set that a transcoding gave: it comes to the same.
use Rattle.std.specs.Prelude.{◌≡◌, ℕ, List, Option}
use Rattle.serde_json.specs.Data.{Data}
use Rattle.pbx_wire.specs.declared.error.DecodeError.{DecodeError}
use Rattle.pbx_wire.specs.declared.error.DecodeError.TheVariants as faults
use Rattle.pbx_content.specs.Faults.{IsToldFault}
use Rattle.pbx_desc_encoding.specs.Sets.{set_meaning_of, IsSetFault}
use Rattle.pbx_json_meaning.specs.declared.options.SerializeOptions.{SerializeOptions}
use Rattle.protox_io.specs.Count.{Count}
use Rattle.protox_file_sources.specs.Causes.{FaultCause}
use Rattle.protox_file_sources.specs.Library.{Library}
use Rattle.protox_file_sources.specs.Told.{Entry, Told}
use Rattle.protox_file.specs.Listed.{listed_files}
use Rattle.protox_file.specs.Sets.{AreFilesIn}
use Rattle.protox_compile_walk.specs.Again.{AskFor}
use Rattle.protox_transcode.specs.Top.{ForFiles, IsTranscoded, Refuses, IsCaused}
use Rattle.protox_transcode.specs.declared.error.TopError.{TopError}
use Rattle.protox_transcode.specs.declared.error.TopError.TheVariants.{NoMemory}

-- Over a resolver of this library the paths, the type's name and the tree come to this set, these wire bytes and this tree under the options, and
-- to no others; and whatever they are refused with, as a call tells it, is want of memory.
pub record TranscodesTo (library : Library) (paths : List (List ℕ)) (name : List ℕ) (tree : Data) (o : SerializeOptions)
    (set wire : List ℕ) (written : Data) : Type 0 where
  pub comes : ForFiles library.files library.resolves paths (λ files. IsTranscoded name tree o files set wire written)
  pub once : (other_set other_wire : List ℕ) (other : Data)
      → ForFiles library.files library.resolves paths (λ files. IsTranscoded name tree o files other_set other_wire other)
      → (other_set ≡ set) × (other_wire ≡ wire) × (other ≡ written)
  pub accepted : (before after : Count) (error : TopError) → IsCaused (FaultCause library before after) error
      → Refuses library.files library.resolves paths name tree error → error ≡ NoMemory

-- What paths, a type's name and a tree come to is come to again over the files of the set's bytes, as `DescriptorSetFileResolver::decode` has them,
-- by the names that the paths ask for, with the same tree and with the one that was written: the same set, wire bytes and tree, or want of memory.
abbrev pub TranscodesAgain : Type 0
TranscodesAgain =
    (told : List ℕ → Told) (resolves : List ℕ → Option (List ℕ)) (paths names : List (List ℕ)) (name : List ℕ) (tree : Data) (o : SerializeOptions)
    (set wire : List ℕ) (written : Data) (entries : List Entry)
    → ForFiles told resolves paths (λ files. IsTranscoded name tree o files set wire written) → AskFor resolves paths names → AreFilesIn set entries
    → TranscodesTo (listed_files entries) names name tree o set wire written × TranscodesTo (listed_files entries) names name written o set wire written

-- The set is read: what `decode` is refused with is want of memory.
abbrev pub TranscodedIsRead : Type 0
TranscodedIsRead =
    (told : List ℕ → Told) (resolves : List ℕ → Option (List ℕ)) (paths : List (List ℕ)) (name : List ℕ) (tree : Data) (o : SerializeOptions)
    (set wire : List ℕ) (written : Data) (fault : DecodeError)
    → ForFiles told resolves paths (λ files. IsTranscoded name tree o files set wire written)
    → IsToldFault (set_meaning_of set) (IsSetFault set) fault → fault ≡ faults.NoMemory

-- Each path asks for a name.
abbrev pub TranscodedAskFor : Type 0
TranscodedAskFor =
    (told : List ℕ → Told) (resolves : List ℕ → Option (List ℕ)) (paths : List (List ℕ)) (name : List ℕ) (tree : Data) (o : SerializeOptions)
    (set wire : List ℕ) (written : Data)
    → ForFiles told resolves paths (λ files. IsTranscoded name tree o files set wire written)
    → (names : List (List ℕ)) × AskFor resolves paths names
