-- What holds of transcodings.
use Rattle.std.specs.Prelude.{◌≡◌, ◌≤◌, ℕ, List, [], Option, true, false}
use Rattle.serde_json.specs.Data.{Data}
use Rattle.pbx_parse.specs.declared.error.ParseError.TheVariants as parse
use Rattle.pbx_link_definitions.specs.declared.error.DescriptorError.TheVariants as check
use Rattle.pbx_json_meaning.specs.Faults.{JsonFault}
use Rattle.pbx_json_meaning.specs.declared.error.JsonError.{JsonError}
use Rattle.pbx_json_meaning.specs.declared.kind.JsonKind.TheVariants as json
use Rattle.pbx_json_meaning.specs.declared.options.SerializeOptions.{SerializeOptions}
use Rattle.protox_io.specs.Count.{Count}
use Rattle.protox_file_error.specs.declared.error.ErrorKind.{ErrorKind}
use Rattle.protox_file_error.specs.declared.error.ErrorKind.TheVariants as kinds
use Rattle.protox_file_sources.specs.Causes.{FaultCause, FaultsCause}
use Rattle.protox_file_sources.specs.Library.{Library}
use Rattle.protox_file_sources.specs.Told.{Told}
use Rattle.protox_transcode.specs.Top.{ForFiles, ForType, IsTranscoded, Refuses, IsCaused, is_refusal}
use Rattle.protox_transcode.specs.declared.error.TopError.{TopError}
use Rattle.protox_transcode.specs.declared.error.TopError.TheVariants.{File, Json}

-- Whatever is told of names and paths, what is transcoded is refused for no reason.
abbrev pub TranscodedAlone : Type 0
TranscodedAlone =
    (told : List ℕ → Told) (resolves : List ℕ → Option (List ℕ)) (paths : List (List ℕ)) (name : List ℕ) (tree : Data) (o : SerializeOptions)
    (set wire : List ℕ) (written : Data) (error : TopError)
    → is_refusal error ≡ true → ForFiles told resolves paths (λ files. IsTranscoded name tree o files set wire written)
    → Refuses told resolves paths name tree error → ⊥

-- Whatever is told of names and paths, the set, the wire bytes and the written tree are determined.
abbrev pub TranscodedOnce : Type 0
TranscodedOnce =
    (told : List ℕ → Told) (resolves : List ℕ → Option (List ℕ)) (paths : List (List ℕ)) (name : List ℕ) (tree : Data) (o : SerializeOptions)
    (set wire : List ℕ) (written : Data) (later_set later_wire : List ℕ) (later_written : Data)
    → ForFiles told resolves paths (λ files. IsTranscoded name tree o files set wire written)
    → ForFiles told resolves paths (λ files. IsTranscoded name tree o files later_set later_wire later_written)
    → (set ≡ later_set) × (wire ≡ later_wire) × (written ≡ later_written)

-- The part of an error of files that the files determine: of a fault of syntax all but its place and its words, and of a broken rule all but its place.
abbrev pub fixed_part : ErrorKind → ErrorKind
fixed_part (kinds.Parse (parse.Syntax file line column expected found)) = kinds.Parse (parse.Syntax file 0 0 [] [])
fixed_part (kinds.Check (check.Rule file place rule)) = kinds.Check (check.Rule file [] rule)
fixed_part error = error

-- the same of every error: of a fault of the tree its place, at which several rules may be broken (`KindsAreBroken`)
abbrev pub fixed_error : TopError → TopError
fixed_error (File error) = File (fixed_part error)
fixed_error (Json error) = Json (record error { kind = json.WrongKind })
fixed_error error = error

-- Two refusals of one input are one, but for what is left open: no input has two classes of refusal. A refusal is told as a call tells it, over a
-- resolver that tells these files and names; which faults it may have, and how often it had failed before and after the call, may be any.
abbrev pub RefusedOnce : Type 0
RefusedOnce =
    (library later_library : Library) (before after later_before later_after : Count) (paths : List (List ℕ)) (name : List ℕ) (tree : Data)
    (error later : TopError)
    → is_refusal error ≡ true → IsCaused (FaultCause library before after) error → Refuses library.files library.resolves paths name tree error
    → is_refusal later ≡ true → IsCaused (FaultCause later_library later_before later_after) later
    → Refuses library.files library.resolves paths name tree later
    → fixed_error error ≡ fixed_error later

-- A fault that each of several openings met is one that an opening met: an error of a call that opens paths again is told as of one that does not.
abbrev pub CausesAreTold : Type 0
CausesAreTold =
    (times : ℕ) (library : Library) (before after : Count) (error : TopError) → 1 ≤ times
    → IsCaused (FaultsCause times library before after) error → IsCaused (FaultCause library before after) error

-- Of two faults of one tree both kinds are those of rules that it breaks at their one place: so they are one where it breaks one rule there.
abbrev pub KindsAreBroken : Type 0
KindsAreBroken =
    (told : List ℕ → Told) (resolves : List ℕ → Option (List ℕ)) (paths : List (List ℕ)) (name : List ℕ) (tree : Data) (error later : JsonError)
    → Refuses told resolves paths name tree (Json error) → Refuses told resolves paths name tree (Json later)
    → ForFiles told resolves paths (λ files. ForType name files (λ shape t.
    JsonFault shape t false tree error.place error.kind × JsonFault shape t false tree error.place later.kind))
