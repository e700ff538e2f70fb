-- What is transcoded over files is transcoded to the same over their set.
use Rattle.std.proofs.Common.{◌≡◌, ◌∙◌, ◌⊎◌, [], inl, inr, ℕ, List, Bool, true, false, IsTrue, Option, sym, subst, refl}
use Rattle.serde_json.specs.Data.{Data}
use Rattle.pbx_wire.specs.declared.error.DecodeError.{DecodeError}
use Rattle.pbx_wire.specs.declared.error.DecodeError.TheVariants as faults
use Rattle.pbx_content.specs.Content.{Content}
use Rattle.pbx_content.specs.Faults.{IsToldFault}
use Rattle.pbx_content.specs.declared.shape.Shape.{Shape}
use Rattle.pbx_desc_records.specs.declared.file.FileDescriptorProto.{FileDescriptorProto}
use Rattle.pbx_desc_encoding.specs.Content.{files_content}
use Rattle.pbx_desc_encoding.specs.Sets.{set_meaning_of, IsSetFault, DecodesSet}
use Rattle.pbx_link_meaning.specs.Shapes.{shape_of, place_of}
use Rattle.pbx_json_meaning.specs.declared.options.SerializeOptions.{SerializeOptions}
use Rattle.protox_io.specs.Count.{Count}
use Rattle.protox_file_error.specs.declared.error.ErrorKind.{ErrorKind}
use Rattle.protox_file_error.specs.declared.error.ErrorKind.TheVariants as kinds
use Rattle.protox_file_sources.specs.Causes.{FaultCause}
use Rattle.protox_file_sources.specs.Library.{Library, never}
use Rattle.protox_file_sources.specs.Told.{Entry, Told}
use Rattle.protox_file.specs.Listed.{listed_files}
use Rattle.protox_file.specs.Sets.{AreFilesIn}
use Rattle.protox_compile_walk.specs.Walk.{records}
use Rattle.protox_compile_walk.specs.Again.{AskFor, AcceptedAskFor, without_paths}
use Rattle.protox_compile_walk.specs.Laws.{ClosesOnce}
use Rattle.protox_compile_walk.proofs.WalkAgain.{records_kept}
use Rattle.protox_compile.specs.Again.{SetOpensAgain}
use Rattle.protox_compile.specs.State.{most_files}
use Rattle.protox_transcode.specs.Top.{ForFiles, IsCaused, IsTranscoded, Refuses, Transcodes, is_refusal}
use Rattle.protox_transcode.specs.Again.{TranscodesTo, TranscodesAgain, TranscodedIsRead, TranscodedAskFor}
use Rattle.protox_transcode.specs.declared.error.TopError.{TopError}
use Rattle.protox_transcode.specs.declared.error.TopError.TheVariants as top
use Rattle.protox_transcode.proofs.Determined.{files_once, nothing_there, refuses_not}

-- ---- the written tree in place of the tree

written_transcodes : (shape : Shape) (t : ℕ) (tree : Data) (o : SerializeOptions) (wire : List ℕ) (written : Data) → Transcodes shape t tree o wire written
    → Transcodes shape t written o wire written
written_transcodes shape t tree o wire written h = (h.0, h.6, h.2, h.3, h.4, h.5, h.6)

written_transcoded : (name : List ℕ) (tree : Data) (o : SerializeOptions) (files : List FileDescriptorProto) (set wire : List ℕ) (written : Data)
    → IsTranscoded name tree o files set wire written → IsTranscoded name written o files set wire written
written_transcoded name tree o files set wire written h = record {
  decodable = h.decodable;
  set_is = h.set_is;
  clear = h.clear;
  transcodes = (
    h.transcodes.0,
    h.transcodes.1,
    written_transcodes (shape_of files) (place_of h.transcodes.0) tree o wire written h.transcodes.2,
  );
}

-- ---- no fault comes

none : IsTrue false → ⊥
none h = cc

-- a resolver that never fails has no fault
pub unfailing : (library : Library) → library.may_fail ≡ never → (before later : Count) (error : TopError) → IsCaused (FaultCause library before later) error
    → (is_refusal error ≡ true) ⊎ (error ≡ top.NoMemory)
unfailing library same before later (top.File (kinds.Parse e)) h = inl refl
unfailing library same before later (top.File (kinds.Check e)) h = inl refl
unfailing library same before later (top.File (kinds.OpenFile a b c)) h =
    let P : (List ℕ → ErrorKind → Bool) → Type 0 = λ may. IsTrue (may a (kinds.OpenFile a b c)) in absurd (none (subst P same h.1))
unfailing library same before later (top.File (kinds.FileTooLarge a)) h = inl refl
unfailing library same before later (top.File (kinds.FileInvalidUtf8 a)) h = inl refl
unfailing library same before later (top.File (kinds.FileNotFound a)) h = inl refl
unfailing library same before later (top.File (kinds.ImportNotFound a b c d)) h = inl refl
unfailing library same before later (top.File (kinds.CircularImport a b)) h = inl refl
unfailing library same before later (top.File (kinds.FileNotIncluded a)) h = inl refl
unfailing library same before later (top.File (kinds.FileShadowed a b c)) h = inl refl
unfailing library same before later (top.File (kinds.DuplicateImport a b c d)) h = inl refl
unfailing library same before later (top.File (kinds.ImportEscapes a b c d)) h = inl refl
unfailing library same before later (top.File (kinds.Custom a b)) h =
    let P : (List ℕ → ErrorKind → Bool) → Type 0 = λ may. IsTrue (may h.1.0 (kinds.Custom a b)) in absurd (none (subst P same h.1.1))
unfailing library same before later (top.File (kinds.NameMismatch a b)) h = inl refl
unfailing library same before later (top.File (kinds.FileLimit a)) h = inl refl
unfailing library same before later (top.File (kinds.Undecodable a)) h = inl refl
unfailing library same before later (top.File kinds.NoMemory) h = absurd h
unfailing library same before later (top.JsonNames m k) h = inl refl
unfailing library same before later (top.WellKnownShape m) h = inl refl
unfailing library same before later (top.TypeNotFound n) h = inl refl
unfailing library same before later (top.Json e) h = inl refl
unfailing library same before later top.TooDeep h = inl refl
unfailing library same before later top.NoMemory h = inr refl

-- ---- over the set

-- over a resolver that never fails, what is come to is come to for certain, want of memory aside
comes_to : ClosesOnce → (library : Library) → library.may_fail ≡ never → (paths : List (List ℕ)) (name : List ℕ) (tree : Data) (o : SerializeOptions)
    (set wire : List ℕ) (written : Data)
    → ForFiles library.files library.resolves paths (λ files. IsTranscoded name tree o files set wire written)
    → TranscodesTo library paths name tree o set wire written
comes_to opens library same paths name tree o set wire written h = record {
  comes = h;
  once = λ other_set other_wire other k.
      files_once opens library.files library.resolves paths name tree o other_set other_wire other set wire written k h;
  accepted = λ before after error cause refused. only error (unfailing library same before after error cause) refused;
}
  where
    only : (error : TopError) → (is_refusal error ≡ true) ⊎ (error ≡ top.NoMemory) → Refuses library.files library.resolves paths name tree error
        → error ≡ top.NoMemory
    only error (inl refusal) refused =
        absurd (refuses_not opens library.files library.resolves paths name tree o set wire written error refusal h refused)
    only error (inr memory) refused = memory

pub transcodes_again : ClosesOnce → SetOpensAgain → TranscodesAgain
transcodes_again opens again told resolves paths names name tree o set wire written entries h asks files = (
  comes_to opens (listed_files entries) refl names name tree o set wire written there,
  comes_to opens (listed_files entries) refl names name written o set wire written
      (there.0, there.1, (there.2.0, there.2.1, written_transcoded name tree o (records there.2.0) set wire written there.2.2)),
)
  where
    there : ForFiles (listed_files entries).files (listed_files entries).resolves names (λ fs. IsTranscoded name tree o fs set wire written)
    there =
        let opened = again h.0 resolves most_files paths names h.2.0 set entries h.2.1 asks h.2.2.set_is.1 files in
        let P : List FileDescriptorProto → Type 0 = λ fs. IsTranscoded name tree o fs set wire written in
        (opened.0, opened.1, (without_paths h.2.0, opened.2, subst P (sym (records_kept h.2.0)) h.2.2))

-- ---- the set is read, and the paths have names

decoded : (set : List ℕ) (c : Content) (fault : DecodeError) → DecodesSet set c → IsToldFault (set_meaning_of set) (IsSetFault set) fault
    → fault ≡ faults.NoMemory
decoded set c fault (d, meant, same) (inl memory) = memory
decoded set c fault (d, meant, same) (inr first) = absurd (nothing_there d (sym first.0 ∙ meant))

pub transcoded_is_read : TranscodedIsRead
transcoded_is_read told resolves paths name tree o set wire written fault h k = decoded set (files_content (records h.2.0)) fault h.2.2.set_is.1 k

pub transcoded_ask_for : AcceptedAskFor → TranscodedAskFor
transcoded_ask_for asked told resolves paths name tree o set wire written h = asked h.0 resolves most_files paths [] h.2.0 h.2.1
