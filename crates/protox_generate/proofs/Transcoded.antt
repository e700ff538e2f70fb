-- What the files of a number and their tree come to.
use Rattle.std.proofs.Common.{◌≡◌, ◌∷◌, ◌++◌, ◌⊎◌, [], ℕ, ◌+◌, List, true, false, Some, refl, subst, add-one}
use Rattle.serde_json.specs.Data.{Data}
use Rattle.serde_json.specs.Read.{read as read_text}
use Rattle.serde_json.specs.Written.{has_float, compact_text}
use Rattle.pbx_link_meaning.specs.Shapes.{shape_of, place_of}
use Rattle.pbx_json_meaning.specs.Laws.{CanonicalIsPlain}
use Rattle.pbx_json_meaning.specs.Options.{default_writing}
use Rattle.protox_io.specs.Count.{Count}
use Rattle.protox_file_sources.specs.Causes.{FaultCause}
use Rattle.protox_compile_walk.specs.Walk.{records}
use Rattle.protox_transcode.specs.Top.{ForFiles, IsCaused, IsTranscoded, Refuses, is_refusal}
use Rattle.protox_transcode.specs.declared.error.TopError.{TopError}
use Rattle.protox_transcode.specs.declared.error.TopError.TheVariants as top
use Rattle.protox_transcode.proofs.Again.{unfailing}
use Rattle.protox_generate.specs.Sources.{file_name, type_name, source, tree_text, files_to}
use Rattle.protox_generate.specs.Files.{sources}
use Rattle.protox_generate.specs.Summary.{summary, Summarizes, RefusesNumber}

-- one more file
pub file_more : (k : ℕ) (so_far more : List (List ℕ × List ℕ)) (name text : List ℕ) → so_far ≡ files_to k → name ≡ file_name (k + 1) → text ≡ source (k + 1)
    → more ≡ so_far ++ (name, text) ∷ [] → more ≡ files_to (k + 1)
unfolding files_to
file_more k so_far more name text s n t is = rw (is, s, n, t, add-one) refl

module _ (number : ℕ) (files : List (List ℕ × List ℕ)) (tree : Data) (all : files ≡ files_to number) (read : read_text (tree_text number) ≡ Some tree) where
  pub summarized : (written : Data) (set wire line : List ℕ) → CanonicalIsPlain
      → ForFiles (sources files).files (sources files).resolves (file_name number ∷ []) (λ fs. IsTranscoded (type_name number) tree default_writing fs set wire written)
      → (has_float written ≡ false → line ≡ summary number set wire (compact_text written)) → Summarizes number line
  summarized written set wire line plain h printed =
      let told = h.2.2.transcodes in
      let P : List (List ℕ × List ℕ) → Type 0 = λ fs. ForFiles (sources fs).files (sources fs).resolves (file_name number ∷ []) (λ f. IsTranscoded (type_name number) tree default_writing f set wire written) in
      (tree, read, (set, wire, written, subst P all h, printed (plain (shape_of (records h.2.0)) (place_of told.0) told.2.0 default_writing written told.2.5).1))

  pub refused : (error : TopError) → Refuses (sources files).files (sources files).resolves (file_name number ∷ []) (type_name number) tree error → RefusesNumber number error
  refused (top.File error) h = (tree, read, (let P : List (List ℕ × List ℕ) → Type 0 = λ fs. Refuses (sources fs).files (sources fs).resolves (file_name number ∷ []) (type_name number) tree (top.File error) in subst P all h))
  refused (top.JsonNames m k) h = (tree, read, (let P : List (List ℕ × List ℕ) → Type 0 = λ fs. Refuses (sources fs).files (sources fs).resolves (file_name number ∷ []) (type_name number) tree (top.JsonNames m k) in subst P all h))
  refused (top.WellKnownShape m) h = (tree, read, (let P : List (List ℕ × List ℕ) → Type 0 = λ fs. Refuses (sources fs).files (sources fs).resolves (file_name number ∷ []) (type_name number) tree (top.WellKnownShape m) in subst P all h))
  refused (top.TypeNotFound n) h = (tree, read, (let P : List (List ℕ × List ℕ) → Type 0 = λ fs. Refuses (sources fs).files (sources fs).resolves (file_name number ∷ []) (type_name number) tree (top.TypeNotFound n) in subst P all h))
  refused (top.Json e) h = (tree, read, (let P : List (List ℕ × List ℕ) → Type 0 = λ fs. Refuses (sources fs).files (sources fs).resolves (file_name number ∷ []) (type_name number) tree (top.Json e) in subst P all h))
  refused top.TooDeep h = (tree, read, (let P : List (List ℕ × List ℕ) → Type 0 = λ fs. Refuses (sources fs).files (sources fs).resolves (file_name number ∷ []) (type_name number) tree top.TooDeep in subst P all h))
  refused top.NoMemory h = tt

-- files that never fail to open have no fault
pub settled : (files : List (List ℕ × List ℕ)) (before later : Count) (error : TopError) → IsCaused (FaultCause (sources files) before later) error
    → (is_refusal error ≡ true) ⊎ (error ≡ top.NoMemory)
settled files before later error h = unfailing (sources files) refl before later error h
