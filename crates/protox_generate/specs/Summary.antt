-- What the files of a number and their tree come to.
use Rattle.std.specs.Prelude.{◌≡◌, ℕ, List, [], ◌∷◌, Some, codes, decimal, length}
use Rattle.std.specs.List.{concat}
use Rattle.serde_json.specs.Data.{Data}
use Rattle.serde_json.specs.Read.{read as read_text}
use Rattle.serde_json.specs.Written.{compact_text}
use Rattle.pbx_json_meaning.specs.Options.{default_writing}
use Rattle.protox_transcode.specs.Top.{ForFiles, IsTranscoded, Refuses}
use Rattle.protox_transcode.specs.declared.error.TopError.{TopError}
use Rattle.protox_transcode.specs.declared.error.TopError.TheVariants.{NoMemory}
use Rattle.protox_generate.specs.Sources.{file_name, type_name, tree_text}
use Rattle.protox_generate.specs.Files.{generated}

-- the lengths of the set, of the wire bytes and of the tree's compact text
abbrev pub summary : ℕ → List ℕ → List ℕ → List ℕ → List ℕ
summary number set wire json =
    concat (codes "generated " ∷ decimal number ∷ codes " set " ∷ decimal (length set) ∷ codes " wire " ∷ decimal (length wire)
    ∷ codes " json " ∷ decimal (length json) ∷ [])

-- this holds of the tree of a number
abbrev pub ForTreeOf : ℕ → (Data → Type 0) → Type 0
ForTreeOf number P = (tree : Data) × (read_text (tree_text number) ≡ Some tree) × P tree

-- the line is the summary of the transcoding of the tree, under the default options, over the files of the number, as a message of the last file's type
abbrev pub Summarizes : ℕ → List ℕ → Type 0
Summarizes number line = ForTreeOf number (λ tree. (set wire : List ℕ) × (written : Data)
    × ForFiles (generated number).files (generated number).resolves (file_name number ∷ [])
    (λ files. IsTranscoded (type_name number) tree default_writing files set wire written)
    × (line ≡ summary number set wire (compact_text written)))

-- why there is no summary: the files, or the tree, are refused, or want of memory
abbrev pub RefusesNumber : ℕ → TopError → Type 0
RefusesNumber number NoMemory = Unit {0}
RefusesNumber number error = ForTreeOf number (λ tree.
    Refuses (generated number).files (generated number).resolves (file_name number ∷ []) (type_name number) tree error)
