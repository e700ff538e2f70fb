-- What an input comes to is determined, and it is refused for no reason.
use Rattle.std.proofs.Common.{◌≡◌, ◌≤◌, ◌∙◌, ◌++◌, ◌∷◌, [], inl, inr, ℕ, List, length, true, Option, Some, None, is_some, ap, sym, subst, arith, codes}
use Rattle.serde_json.specs.Data.{Data}
use Rattle.serde_json.specs.Written.{compact_text}
use Rattle.pbx_desc_records.specs.declared.file.FileDescriptorProto.{FileDescriptorProto}
use Rattle.pbx_json_meaning.specs.Options.{default_writing}
use Rattle.protox_io.specs.Disk.{Volume, Held, Missing, Oversized, Stored}
use Rattle.pbx_desc_encoding.specs.Content.{file_set_content}
use Rattle.protox_file_sources.specs.Library.{Library}
use Rattle.protox_file_sources.specs.Told.{Entry}
use Rattle.protox_file.specs.Listed.{listed_files}
use Rattle.protox_file.specs.Laws.{SetsReadOnce}
use Rattle.protox_file.proofs.Sets.{decodes_files}
use Rattle.protox_compile_walk.specs.Walk.{Done}
use Rattle.protox_compile_walk.specs.Opening.{closure}
use Rattle.protox_compile_walk.specs.Laws.{ClosesOnce}
use Rattle.protox_compile.specs.State.{most_files}
use Rattle.protox_compile.specs.Sets.{IsUndecodable, AreDecodable}
use Rattle.protox_compile.specs.Compiling.{Compiles}
use Rattle.protox_transcode.specs.Json.{json_of}
use Rattle.protox_transcode.specs.Top.{ForFiles, IsTranscoded, Refuses}
use Rattle.protox_transcode.proofs.Determined.{accepted_decided, accepted_alone, decodable, files_once, refuses_not, same_files}
use Rattle.protox_transcode.specs.Top.{is_refusal}
use Rattle.protox_transcode.specs.declared.error.TopError.{TopError}
use Rattle.protox_transcode.specs.declared.error.TopError.TheVariants as top
use Rattle.protox_generate.specs.Sources.{file_name, type_name, tree_text}
use Rattle.protox_generate.specs.Files.{generated}
use Rattle.protox_generate.specs.Summary.{ForTreeOf, RefusesNumber, summary}
use Rattle.serde_json.specs.Read.{read as read_text}
use Rattle.protox_words.specs.Words.{Args}
use Rattle.protox_run.specs.Class.{limit, IsLibrary, LacksSet, IsStoredSet, IsNoSet, set_at, RefusedWith, RefusedSet, Transcoded, Compiled, options_of, Write, write_to, Ready, Refusing, Transcoding, Compiling, WritesSet, set_of, Generated, Generating, Task, Generate, Transcode, Compile, task, ComesTo, Judges}
use Rattle.protox_run.specs.Laws.{NoSetAlone}
use Rattle.protox_run.specs.declared.stop.Refusal.{Refusal}
use Rattle.protox_run.specs.declared.stop.Refusal.TheVariants.{TooLong, NotJson, Top}

-- the same tree
same_tree : (input : List ℕ) (a b : Data) → json_of input ≡ Some a → json_of input ≡ Some b → a ≡ b
same_tree input a b h k = let e : Some a ≡ Some b = sym h ∙ k in cc

-- the same files
among : ClosesOnce → (library : Library) (paths : List (List ℕ)) (P Q : List Done → Type 0) (h : Compiles library paths P) → Compiles library paths Q → Q h.2.0
among once library paths P Q h k =
    let same : closure h.0 library.resolves most_files paths [] ≡ closure k.0 library.resolves most_files paths [] =
    once library.files library.resolves most_files paths [] h.0 k.0 h.1 k.1
    (accepted_decided (closure h.0 library.resolves most_files paths []) h.2.0 h.2.1) (accepted_decided (closure k.0 library.resolves most_files paths []) k.2.0 k.2.1) in
    subst Q (same_files k.2.0 h.2.0 (closure k.0 library.resolves most_files paths []) k.2.1 (sym same ∙ h.2.1)) k.2.2

-- a set that is written is refused for no reason
writes_decodable : (path : Option (List ℕ)) (files : List FileDescriptorProto) (writes : List Write) → is_some path ≡ true → WritesSet path files writes → AreDecodable files
writes_decodable None files writes given h = absurd (cc)
writes_decodable (Some path) files writes given h = h.0

writes_once : (path : Option (List ℕ)) (files : List FileDescriptorProto) (writes later : List Write) → WritesSet path files writes → WritesSet path files later → writes ≡ later
writes_once None files writes later h k = h ∙ sym k
writes_once (Some path) files writes later h k =
    let set : h.1.0 ≡ k.1.0 = h.1.1.0 ∙ sym k.1.1.0 in
    h.1.2 ∙ ap (λ bytes. record { path = path; bytes = bytes } ∷ []) set ∙ sym k.1.2

-- where the files come from is one library
same_stored : SetsReadOnce → (held : Held) (es fs : List Entry) → IsStoredSet held es → IsStoredSet held fs → es ≡ fs
same_stored read Missing es fs h k = absurd h
same_stored read Oversized es fs h k = absurd h
same_stored read (Stored bytes) es fs h k = read bytes es fs h k

one_library : SetsReadOnce → (o : Option (List ℕ)) (a : Args) (disk : Volume) (some other : Library) → IsLibrary o a disk some → IsLibrary o a disk other → some ≡ other
one_library read None a disk some other h k = h ∙ sym k
one_library read (Some path) a disk some other h k = h.2 ∙ ap listed_files (same_stored read (set_at disk path) h.0 k.0 h.1 k.1) ∙ sym k.2

-- and then no set is lacking
stored_is_set : (held : Held) (es : List Entry) (path line : List ℕ) → IsStoredSet held es → IsNoSet path held line → ⊥
stored_is_set Missing es path line h n = h
stored_is_set Oversized es path line h n = h
stored_is_set (Stored bytes) es path line h n = let decodes = decodes_files bytes es h in let none : None ≡ Some (file_set_content decodes.0) = sym n.0 ∙ decodes.1 in cc

lacks_none : (o : Option (List ℕ)) (a : Args) (disk : Volume) (library : Library) (line : List ℕ) → IsLibrary o a disk library → LacksSet o disk line → ⊥
lacks_none None a disk library line h n = n
lacks_none (Some path) a disk library line h n = stored_is_set (set_at disk path) h.0 path line h.1 n

pub no_set_alone : NoSetAlone
no_set_alone a disk line n h = lacks_none a.descriptor_set_in a disk h.0 line h.1 n

module _ (once : ClosesOnce) (a : Args) where
  -- over one library
  compiled_not : (library : Library) (writes : List Write) (text line : List ℕ) → Compiled a library writes text → RefusedSet a library line → ⊥
  compiled_not library writes text line h r = elim r.3 [
    | inl walk ↦ accepted_alone once library.files library.resolves a.files (λ files. Unit {0}) r.0 r.1 (h.0.0, h.0.1, (h.0.2.0, h.0.2.1, tt)) walk
    | inr deep ↦ (let both = among once library a.files (λ done. WritesSet a.output (set_of a done) writes) (λ done. (is_some a.output ≡ true) × IsUndecodable (set_of a done) r.0) h.0 deep in
        decodable (set_of a h.0.2.0) r.0 (writes_decodable a.output (set_of a h.0.2.0) writes both.0 h.0.2.2) both.1)
  ]

  compiled_same : (library : Library) (writes later : List Write) (text other : List ℕ) → Compiled a library writes text → Compiled a library later other → (writes ≡ later) × (text ≡ other)
  compiled_same library writes later text other h k =
      let both = among once library a.files (λ done. WritesSet a.output (set_of a done) writes) (λ done. WritesSet a.output (set_of a done) later) h.0 k.0 in
      (writes_once a.output (set_of a h.0.2.0) writes later h.0.2.2 both, h.1 ∙ sym k.1)

  transcoded_not : (library : Library) (name : List ℕ) (tree : Data) (writes : List Write) (text line : List ℕ) → Transcoded a name library tree writes text → RefusedWith a name library tree line → ⊥
  transcoded_not library name tree writes text line h r =
      refuses_not once library.files library.resolves a.files name tree (options_of a) h.0 h.1 h.2 r.0 r.1 h.3 r.3

  transcoded_same : (library : Library) (name : List ℕ) (tree : Data) (writes later : List Write) (text other : List ℕ) → Transcoded a name library tree writes text → Transcoded a name library tree later other
      → (writes ≡ later) × (text ≡ other)
  transcoded_same library name tree writes later text other x y =
      let both = files_once once library.files library.resolves a.files name tree (options_of a) x.0 x.1 x.2 y.0 y.1 y.2 x.3 y.3 in (
        x.4 ∙ ap (λ set. write_to a.output set ++ write_to a.wire x.1) both.0 ∙ ap (λ wire. write_to a.output y.0 ++ write_to a.wire wire) both.1 ∙ sym y.4,
        x.5 ∙ ap (λ d. compact_text d ++ codes "\n") both.2 ∙ sym y.5,
      )

module _ (once : ClosesOnce) (read : SetsReadOnce) (a : Args) (disk : Volume) where
  one : (some other : Library) → IsLibrary a.descriptor_set_in a disk some → IsLibrary a.descriptor_set_in a disk other → some ≡ other
  one some other h k = one_library read a.descriptor_set_in a disk some other h k

  compiled_alone : (writes : List Write) (text : List ℕ) (refusal : Refusal) → Compiling a disk (Ready writes text) → Compiling a disk (Refusing refusal) → ⊥
  compiled_alone writes text TooLong h r = r
  compiled_alone writes text NotJson h r = r
  compiled_alone writes text (Top line) h (inl n) = lacks_none a.descriptor_set_in a disk h.0 line h.1 n
  compiled_alone writes text (Top line) h (inr r) =
      let P : Library → Type 0 = λ l. RefusedSet a l line in compiled_not once a h.0 writes text line h.2 (subst P (one r.0 h.0 r.1 h.1) r.2)

  compiled_once : (writes : List Write) (text : List ℕ) (later : List Write) (other : List ℕ) → Compiling a disk (Ready writes text) → Compiling a disk (Ready later other) → (writes ≡ later) × (text ≡ other)
  compiled_once writes text later other h k =
      let P : Library → Type 0 = λ l. Compiled a l later other in compiled_same once a h.0 writes later text other h.2 (subst P (one k.0 h.0 k.1 h.1) k.2)

  transcoded_alone : (name input : List ℕ) (writes : List Write) (text : List ℕ) (refusal : Refusal) → Transcoding a name disk input (Ready writes text) → Transcoding a name disk input (Refusing refusal) → ⊥
  transcoded_alone name input writes text TooLong h r = let short : length input ≤ limit = h.0 in omega (arith, short, r)
  transcoded_alone name input writes text NotJson h r = let e : None ≡ Some h.1.0 = sym r.1 ∙ h.1.1 in cc
  transcoded_alone name input writes text (Top line) h (len, (tree, is, inl n)) = lacks_none a.descriptor_set_in a disk h.1.2.0 line h.1.2.1 n
  transcoded_alone name input writes text (Top line) h (len, (tree, is, inr r)) =
      let given = h.1.2 in
      let P : Library → Type 0 = λ l. RefusedWith a name l h.1.0 line in
      let Q : Data → Type 0 = λ d. RefusedWith a name r.0 d line in
      transcoded_not once a given.0 name h.1.0 writes text line given.2 (subst P (one r.0 given.0 r.1 given.1) (subst Q (same_tree input tree h.1.0 is h.1.1) r.2))

  transcoded_once : (name input : List ℕ) (writes : List Write) (text : List ℕ) (later : List Write) (other : List ℕ) → Transcoding a name disk input (Ready writes text) → Transcoding a name disk input (Ready later other) → (writes ≡ later) × (text ≡ other)
  transcoded_once name input writes text later other h k =
      let x = h.1.2 in
      let y = k.1.2 in
      let P : Library → Type 0 = λ l. Transcoded a name l h.1.0 later other in
      let Q : Data → Type 0 = λ d. Transcoded a name y.0 d later other in
      transcoded_same once a x.0 name h.1.0 writes later text other x.2 (subst P (one y.0 x.0 y.1 x.1) (subst Q (same_tree input k.1.0 h.1.0 k.1.1 h.1.1) y.2))

-- a number
number_tree : (number : ℕ) (error : TopError) → is_refusal error ≡ true → RefusesNumber number error → ForTreeOf number (λ tree.
    Refuses (generated number).files (generated number).resolves (file_name number ∷ []) (type_name number) tree error)
number_tree number (top.File error) k h = h
number_tree number (top.JsonNames message key) k h = h
number_tree number (top.WellKnownShape message) k h = h
number_tree number (top.TypeNotFound n) k h = h
number_tree number top.TooDeep k h = h
number_tree number (top.Json e) k h = h
number_tree number top.NoMemory k h = absurd (cc)

one_tree : (number : ℕ) (a b : Data) → read_text (tree_text number) ≡ Some a → read_text (tree_text number) ≡ Some b → a ≡ b
one_tree number a b h k = let e : Some a ≡ Some b = sym h ∙ k in cc

generated_alone : ClosesOnce → (number : ℕ) (writes : List Write) (text : List ℕ) (refusal : Refusal) → Generating number (Ready writes text) → Generating number (Refusing refusal) → ⊥
generated_alone once number writes text TooLong h r = r
generated_alone once number writes text NotJson h r = r
generated_alone once number writes text (Top line) h r =
    let x = h.1.1 in
    let refused = number_tree number r.0 r.1 r.2 in
    let given = x.2 in
    let Q : Data → Type 0 = λ d. Refuses (generated number).files (generated number).resolves (file_name number ∷ []) (type_name number) d r.0 in
    refuses_not once (generated number).files (generated number).resolves (file_name number ∷ []) (type_name number) x.0 default_writing given.0 given.1 given.2 r.0 r.1 given.3
    (subst Q (one_tree number refused.0 x.0 refused.1 x.1) refused.2)

generated_once : ClosesOnce → (number : ℕ) (writes : List Write) (text : List ℕ) (later : List Write) (other : List ℕ) → Generated number writes text → Generated number later other → (writes ≡ later) × (text ≡ other)
generated_once once number writes text later other h k =
    let x = h.1.1 in
    let y = k.1.1 in
    let g = x.2 in
    let l = y.2 in
    let P : Data → Type 0 = λ d. ForFiles (generated number).files (generated number).resolves (file_name number ∷ []) (λ fs. IsTranscoded (type_name number) d default_writing fs l.0 l.1 l.2) in
    let both = files_once once (generated number).files (generated number).resolves (file_name number ∷ []) (type_name number) x.0 default_writing g.0 g.1 g.2 l.0 l.1 l.2 g.3 (subst P (one_tree number y.0 x.0 y.1 x.1) l.3) in
    let line : h.1.0 ≡ k.1.0 =
    g.4 ∙ ap (λ s. summary number s g.1 (compact_text g.2)) both.0 ∙ ap (λ w. summary number l.0 w (compact_text g.2)) both.1 ∙ ap (λ d. summary number l.0 l.1 (compact_text d)) both.2 ∙ sym l.4 in
    (h.0 ∙ sym k.0, h.1.2 ∙ ap (λ n. n ++ codes "\n") line ∙ sym k.1.2)

pub done_alone : ClosesOnce → SetsReadOnce → (args : Args) (disk : Volume) (input : List ℕ) (writes : List Write) (text : List ℕ) (refusal : Refusal) → Judges args disk input (Ready writes text) → Judges args disk input (Refusing refusal) → ⊥
done_alone once read args disk input writes text refusal h r = at (task args) h r
  where
    at : (o : Task) → ComesTo o args disk input (Ready writes text) → ComesTo o args disk input (Refusing refusal) → ⊥
    at (Generate number) h r = generated_alone once number writes text refusal h r
    at Compile h r = compiled_alone once read args disk writes text refusal h r
    at (Transcode name) h r = transcoded_alone once read args disk name input writes text refusal h r

pub done_once : ClosesOnce → SetsReadOnce → (args : Args) (disk : Volume) (input : List ℕ) (writes : List Write) (text : List ℕ) (later : List Write) (other : List ℕ) → Judges args disk input (Ready writes text) → Judges args disk input (Ready later other) → (writes ≡ later) × (text ≡ other)
done_once once read args disk input writes text later other h k = at (task args) h k
  where
    at : (o : Task) → ComesTo o args disk input (Ready writes text) → ComesTo o args disk input (Ready later other) → (writes ≡ later) × (text ≡ other)
    at (Generate number) h k = generated_once once number writes text later other h k
    at Compile h k = compiled_once once read args disk writes text later other h k
    at (Transcode name) h k = transcoded_once once read args disk name input writes text later other h k
