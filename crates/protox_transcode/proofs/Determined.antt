-- What an input is transcoded to is determined, and it is refused for no reason.
use Rattle.std.proofs.Common.{◌≡◌, ◌∙◌, ◌++◌, ◌∷◌, [], inl, inr, ℕ, List, true, false, Bool, if◌then◌else◌, Option, Some, None, ap, sym, subst, refl}
use Rattle.serde_json.specs.Data.{Data}
use Rattle.pbx_content.specs.Encoding.{encoded}
use Rattle.pbx_content.specs.declared.shape.Shape.{Shape}
use Rattle.pbx_desc_records.specs.declared.file.FileDescriptorProto.{FileDescriptorProto}
use Rattle.pbx_desc_records.specs.declared.message.DescriptorProto.{DescriptorProto}
use Rattle.pbx_link_meaning.specs.Descriptors.{Described, message_of_name}
use Rattle.pbx_json_meaning.specs.Canonical.{canonical}
use Rattle.pbx_json_meaning.specs.Clash.{ByAnyName, name_fault}
use Rattle.pbx_json_meaning.specs.declared.names_fault.NameFault.{NameFault}
use Rattle.pbx_json_meaning.specs.declared.names_fault.NameFault.TheVariants as names
use Rattle.pbx_json_meaning.specs.declared.options.SerializeOptions.{SerializeOptions}
use Rattle.pbx_json_meaning.specs.Fits.{fits}
use Rattle.pbx_link_meaning.specs.Shapes.{shape_of, place_of}
use Rattle.pbx_parse.specs.declared.error.ParseError.TheVariants as parse
use Rattle.protox_file_sources.specs.Told.{Told, Lookup, ByLookups}
use Rattle.protox_file_error.specs.declared.error.ErrorKind.{ErrorKind}
use Rattle.protox_file_error.specs.declared.error.ErrorKind.TheVariants as kinds
use Rattle.protox_compile_walk.specs.Walk.{Done, NotRead, records}
use Rattle.protox_compile_walk.specs.Opening.{Ended, Accepted, NotIncluded, Refused, IsDecided, opening, closure, after_opening, grown, root_of}
use Rattle.protox_compile_walk.specs.Refusals.{RefusesWith}
use Rattle.protox_compile_walk.specs.Closures.{StopsAt}
use Rattle.protox_compile_walk.specs.Laws.{ClosesOnce}
use Rattle.protox_compile.specs.Sets.{AreDecodable, IsUndecodable}
use Rattle.protox_compile.specs.State.{most_files}
use Rattle.protox_transcode.specs.Top.{ForFiles, ForType, HaveClearNames, IsRefused, IsTooDeep, IsTranscoded, IsUnread, Refuses, Transcodes, is_fault, is_refusal}
use Rattle.protox_transcode.specs.declared.error.TopError.{TopError}
use Rattle.protox_transcode.specs.declared.error.TopError.TheVariants as top

-- ---- a refused path keeps the paths from being accepted

abbrev pub IsStopped : List Done × Ended → Type 0
IsStopped (done, Accepted) = ⊥
IsStopped (done, NotIncluded) = Unit {0}
IsStopped (done, Refused (NotRead name)) = ⊥
IsStopped (done, Refused fault) = Unit {0}

pub stopped_by : (o p : List Done × Ended) → o ≡ p → IsStopped p → IsStopped o
stopped_by o p e h = let P : List Done × Ended → Type 0 = λ x. IsStopped x in subst P (sym e) h

pub stopped : (path : List ℕ) (root : Option (List ℕ × Option (List ℕ))) (files : (List ℕ → Lookup) → List Done) (o : (List ℕ → Lookup) → List Done × Ended) (lookups : List ℕ → Lookup) (later : List Done) (error : ErrorKind) → is_fault error ≡ false → RefusesWith path root files o lookups later error → IsStopped (o lookups)
stopped path root files o lookups later (kinds.Parse (parse.Syntax file line column expected found)) f h = stopped_by (o lookups) _ h tt
stopped path root files o lookups later (kinds.Parse parse.NoMemory) f h = absurd h
stopped path root files o lookups later (kinds.Check e) f h = stopped_by (o lookups) _ h.opened_is tt
stopped path root files o lookups later (kinds.OpenFile name p fault) f h = absurd (cc)
stopped path root files o lookups later (kinds.FileTooLarge name) f h = stopped_by (o lookups) _ h tt
stopped path root files o lookups later (kinds.FileInvalidUtf8 name) f h = stopped_by (o lookups) _ h tt
stopped path root files o lookups later (kinds.FileNotFound name) f h = absurd h
stopped path root files o lookups later (kinds.ImportNotFound file index place name) f h = stopped_by (o lookups) _ h tt
stopped path root files o lookups later (kinds.CircularImport name cycle) f h = stopped_by (o lookups) _ h tt
stopped path root files o lookups later (kinds.FileNotIncluded p) f h = stopped_by (o lookups) _ h.1 tt
stopped path root files o lookups later (kinds.FileShadowed name asked shadow) f h = stopped_by (o lookups) _ h tt
stopped path root files o lookups later (kinds.DuplicateImport file index place name) f h = stopped_by (o lookups) _ h tt
stopped path root files o lookups later (kinds.ImportEscapes file index place name) f h = stopped_by (o lookups) _ h tt
stopped path root files o lookups later (kinds.Custom text is_io) f h = absurd (cc)
stopped path root files o lookups later (kinds.NameMismatch asked declared) f h = stopped_by (o lookups) _ h tt
stopped path root files o lookups later (kinds.FileLimit n) f h = stopped_by (o lookups) _ h tt
stopped path root files o lookups later (kinds.Undecodable file) f h = absurd h
stopped path root files o lookups later kinds.NoMemory f h = absurd (cc)

stays : (o : List Done × Ended) (rest : List Done → List Done × Ended) → IsStopped o → after_opening o rest ≡ o
stays (done, Accepted) rest s = absurd s
stays (done, NotIncluded) rest s = refl
stays (done, Refused fault) rest s = refl

pub decided : (o : List Done × Ended) → IsStopped o → IsDecided o.1
decided (done, Accepted) s = absurd s
decided (done, NotIncluded) s = tt
decided (done, Refused (NotRead name)) s = absurd s
decided (done, Refused _) s = tt

module _ (lookups : List ℕ → Lookup) (resolves : List ℕ → Option (List ℕ)) (n : ℕ) where
  closure_of_both : (before rest : List (List ℕ)) (old : List Done) → closure lookups resolves n (before ++ rest) old ≡ after_opening (closure lookups resolves n before old) (closure lookups resolves n rest)
  closure_of_both [] rest old = refl
  closure_of_both (p ∷ ps) rest old = at (λ done. closure_of_both ps rest done) (opening lookups resolves n p old)
    where
      at : ((done : List Done) → closure lookups resolves n (ps ++ rest) done ≡ after_opening (closure lookups resolves n ps done) (closure lookups resolves n rest)) → (o : List Done × Ended) → after_opening o (closure lookups resolves n (ps ++ rest)) ≡ after_opening (after_opening o (closure lookups resolves n ps)) (closure lookups resolves n rest)
      at later (done, Accepted) = later done
      at later (done, NotIncluded) = refl
      at later (done, Refused fault) = refl

  -- the paths come to what the refused one comes to
  pub stopped_whole : (paths : List (List ℕ)) (later : List Done) (error : ErrorKind) → is_fault error ≡ false → (s : StopsAt lookups resolves n paths [] later error) → closure lookups resolves n paths [] ≡ opening lookups resolves n s.path s.middle
  stopped_whole paths later error f s =
      ap (λ ps. closure lookups resolves n ps []) s.split ∙ closure_of_both s.before (s.path ∷ s.after) [] ∙ ap (λ x. after_opening x (closure lookups resolves n (s.path ∷ s.after))) s.accepted
      ∙ stays (opening lookups resolves n s.path s.middle) (closure lookups resolves n s.after)
      (stopped s.path (root_of resolves s.path) (λ ls. grown ls n (root_of resolves s.path) s.middle) (λ ls. opening ls resolves n s.path s.middle) lookups later error f s.refused.refused)

  stopped_all : (paths : List (List ℕ)) (later : List Done) (error : ErrorKind) → is_fault error ≡ false → StopsAt lookups resolves n paths [] later error → IsStopped (closure lookups resolves n paths [])
  stopped_all paths later error f s =
      stopped_by (closure lookups resolves n paths []) (opening lookups resolves n s.path s.middle) (stopped_whole paths later error f s)
      (stopped s.path (root_of resolves s.path) (λ ls. grown ls n (root_of resolves s.path) s.middle) (λ ls. opening ls resolves n s.path s.middle) lookups later error f s.refused.refused)

pub accepted_decided : (o : List Done × Ended) (files : List Done) → o ≡ (files, Accepted) → IsDecided o.1
accepted_decided o files e = let P : List Done × Ended → Type 0 = λ x. IsDecided x.1 in subst P (sym e) tt

-- where the paths are accepted, none is refused
pub accepted_alone : ClosesOnce → (told : List ℕ → Told) (resolves : List ℕ → Option (List ℕ)) (paths : List (List ℕ)) (P : List FileDescriptorProto → Type 0) (error : ErrorKind) → is_fault error ≡ false → ForFiles told resolves paths P
    → ByLookups told (λ ls. (later : List Done) × StopsAt ls resolves most_files paths [] later error) → ⊥
accepted_alone once told resolves paths P error f h r =
    let s : IsStopped (closure r.0 resolves most_files paths []) = stopped_all r.0 resolves most_files paths r.2.0 error f r.2.1 in
    let same : closure h.0 resolves most_files paths [] ≡ closure r.0 resolves most_files paths [] =
    once told resolves most_files paths [] h.0 r.0 h.1 r.1 (accepted_decided (closure h.0 resolves most_files paths []) h.2.0 h.2.1) (decided (closure r.0 resolves most_files paths []) s) in
    stopped_by (h.2.0, Accepted) (closure r.0 resolves most_files paths []) (sym h.2.1 ∙ same) s

-- ---- what is transcoded is refused for no reason

pub same_files : (x y : List Done) (o : List Done × Ended) → o ≡ (x, Accepted) → o ≡ (y, Accepted) → x ≡ y
same_files x y o h k = let e : (x, Accepted) ≡ (y, Accepted) = sym h ∙ k in ap (λ p. p.0) e

same_place : (a b : ℕ) (o : Option ℕ) → o ≡ Some a → o ≡ Some b → a ≡ b
same_place a b o h k = let e : Some a ≡ Some b = sym h ∙ k in cc

same_type : (d e : Described DescriptorProto) (o : Option (Described DescriptorProto)) → o ≡ Some d → o ≡ Some e → d ≡ e
same_type d e o h k = let same : Some d ≡ Some e = sym h ∙ k in cc

pub nothing_there : {X : Type 0} (x : X) → None ≡ Some x → ⊥
nothing_there x e = cc

not_both : (b : Bool) → b ≡ true → b ≡ false → ⊥
not_both b h k = let e : true ≡ false = sym h ∙ k in cc

-- no file nests too many levels, so no error tells one
pub decodable : (files : List FileDescriptorProto) (error : ErrorKind) → AreDecodable files → IsUndecodable files error → ⊥
decodable files (kinds.Parse e) fit h = absurd h
decodable files (kinds.Check e) fit h = absurd h
decodable files (kinds.OpenFile name p fault) fit h = absurd h
decodable files (kinds.FileTooLarge name) fit h = absurd h
decodable files (kinds.FileInvalidUtf8 name) fit h = absurd h
decodable files (kinds.FileNotFound name) fit h = absurd h
decodable files (kinds.ImportNotFound file index place name) fit h = absurd h
decodable files (kinds.CircularImport name cycle) fit h = absurd h
decodable files (kinds.FileNotIncluded p) fit h = absurd h
decodable files (kinds.FileShadowed name asked shadow) fit h = absurd h
decodable files (kinds.DuplicateImport file index place name) fit h = absurd h
decodable files (kinds.ImportEscapes file index place name) fit h = absurd h
decodable files (kinds.Custom text is_io) fit h = absurd h
decodable files (kinds.NameMismatch asked declared) fit h = absurd h
decodable files (kinds.FileLimit n) fit h = absurd h
decodable files (kinds.Undecodable file) fit h = nothing_there h.0 (sym fit ∙ h.1)
decodable files kinds.NoMemory fit h = absurd h

-- a content stands for the tree, so no error tells that none does
-- two facts of the type of one name are of one type
pub both_of_type : (name : List ℕ) (files : List FileDescriptorProto) (P Q : Shape → ℕ → Type 0) → ForType name files P → ForType name files Q
    → (t : ℕ) × P (shape_of files) t × Q (shape_of files) t
both_of_type name files P Q h k =
    let R : Described DescriptorProto → Type 0 = λ d. Q (shape_of files) (place_of d) in
    (place_of h.0, h.2, subst R (same_type k.0 h.0 (message_of_name files name) k.1 h.1) k.2)

-- the content that stands for the tree nests few levels, and so does every other
fits_alone : (shape : Shape) (t : ℕ) (tree : Data) (o : SerializeOptions) (wire : List ℕ) (written : Data) → Transcodes shape t tree o wire written → IsTooDeep shape t tree → ⊥
fits_alone shape t tree o wire written h k =
    let same : h.0 ≡ k.0 = (let e : Some h.0 ≡ Some k.0 = sym h.1 ∙ k.1 in cc) in
    not_both (fits shape t h.0) h.2 (ap (fits shape t) same ∙ k.2)

clear_alone : (files : List FileDescriptorProto) (fault : NameFault) → HaveClearNames files → name_fault ByAnyName (shape_of files) ≡ Some fault → ⊥
clear_alone files fault h k = nothing_there fault (sym h ∙ k)

not_refused : (name : List ℕ) (tree : Data) (o : SerializeOptions) (files : List FileDescriptorProto) (set wire : List ℕ) (written : Data) (error : TopError) → is_refusal error ≡ true → IsTranscoded name tree o files set wire written → IsRefused name tree files error → ⊥
not_refused name tree o files set wire written (top.File error) k h r = decodable files error h.decodable r
not_refused name tree o files set wire written (top.JsonNames message key) k h r = clear_alone files (names.JsonNames message key) h.clear r.1
not_refused name tree o files set wire written (top.WellKnownShape message) k h r = clear_alone files (names.WellKnownShape message) h.clear r.1
not_refused name tree o files set wire written (top.TypeNotFound n) k h r = nothing_there h.transcodes.0 (sym r.3 ∙ h.transcodes.1)
not_refused name tree o files set wire written (top.Json e) k h r =
    let both = both_of_type name files (λ shape t. Transcodes shape t tree o wire written) (λ shape t. IsUnread shape t tree e) h.transcodes r.2 in
    both.2.2 both.1.0 both.1.1
not_refused name tree o files set wire written top.TooDeep k h r =
    let both = both_of_type name files (λ shape t. Transcodes shape t tree o wire written) (λ shape t. IsTooDeep shape t tree) h.transcodes r.2 in
    fits_alone (shape_of files) both.0 tree o wire written both.1 both.2
not_refused name tree o files set wire written top.NoMemory k h r = absurd (cc)

-- the linked files are the same, by whatever look-ups
pub among : ClosesOnce → (told : List ℕ → Told) (resolves : List ℕ → Option (List ℕ)) (paths : List (List ℕ)) (P Q : List FileDescriptorProto → Type 0) (h : ForFiles told resolves paths P) → ForFiles told resolves paths Q → Q (records h.2.0)
among once told resolves paths P Q h k =
    let same : closure h.0 resolves most_files paths [] ≡ closure k.0 resolves most_files paths [] =
    once told resolves most_files paths [] h.0 k.0 h.1 k.1 (accepted_decided (closure h.0 resolves most_files paths []) h.2.0 h.2.1) (accepted_decided (closure k.0 resolves most_files paths []) k.2.0 k.2.1) in
    let R : List Done → Type 0 = λ fs. Q (records fs) in
    subst R (same_files k.2.0 h.2.0 (closure k.0 resolves most_files paths []) k.2.1 (sym same ∙ h.2.1)) k.2.2

pub no_fault : (error : ErrorKind) → is_refusal (top.File error) ≡ true → is_fault error ≡ false
no_fault error h = at (is_fault error) h
  where
    at : (b : Bool) → (if b then false else true) ≡ true → b ≡ false
    at true k = absurd (cc)
    at false k = refl

pub refuses_not : ClosesOnce → (told : List ℕ → Told) (resolves : List ℕ → Option (List ℕ)) (paths : List (List ℕ)) (name : List ℕ) (tree : Data) (o : SerializeOptions) (set wire : List ℕ) (written : Data) (error : TopError) → is_refusal error ≡ true
    → ForFiles told resolves paths (λ files. IsTranscoded name tree o files set wire written) → Refuses told resolves paths name tree error → ⊥
refuses_not once told resolves paths name tree o set wire written error k h r = at error k r
  where
    here : (Q : List FileDescriptorProto → Type 0) → ForFiles told resolves paths Q → Q (records h.2.0)
    here Q q = among once told resolves paths (λ files. IsTranscoded name tree o files set wire written) Q h q

    at : (e : TopError) → is_refusal e ≡ true → Refuses told resolves paths name tree e → ⊥
    at (top.File kind) k (inl r) = accepted_alone once told resolves paths (λ files. IsTranscoded name tree o files set wire written) kind (no_fault kind k) h r
    at (top.File kind) k (inr r) = not_refused name tree o (records h.2.0) set wire written (top.File kind) k h.2.2 (here (λ files. IsUndecodable files kind) r)
    at (top.JsonNames message key) k r = not_refused name tree o (records h.2.0) set wire written (top.JsonNames message key) k h.2.2 (here (λ files. IsRefused name tree files (top.JsonNames message key)) r)
    at (top.WellKnownShape message) k r =
        not_refused name tree o (records h.2.0) set wire written (top.WellKnownShape message) k h.2.2
        (here (λ files. IsRefused name tree files (top.WellKnownShape message)) r)
    at (top.TypeNotFound n) k r = not_refused name tree o (records h.2.0) set wire written (top.TypeNotFound n) k h.2.2 (here (λ files. IsRefused name tree files (top.TypeNotFound n)) r)
    at (top.Json e) k r = not_refused name tree o (records h.2.0) set wire written (top.Json e) k h.2.2 (here (λ files. IsRefused name tree files (top.Json e)) r)
    at top.TooDeep k r = not_refused name tree o (records h.2.0) set wire written top.TooDeep k h.2.2 (here (λ files. IsRefused name tree files top.TooDeep) r)
    at top.NoMemory k r = absurd (cc)

-- ---- what is transcoded is determined

transcodes_once : (shape : Shape) (t : ℕ) (tree : Data) (o : SerializeOptions) (wire later_wire : List ℕ) (written later_written : Data) → Transcodes shape t tree o wire written → Transcodes shape t tree o later_wire later_written → (wire ≡ later_wire) × (written ≡ later_written)
transcodes_once shape t tree o wire later_wire written later_written h k =
    let content : h.0 ≡ k.0 = (let e : Some h.0 ≡ Some k.0 = sym h.1 ∙ k.1 in cc) in
    let same : written ≡ later_written = (let e : Some written ≡ Some later_written = sym h.5 ∙ ap (λ c. canonical shape t c o) content ∙ k.5 in cc) in
    (h.4 ∙ ap (encoded shape t) content ∙ sym k.4, same)

transcoded_once : (name : List ℕ) (tree : Data) (o : SerializeOptions) (files : List FileDescriptorProto) (set wire : List ℕ) (written : Data) (later_set later_wire : List ℕ) (later_written : Data)
    → IsTranscoded name tree o files set wire written → IsTranscoded name tree o files later_set later_wire later_written
    → (set ≡ later_set) × (wire ≡ later_wire) × (written ≡ later_written)
transcoded_once name tree o files set wire written later_set later_wire later_written h k =
    let both = both_of_type name files (λ shape t. Transcodes shape t tree o wire written) (λ shape t. Transcodes shape t tree o later_wire later_written) h.transcodes k.transcodes in
    let once = transcodes_once (shape_of files) both.0 tree o wire later_wire written later_written both.1 both.2 in
    (h.set_is.0 ∙ sym k.set_is.0, once.0, once.1)

pub files_once : ClosesOnce → (told : List ℕ → Told) (resolves : List ℕ → Option (List ℕ)) (paths : List (List ℕ)) (name : List ℕ) (tree : Data) (o : SerializeOptions) (set wire : List ℕ) (written : Data) (later_set later_wire : List ℕ) (later_written : Data)
    → ForFiles told resolves paths (λ files. IsTranscoded name tree o files set wire written) → ForFiles told resolves paths (λ files. IsTranscoded name tree o files later_set later_wire later_written)
    → (set ≡ later_set) × (wire ≡ later_wire) × (written ≡ later_written)
files_once once told resolves paths name tree o set wire written later_set later_wire later_written h k =
    transcoded_once name tree o (records h.2.0) set wire written later_set later_wire later_written h.2.2
    (among once told resolves paths (λ files. IsTranscoded name tree o files set wire written) (λ files. IsTranscoded name tree o files later_set later_wire later_written) h k)
