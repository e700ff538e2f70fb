-- The sets of compiled files.
use Rattle.std.proofs.Common.{◌≡◌, ◌∷◌, ◌++◌, ◌∙◌, ◌⊎◌, inl, inr, [], ℕ, suc, ◌<◌, ◌+◌, add-one, List, Bool, true, false, refl, sym, ap, subst, map, drop, drop-cons, get_or, length, find, Option, Some, None, MatchOption, Result, Ok, Err, IfOk, OnOk}
use Rattle.std.specs.Prelude.{◌||◌, not, if◌then◌else◌}
use Rattle.std.specs.List.{filter}
use Rattle.std.proofs.lemmas.List.{append_assoc}
use Rattle.pbx_desc_records.specs.declared.file.FileDescriptorProto.{FileDescriptorProto}
use Rattle.pbx_link_definitions.specs.Names.{text_or_empty}
use Rattle.pbx_link_meaning.specs.Descriptors.{FileDescribed}
use Rattle.protox_file_error.specs.declared.error.ErrorKind.{ErrorKind}
use Rattle.protox_file_error.specs.declared.error.ErrorKind.TheVariants as kinds
use Rattle.protox_file_sources.specs.Metadata.{Metadata}
use Rattle.protox_compile_walk.specs.Walk.{Done, records}
use Rattle.protox_compile_walk.specs.Compiled.{done_by, done_of, metadata_of}
use Rattle.protox_compile.specs.Sets.{with_info, listed, next_done, is_undecodable, IsUnencodable}

-- the record of a file of a pool
abbrev pub file : FileDescribed → FileDescriptorProto
file d = d.file

-- ---- files, and what is known of them beside their records

twice : (b : Bool) → not (not b) ≡ b
twice true = refl
twice false = refl

-- what is known of files, beside their records, are the files
pub done_again : (done : List Done) → done_of (map metadata_of done) (records done) ≡ done
done_again [] = refl
done_again (d ∷ ds) =
    let same : done_by (metadata_of d) d.file ≡ d = ap (λ b. record d { opened = b }) (twice d.opened) in
    ap (λ x. x ∷ done_of (map metadata_of ds) (records ds)) same ∙ ap (λ xs. d ∷ xs) (done_again ds)

pub listed_again : (known : List Metadata) (pool : List FileDescriptorProto) (done : List Done) → known ≡ map metadata_of done → pool ≡ records done → done_of known pool ≡ done
listed_again known pool done h k = ap (λ ms. done_of ms pool) h ∙ ap (done_of (map metadata_of done)) k ∙ done_again done

-- the records of a pool's files
pub files_of : (pool all : List FileDescriptorProto) → map file (map (λ f. record { pool = pool; file = f }) all) ≡ all
files_of pool [] = refl
files_of pool (f ∷ fs) = ap (λ xs. f ∷ xs) (files_of pool fs)

none_left : (ms : List Metadata) → done_of ms [] ≡ []
none_left [] = refl
none_left (m ∷ ms) = refl

-- ---- the files that a set has

one : (imports info : Bool) (m : Metadata) (r : FileDescriptorProto) (b : Bool) → (imports || not m.is_import) ≡ b
    → listed imports info (done_by m r ∷ []) ≡ (if b then with_info info r ∷ [] else [])
one imports info m r true h = rw h refl
one imports info m r false h = rw h refl

-- a file that a set has
pub listed_one : (imports info : Bool) (m : Metadata) (r : FileDescriptorProto) → (imports || not m.is_import) ≡ true
    → listed imports info (done_by m r ∷ []) ≡ with_info info r ∷ []
listed_one imports info m r h = one imports info m r true h

-- a file that a set has not
pub listed_none : (imports info : Bool) (m : Metadata) (r : FileDescriptorProto) → (imports || not m.is_import) ≡ false
    → listed imports info (done_by m r ∷ []) ≡ []
listed_none imports info m r h = one imports info m r false h

-- the first file stands before the others
pub listed_first : (imports info : Bool) (d : Done) (ds : List Done) → listed imports info (d ∷ ds) ≡ listed imports info (d ∷ []) ++ listed imports info ds
listed_first imports info d ds = at (imports || d.opened)
  where
    rest : List Done
    rest = filter (λ (x : Done). imports || x.opened) ds

    at : (b : Bool) → map (with_info info) (records (if b then d ∷ rest else rest)) ≡ map (with_info info) (records (if b then d ∷ [] else [])) ++ map (with_info info) (records rest)
    at true = refl
    at false = refl

-- what is left to be listed, behind the files that were looked at
abbrev pub left : Bool → Bool → List Metadata → ℕ → List FileDescribed → List FileDescriptorProto
left imports info ms i files = listed imports info (done_of (drop i ms) (map file files))

-- behind one more file
pub left_next : (imports info : Bool) (ms : List Metadata) (i : ℕ) (m : Metadata) (files more : List FileDescribed) (f : FileDescribed)
    → i < length ms → m ≡ get_or ms i m → files ≡ f ∷ more
    → left imports info ms i files ≡ listed imports info (done_by m f.file ∷ []) ++ left imports info ms (suc i) more
left_next imports info ms i m files more f lt is split =
    let front : drop i ms ≡ m ∷ drop (suc i) ms = drop-cons ms i m lt ∙ ap (λ (x : Metadata). x ∷ drop (suc i) ms) (sym is) in
    ap (λ (xs : List FileDescribed). left imports info ms i xs) split
    ∙ ap (λ (xs : List Metadata). listed imports info (done_of xs (f.file ∷ map file more))) front
    ∙ listed_first imports info (done_by m f.file) (done_of (drop (suc i) ms) (map file more))

-- where no file is left, nothing is
pub left_none : (imports info : Bool) (ms : List Metadata) (i j : ℕ) (files more : List FileDescribed) → files ≡ [] → more ≡ []
    → left imports info ms i files ≡ left imports info ms j more
left_none imports info ms i j files more none later =
    let empty : (k : ℕ) (fs : List FileDescribed) → fs ≡ [] → left imports info ms k fs ≡ [] = λ k fs h. ap (λ (xs : List FileDescribed). left imports info ms k xs) h ∙ ap (listed imports info) (none_left (drop k ms)) in
    empty i files none ∙ sym (empty j more later)

-- behind what is known of one more file, and its record if there is one
pub left_step : (imports info : Bool) (ms : List Metadata) (i : ℕ) (m : Metadata) (files more : List FileDescribed) (next : Option FileDescribed) → i < length ms → m ≡ get_or ms i m
    → MatchOption next ((files ≡ []) × (more ≡ [])) (λ f. files ≡ f ∷ more)
    → left imports info ms i files ≡ listed imports info (next_done m next) ++ left imports info ms (suc i) more
left_step imports info ms i m files more None lt is h = left_none imports info ms i (suc i) files more h.0 h.1
left_step imports info ms i m files more (Some f) lt is h = left_next imports info ms i m files more f lt is h

-- the same behind those that were listed
pub listed_next : (imports info : Bool) (ms : List Metadata) (i : ℕ) (m : Metadata) (files more : List FileDescribed) (next : Option FileDescribed) (front later whole : List FileDescriptorProto)
    → i < length ms → m ≡ get_or ms i m → MatchOption next ((files ≡ []) × (more ≡ [])) (λ f. files ≡ f ∷ more)
    → front ++ left imports info ms i files ≡ whole → later ≡ front ++ listed imports info (next_done m next) → later ++ left imports info ms (i + 1) more ≡ whole
listed_next imports info ms i m files more next front later whole lt is step before added =
    ap (λ n. later ++ left imports info ms n more) (add-one i)
    ∙ ap (λ xs. xs ++ left imports info ms (suc i) more) added ∙ append_assoc front (listed imports info (next_done m next)) (left imports info ms (suc i) more)
    ∙ ap (λ xs. front ++ xs) (sym (left_step imports info ms i m files more next lt is step)) ∙ before

-- ---- files that cannot be read again

-- the error of the file that was found
pub undecodable_is : (files : List FileDescriptorProto) (f : FileDescriptorProto) (error : ErrorKind) → find is_undecodable files ≡ Some f
    → (error ≡ kinds.NoMemory) ⊎ (error ≡ kinds.Undecodable (text_or_empty f.name)) → IsUnencodable files error
undecodable_is files f error found (inl memory) = let P : ErrorKind → Type 0 = λ x. IsUnencodable files x in subst P (sym memory) tt
undecodable_is files f error found (inr told) =
    let P : ErrorKind → Type 0 = λ x. IsUnencodable files x in
    subst P (sym told) (f, found, refl)

-- ---- facts of results

pub ok_then : {X E : Type 0} {P Q : X → Type 0} (r : Result X E) → ((x : X) → P x → Q x) → IfOk r P → IfOk r Q
ok_then (Ok x) f h = f x h
ok_then (Err e) f h = tt

pub on_ok : {X E : Type 0} (P : Type 0) (r : Result X E) → P → OnOk r P
on_ok P (Ok x) h = h
on_ok P (Err e) h = tt
