-- From the answers of the parts to what a run comes to.
use Rattle.std.proofs.Common.{◌≡◌, ◌∷◌, ◌+◌, ◌++◌, ◌∙◌, [], ◌≤◌, ◌⊎◌, Bool, true, false, inl, inr, if◌then◌else◌, IsTrue, Result, Ok, Err, IfOk, IfErr, ℕ, List, length, map, refl, Option, Some, None, is_some, ap, sym, subst, codes}
use Rattle.std.specs.Prelude.{◌||◌}
use Rattle.std.specs.List.{list_any}
use Rattle.serde_json.specs.Data.{Data}
use Rattle.serde_json.specs.Written.{has_float, compact_text}
use Rattle.pbx_desc_records.specs.declared.file.FileDescriptorProto.{FileDescriptorProto}
use Rattle.pbx_json_meaning.specs.Laws.{CanonicalIsPlain}
use Rattle.pbx_json_meaning.specs.declared.options.SerializeOptions.{SerializeOptions}
use Rattle.pbx_link_meaning.specs.Shapes.{shape_of, place_of}
use Rattle.pbx_wkt_files.specs.Files.{wkt_files}
use Rattle.protox_io.specs.Count.{Count, RoseTimes}
use Rattle.protox_io.specs.Disk.{Volume, untold}
use Rattle.protox_file_error.specs.Errors.{IsWhole}
use Rattle.protox_file_error.specs.declared.error.ErrorKind.{ErrorKind}
use Rattle.protox_file_error.specs.declared.error.ErrorKind.TheVariants as kinds
use Rattle.protox_file_sources.specs.Causes.{IsNamedFault, FaultsCause}
use Rattle.protox_file_sources.specs.Library.{Library, below, pooled, may_fail_at, never}
use Rattle.protox_io.specs.FileNames.{joined, resolved}
use Rattle.protox_file_sources.specs.Told.{ByLookups, Entry}
use Rattle.protox_file.specs.Listed.{listed_files}
use Rattle.std.specs.Option.{option_or}
use Rattle.protox_file.specs.Chained.{first_resolved}
use Rattle.protox_file.specs.Standard.{Folders, standard}
use Rattle.protox_compile.specs.Repeats.{repeats}
use Rattle.protox_compile.proofs.Repeats.{repeats_alike}
use Rattle.protox_compile_walk.specs.Walk.{Done, records}
use Rattle.protox_compile_walk.specs.Opening.{Accepted, closure}
use Rattle.protox_compile.specs.State.{most_files}
use Rattle.protox_compile.specs.Sets.{IsUndecodable, IsUnencodable}
use Rattle.protox_compile.specs.Compiling.{StopsWalk, StopsCompiling, HasCompilingCause}
use Rattle.protox_transcode.specs.Json.{json_of}
use Rattle.protox_transcode.specs.Top.{ForFiles, IsCaused, IsTranscoded, Refuses, RefusesFiles, is_fault, is_memory, is_refusal, of_error}
use Rattle.protox_transcode.specs.declared.error.TopError.{TopError}
use Rattle.protox_transcode.specs.declared.error.TopError.TheVariants as top
use Rattle.protox_compile.proofs.Standard.{of_counts}
use Rattle.protox_transcode.proofs.Determined.{no_fault}
use Rattle.protox_transcode.proofs.Judged.{compiling_caused}
use Rattle.protox_transcode.proofs.Tries.{caused_then}
use Rattle.protox_generate.specs.Summary.{RefusesNumber}
use Rattle.protox_words.specs.Words.{Args, folders, retries_of}
use Rattle.protox_run.specs.Class.{limit, folder_files, set_at, IsStoredSet, IsLibrary, LacksSet, options_of, Write, Refusing, write_to, Ending, Transcoded, RefusedWith, IsWholeError, RefusesSet, RefusedSet, set_of, Task, Generate, Transcode, Compile, task, ComesTo, Judges, is_transcode, reads_input, repeated_by, repeated_of, resolves_by, resolves_of}
use Rattle.protox_run.specs.Stops.{Input, Reading, Writing, Printing, IsFaultLineBy, IsToldFaultLineBy, openings_by}
use Rattle.protox_run.specs.Parts.{IsInputStop, IsStopOf, IsTranscodingStop, IsSetRefusal, IsJobRefusal, RefusesJob, HandsOn, IsFileStop, IsFileCause, IsReadStop, IsReadCause, IsGeneratedStop, PlanStops}
use Rattle.protox_run.specs.declared.files.Job.{Job}
use Rattle.protox_run.specs.declared.files.Job.TheVariants as jobs
use Rattle.protox_run.specs.Told.{Stop, Words, Refused, Broken, NoMemory, stop_told}
use Rattle.protox_run.specs.declared.carry.Ready.{Ready as ReadyHeld}
use Rattle.protox_run.specs.declared.stop.Stop.{Stop as StopHeld}
use Rattle.protox_run.specs.declared.stop.Refusal.TheVariants.{TooLong, NotJson, Top}

pub ok_of : {X E : Type 0} (P : X → Type 0) (r : Result X E) (x : X) → r ≡ Ok x → IfOk r P → P x
ok_of {X = X} {E = E} P r x e h = let Q : Result X E → Type 0 = λ y. IfOk y P in subst Q e h

pub err_of : {X E : Type 0} (P : E → Type 0) (r : Result X E) (x : E) → r ≡ Err x → IfErr r P → P x
err_of {X = X} {E = E} P r x e h = let Q : Result X E → Type 0 = λ y. IfErr y P in subst Q e h

-- two facts of a result give another
pub ok_both : {X E : Type 0} {P Q S : X → Type 0} (r : Result X E) → ((x : X) → P x → Q x → S x) → IfOk r P → IfOk r Q → IfOk r S
ok_both (Ok x) f p q = f x p q
ok_both (Err e) f p q = tt

pub err_then : {X E : Type 0} {P Q : E → Type 0} (r : Result X E) → ((e : E) → P e → Q e) → IfErr r P → IfErr r Q
err_then (Ok x) f p = tt
err_then (Err e) f p = f e p

pub ok_then : {X E : Type 0} {P Q : X → Type 0} (r : Result X E) → ((x : X) → P x → Q x) → IfOk r P → IfOk r Q
ok_then (Ok x) f p = f x p
ok_then (Err e) f p = tt

-- what holds of what was made holds of what is handed on
pub handed : {P Q : ReadyHeld → Type 0} (made : Result ReadyHeld TopError) (r : Result ReadyHeld StopHeld) → HandsOn made r → ((ready : ReadyHeld) → P ready → Q ready) → IfOk made P → IfOk r Q
handed {P = P} (Ok x) (Ok y) h f p = f y (subst P (sym h) p)
handed (Ok x) (Err stop) h f p = absurd h
handed (Err error) (Ok y) h f p = absurd h
handed (Err error) (Err stop) h f p = tt

-- what holds of an error gives what holds of its stop
pub stopped_by : {P : TopError → Type 0} {Q : Stop → Type 0} (made : Result ReadyHeld TopError) (r : Result ReadyHeld StopHeld) → HandsOn made r
    → ((error : TopError) (stop : Stop) → IsStopOf error stop → P error → Q stop) → IfErr made P → IfErr r (λ stop. Q (stop_told stop))
stopped_by (Ok x) (Ok y) h f p = tt
stopped_by (Ok x) (Err stop) h f p = absurd h
stopped_by (Err error) (Ok y) h f p = absurd h
stopped_by (Err error) (Err stop) h f p = f error (stop_told stop) h p

-- two facts of an error are one
pub err_both : {X E : Type 0} (P Q : E → Type 0) (r : Result X E) → IfErr r P → IfErr r Q → IfErr r (λ e. P e × Q e)
err_both P Q (Ok x) p q = tt
err_both P Q (Err e) p q = (p, q)

pub gives : (a : Args) (name : List ℕ) (library : Library) (tree : Data) (o : SerializeOptions) (set wire : List ℕ) (written : Data) (writes : List Write) (text : List ℕ) → o ≡ options_of a → CanonicalIsPlain
    → ForFiles library.files library.resolves a.files (λ files. IsTranscoded name tree o files set wire written)
    → writes ≡ write_to a.output set ++ write_to a.wire wire → (has_float written ≡ false → text ≡ compact_text written ++ codes "\n") → Transcoded a name library tree writes text
gives a name library tree o set wire written writes text is plain h e printed =
    let told = h.2.2.transcodes in
    let P : SerializeOptions → Type 0 = λ p. ForFiles library.files library.resolves a.files (λ files. IsTranscoded name tree p files set wire written) in
    (set, wire, written, subst P is h, e, printed (plain (shape_of (records h.2.0)) (place_of told.0) told.2.0 o written told.2.5).1)

-- ---- stops

faulted : (files : List FileDescriptorProto) (error : ErrorKind) → is_fault error ≡ true → IsUndecodable files error → ⊥
faulted files (kinds.Parse e) f h = h
faulted files (kinds.Check e) f h = h
faulted files (kinds.OpenFile name path words) f h = h
faulted files (kinds.FileTooLarge name) f h = h
faulted files (kinds.FileInvalidUtf8 name) f h = h
faulted files (kinds.FileNotFound name) f h = h
faulted files (kinds.ImportNotFound file index place name) f h = h
faulted files (kinds.CircularImport name cycle) f h = h
faulted files (kinds.FileNotIncluded path) f h = h
faulted files (kinds.FileShadowed name path shadow) f h = h
faulted files (kinds.DuplicateImport file index place name) f h = h
faulted files (kinds.ImportEscapes file index place name) f h = h
faulted files (kinds.Custom text is_io) f h = h
faulted files (kinds.NameMismatch asked declared) f h = h
faulted files (kinds.FileLimit n) f h = h
faulted files (kinds.Undecodable file) f h = cc
faulted files kinds.NoMemory f h = h

fault_of : (rose : Type 0) (may : List ℕ → ErrorKind → Bool) (error : ErrorKind) → is_fault error ≡ true → IsCaused (λ e. rose × IsNamedFault may e) (top.File error)
    → rose × IsNamedFault may error
fault_of rose may (kinds.Parse e) f c = absurd (cc)
fault_of rose may (kinds.Check e) f c = absurd (cc)
fault_of rose may (kinds.OpenFile name path words) f c = c
fault_of rose may (kinds.FileTooLarge name) f c = absurd (cc)
fault_of rose may (kinds.FileInvalidUtf8 name) f c = absurd (cc)
fault_of rose may (kinds.FileNotFound name) f c = absurd (cc)
fault_of rose may (kinds.ImportNotFound file index place name) f c = absurd (cc)
fault_of rose may (kinds.CircularImport name cycle) f c = absurd (cc)
fault_of rose may (kinds.FileNotIncluded path) f c = absurd (cc)
fault_of rose may (kinds.FileShadowed name path shadow) f c = absurd (cc)
fault_of rose may (kinds.DuplicateImport file index place name) f c = absurd (cc)
fault_of rose may (kinds.ImportEscapes file index place name) f c = absurd (cc)
fault_of rose may (kinds.Custom text is_io) f c = c
fault_of rose may (kinds.NameMismatch asked declared) f c = absurd (cc)
fault_of rose may (kinds.FileLimit n) f c = absurd (cc)
fault_of rose may (kinds.Undecodable file) f c = absurd (cc)
fault_of rose may kinds.NoMemory f c = absurd c

walked : (library : Library) (paths : List (List ℕ)) (error : ErrorKind) → is_fault error ≡ true → RefusesFiles library.files library.resolves paths error → StopsWalk library paths error
walked library paths error f (inl h) = h
walked library paths error f (inr h) = absurd (faulted (records h.2.0) error f h.2.2)

-- without a type
set_walked : (args : Args) (library : Library) (error : ErrorKind) → is_fault error ≡ true → RefusesSet args library error → StopsWalk library args.files error
set_walked args library error f (inl h) = h
set_walked args library error f (inr h) = absurd (faulted (set_of args h.2.0) error f h.2.2.1)

-- a fault of the walk ends a job
job_walked : (job : Job) (args : Args) (library : Library) (error : ErrorKind) → is_fault error ≡ true → IsJobRefusal job args library (top.File error)
    → StopsWalk library args.files error
job_walked (jobs.Transcode name tree) args library error f h = walked library args.files error f h
job_walked jobs.Compile args library error f h = set_walked args library error f h

-- an error with a cause is whole
whole_of : (fault : ErrorKind → Type 0) (error : TopError) → IsCaused fault error → IsWholeError error
whole_of fault (top.File (kinds.OpenFile name path words)) h = tt
whole_of fault (top.File (kinds.Custom text is_io)) h = tt
whole_of fault (top.File (kinds.Parse x)) h = h
whole_of fault (top.File (kinds.Check x)) h = h
whole_of fault (top.File (kinds.FileTooLarge name)) h = tt
whole_of fault (top.File (kinds.FileInvalidUtf8 name)) h = tt
whole_of fault (top.File (kinds.FileNotFound name)) h = tt
whole_of fault (top.File (kinds.ImportNotFound file index place name)) h = tt
whole_of fault (top.File (kinds.CircularImport name cycle)) h = tt
whole_of fault (top.File (kinds.FileNotIncluded path)) h = tt
whole_of fault (top.File (kinds.FileShadowed name path shadow)) h = tt
whole_of fault (top.File (kinds.DuplicateImport file index place name)) h = tt
whole_of fault (top.File (kinds.ImportEscapes file index place name)) h = tt
whole_of fault (top.File (kinds.NameMismatch asked declared)) h = tt
whole_of fault (top.File (kinds.FileLimit n)) h = tt
whole_of fault (top.File (kinds.Undecodable file)) h = tt
whole_of fault (top.File kinds.NoMemory) h = tt
whole_of fault (top.JsonNames message key) h = tt
whole_of fault (top.WellKnownShape message) h = tt
whole_of fault (top.TypeNotFound n) h = tt
whole_of fault (top.Json e) h = h
whole_of fault top.TooDeep h = tt
whole_of fault top.NoMemory h = tt

-- ---- over the folders

module _ (args : Args) (none : args.descriptor_set_in ≡ None) where
  pub folder_library : (disk : Volume) → IsLibrary args.descriptor_set_in args disk (folder_files args disk)
  folder_library disk = let P : Option (List ℕ) → Type 0 = λ o. IsLibrary o args disk (folder_files args disk) in subst P (sym none) refl

  pub folder_stop : (job : Job) (disk : Volume) (error : TopError) (rose : Type 0) (stop : Stop) → IsStopOf error stop
      → IsCaused (λ e. rose × IsNamedFault (folder_files args untold).may_fail e) error → IsJobRefusal job args (folder_files args disk) error
      → IsFileStop job args disk stop
  folder_stop job disk error rose (Words fault) s k h = absurd s
  folder_stop job disk error rose (Refused TooLong) s k h = absurd s
  folder_stop job disk error rose (Refused NotJson) s k h = absurd s
  folder_stop job disk error rose (Refused (Top line)) s k h =
      inr (folder_files args disk, folder_library disk, (error, s.0, whole_of (λ e. rose × IsNamedFault (folder_files args untold).may_fail e) error k, h, s.1))
  folder_stop job disk error rose (Broken Input) s k h = absurd s
  folder_stop job disk (top.File error) rose (Broken (Reading line)) s k h =
      let P : Option (List ℕ) → Type 0 = λ o. IsToldFaultLineBy o args disk line in
      subst P (sym none) (error, (fault_of rose (folder_files args untold).may_fail error s.0 k).1, job_walked job args (folder_files args disk) error s.0 h, s.1)
  folder_stop job disk (top.JsonNames message key) rose (Broken (Reading line)) s k h = absurd s
  folder_stop job disk (top.WellKnownShape message) rose (Broken (Reading line)) s k h = absurd s
  folder_stop job disk (top.TypeNotFound n) rose (Broken (Reading line)) s k h = absurd s
  folder_stop job disk top.TooDeep rose (Broken (Reading line)) s k h = absurd s
  folder_stop job disk top.NoMemory rose (Broken (Reading line)) s k h = absurd s
  folder_stop job disk (top.Json e) rose (Broken (Reading line)) s k h = absurd s
  folder_stop job disk error rose (Broken (Writing path)) s k h = absurd s
  folder_stop job disk error rose (Broken Printing) s k h = absurd s
  folder_stop job disk error rose NoMemory s k h = tt

  pub folder_caused : (error : TopError) (rose : ℕ → Type 0) (stop : Stop) → IsStopOf error stop
      → IsCaused (λ e. rose (retries_of args + 1) × IsNamedFault (folder_files args untold).may_fail e) error → IsFileCause args rose stop
  folder_caused error rose (Words fault) s k = absurd s
  folder_caused error rose (Refused TooLong) s k = absurd s
  folder_caused error rose (Refused NotJson) s k = absurd s
  folder_caused error rose (Refused (Top line)) s k = tt
  folder_caused error rose (Broken Input) s k = absurd s
  folder_caused (top.File error) rose (Broken (Reading line)) s k =
      let f = fault_of (rose (retries_of args + 1)) (folder_files args untold).may_fail error s.0 k in
      let P : Option (List ℕ) → Type 0 = λ o. rose (openings_by o args) × IsFaultLineBy o args line in
      subst P (sym none) (f.0, (error, f.1, s.1))
  folder_caused (top.JsonNames message key) rose (Broken (Reading line)) s k = absurd s
  folder_caused (top.WellKnownShape message) rose (Broken (Reading line)) s k = absurd s
  folder_caused (top.TypeNotFound n) rose (Broken (Reading line)) s k = absurd s
  folder_caused top.TooDeep rose (Broken (Reading line)) s k = absurd s
  folder_caused top.NoMemory rose (Broken (Reading line)) s k = absurd s
  folder_caused (top.Json e) rose (Broken (Reading line)) s k = absurd s
  folder_caused error rose (Broken (Writing path)) s k = absurd s
  folder_caused error rose (Broken Printing) s k = absurd s
  folder_caused error rose NoMemory s k = tt

-- ---- over a set

-- a set never fails
no_named : (error : ErrorKind) → IsNamedFault never error → ⊥
no_named (kinds.OpenFile name path words) h = absurd (cc)
no_named (kinds.Custom text is_io) h = let no = h.1 in absurd (cc)
no_named (kinds.Parse e) h = h
no_named (kinds.Check e) h = h
no_named (kinds.FileTooLarge name) h = h
no_named (kinds.FileInvalidUtf8 name) h = h
no_named (kinds.FileNotFound name) h = h
no_named (kinds.ImportNotFound file index place name) h = h
no_named (kinds.CircularImport name cycle) h = h
no_named (kinds.FileNotIncluded path) h = h
no_named (kinds.FileShadowed name path shadow) h = h
no_named (kinds.DuplicateImport file index place name) h = h
no_named (kinds.ImportEscapes file index place name) h = h
no_named (kinds.NameMismatch asked declared) h = h
no_named (kinds.FileLimit n) h = h
no_named (kinds.Undecodable file) h = h
no_named kinds.NoMemory h = h

never_faults : (rose : Type 0) (error : ErrorKind) → is_fault error ≡ true → IsCaused (λ e. rose × IsNamedFault never e) (top.File error) → ⊥
never_faults rose error f c = no_named error (fault_of rose never error f c).1

pub set_caused_by : (args : Args) (entries : List Entry) (times : ℕ) (before now : Count) (error : TopError) (rose : ℕ → Type 0) (stop : Stop) → IsStopOf error stop
    → IsCaused (FaultsCause times (listed_files entries) before now) error → IsFileCause args rose stop
set_caused_by args entries times before now error rose (Words fault) s k = absurd s
set_caused_by args entries times before now error rose (Refused TooLong) s k = absurd s
set_caused_by args entries times before now error rose (Refused NotJson) s k = absurd s
set_caused_by args entries times before now error rose (Refused (Top line)) s k = tt
set_caused_by args entries times before now error rose (Broken Input) s k = absurd s
set_caused_by args entries times before now (top.File error) rose (Broken (Reading line)) s k = absurd (never_faults (RoseTimes times before now) error s.0 k)
set_caused_by args entries times before now (top.JsonNames message key) rose (Broken (Reading line)) s k = absurd s
set_caused_by args entries times before now (top.WellKnownShape message) rose (Broken (Reading line)) s k = absurd s
set_caused_by args entries times before now (top.TypeNotFound n) rose (Broken (Reading line)) s k = absurd s
set_caused_by args entries times before now top.TooDeep rose (Broken (Reading line)) s k = absurd s
set_caused_by args entries times before now top.NoMemory rose (Broken (Reading line)) s k = absurd s
set_caused_by args entries times before now (top.Json e) rose (Broken (Reading line)) s k = absurd s
set_caused_by args entries times before now error rose (Broken (Writing path)) s k = absurd s
set_caused_by args entries times before now error rose (Broken Printing) s k = absurd s
set_caused_by args entries times before now error rose NoMemory s k = tt

module _ (args : Args) (path : List ℕ) (some : args.descriptor_set_in ≡ Some path) where
  pub set_library : (disk : Volume) (entries : List Entry) → IsStoredSet (set_at disk path) entries
      → IsLibrary args.descriptor_set_in args disk (listed_files entries)
  set_library disk entries stored =
      let P : Option (List ℕ) → Type 0 = λ o. IsLibrary o args disk (listed_files entries) in subst P (sym some) (entries, stored, refl)

  pub set_stop : (job : Job) (disk : Volume) (entries : List Entry) (times : ℕ) (before now : Count) (error : TopError) (stop : Stop) → IsStoredSet (set_at disk path) entries
      → IsStopOf error stop → IsCaused (FaultsCause times (listed_files entries) before now) error → IsJobRefusal job args (listed_files entries) error
      → IsFileStop job args disk stop
  set_stop job disk entries times before now error (Words fault) i s k h = absurd s
  set_stop job disk entries times before now error (Refused TooLong) i s k h = absurd s
  set_stop job disk entries times before now error (Refused NotJson) i s k h = absurd s
  set_stop job disk entries times before now error (Refused (Top line)) i s k h =
      inr (listed_files entries, set_library disk entries i, (error, s.0, whole_of (FaultsCause times (listed_files entries) before now) error k, h, s.1))
  set_stop job disk entries times before now error (Broken Input) i s k h = absurd s
  set_stop job disk entries times before now (top.File error) (Broken (Reading line)) i s k h = absurd (never_faults (RoseTimes times before now) error s.0 k)
  set_stop job disk entries times before now (top.JsonNames message key) (Broken (Reading line)) i s k h = absurd s
  set_stop job disk entries times before now (top.WellKnownShape message) (Broken (Reading line)) i s k h = absurd s
  set_stop job disk entries times before now (top.TypeNotFound n) (Broken (Reading line)) i s k h = absurd s
  set_stop job disk entries times before now top.TooDeep (Broken (Reading line)) i s k h = absurd s
  set_stop job disk entries times before now top.NoMemory (Broken (Reading line)) i s k h = absurd s
  set_stop job disk entries times before now (top.Json e) (Broken (Reading line)) i s k h = absurd s
  set_stop job disk entries times before now error (Broken (Writing to)) i s k h = absurd s
  set_stop job disk entries times before now error (Broken Printing) i s k h = absurd s
  set_stop job disk entries times before now error NoMemory i s k h = tt

  -- what was read there is no set
  pub read_stop : (job : Job) (disk : Volume) (stop : Stop) → IsReadStop path (set_at disk path) stop → IsFileStop job args disk stop
  read_stop job disk (Words fault) h = absurd h
  read_stop job disk (Refused TooLong) h = absurd h
  read_stop job disk (Refused NotJson) h = absurd h
  read_stop job disk (Refused (Top line)) h = let P : Option (List ℕ) → Type 0 = λ o. LacksSet o disk line in inl (subst P (sym some) h)
  read_stop job disk (Broken Input) h = absurd h
  read_stop job disk (Broken (Reading line)) h = let P : Option (List ℕ) → Type 0 = λ o. IsToldFaultLineBy o args disk line in subst P (sym some) h
  read_stop job disk (Broken (Writing to)) h = absurd h
  read_stop job disk (Broken Printing) h = absurd h
  read_stop job disk NoMemory h = tt

  pub read_caused : (risen : Type 0) (rose : ℕ → Type 0) (stop : Stop) → (risen → rose 1) → IsReadCause path risen stop → IsFileCause args rose stop
  read_caused risen rose (Words fault) k h = absurd h
  read_caused risen rose (Refused TooLong) k h = absurd h
  read_caused risen rose (Refused NotJson) k h = absurd h
  read_caused risen rose (Refused (Top line)) k h = tt
  read_caused risen rose (Broken Input) k h = absurd h
  read_caused risen rose (Broken (Reading line)) k h =
      let P : Option (List ℕ) → Type 0 = λ o. rose (openings_by o args) × IsFaultLineBy o args line in
      subst P (sym some) (k h.0, h.1)
  read_caused risen rose (Broken (Writing to)) k h = absurd h
  read_caused risen rose (Broken Printing) k h = absurd h
  read_caused risen rose NoMemory k h = tt

  -- a set resolves no path
  pub set_repeats : repeats (listed_files []).resolves args.files ≡ repeats (resolves_of args) args.files
  set_repeats = let P : Option (List ℕ) → Type 0 = λ o. repeats (listed_files []).resolves args.files ≡ repeats (resolves_by o args) args.files in subst P (sym some) refl

-- an error of compiling
pub set_refused : (args : Args) (library : Library) (error : ErrorKind) → StopsCompiling library args.files error → IsSetRefusal args library (of_error error)
set_refused args library error h = at (is_memory error) refl
  where
    at : (b : Bool) → is_memory error ≡ b → IsSetRefusal args library (if b then top.NoMemory else top.File error)
    at true e = tt
    at false e = elim h [ inl memory ↦ (let no : true ≡ false = sym (ap is_memory memory) ∙ e in absurd (cc)) | inr walk ↦ inl walk ]

pub set_caused : (paths : List (List ℕ)) (fault : ErrorKind → Type 0) (error : ErrorKind) → IsWhole error → HasCompilingCause paths fault error → IsCaused fault (of_error error)
set_caused paths fault error w h = compiling_caused paths fault error w h

-- an error of the set
pub unencodable_refused : (args : Args) (library : Library) (done : List Done) (error : ErrorKind) → ByLookups library.files (λ ls. closure ls library.resolves most_files args.files [] ≡ (done, Accepted))
    → is_some args.output ≡ true → IsUnencodable (set_of args done) error → IsSetRefusal args library (of_error error)
unencodable_refused args library done (kinds.Undecodable file) all given h = inr (all.0, all.1, (done, all.2, (given, h)))
unencodable_refused args library done kinds.NoMemory all given h = tt
unencodable_refused args library done (kinds.Parse e) all given h = absurd h
unencodable_refused args library done (kinds.Check e) all given h = absurd h
unencodable_refused args library done (kinds.OpenFile a b c) all given h = absurd h
unencodable_refused args library done (kinds.FileTooLarge a) all given h = absurd h
unencodable_refused args library done (kinds.FileInvalidUtf8 a) all given h = absurd h
unencodable_refused args library done (kinds.FileNotFound a) all given h = absurd h
unencodable_refused args library done (kinds.ImportNotFound a b c d) all given h = absurd h
unencodable_refused args library done (kinds.CircularImport a b) all given h = absurd h
unencodable_refused args library done (kinds.FileNotIncluded a) all given h = absurd h
unencodable_refused args library done (kinds.FileShadowed a b c) all given h = absurd h
unencodable_refused args library done (kinds.DuplicateImport a b c d) all given h = absurd h
unencodable_refused args library done (kinds.ImportEscapes a b c d) all given h = absurd h
unencodable_refused args library done (kinds.Custom a b) all given h = absurd h
unencodable_refused args library done (kinds.NameMismatch a b) all given h = absurd h
unencodable_refused args library done (kinds.FileLimit a) all given h = absurd h

pub unencodable_caused : (files : List FileDescriptorProto) (fault : ErrorKind → Type 0) (error : ErrorKind) → IsUnencodable files error → IsCaused fault (of_error error)
unencodable_caused files fault (kinds.Undecodable file) h = tt
unencodable_caused files fault kinds.NoMemory h = tt
unencodable_caused files fault (kinds.Parse e) h = absurd h
unencodable_caused files fault (kinds.Check e) h = absurd h
unencodable_caused files fault (kinds.OpenFile a b c) h = absurd h
unencodable_caused files fault (kinds.FileTooLarge a) h = absurd h
unencodable_caused files fault (kinds.FileInvalidUtf8 a) h = absurd h
unencodable_caused files fault (kinds.FileNotFound a) h = absurd h
unencodable_caused files fault (kinds.ImportNotFound a b c d) h = absurd h
unencodable_caused files fault (kinds.CircularImport a b) h = absurd h
unencodable_caused files fault (kinds.FileNotIncluded a) h = absurd h
unencodable_caused files fault (kinds.FileShadowed a b c) h = absurd h
unencodable_caused files fault (kinds.DuplicateImport a b c d) h = absurd h
unencodable_caused files fault (kinds.ImportEscapes a b c d) h = absurd h
unencodable_caused files fault (kinds.Custom a b) h = absurd h
unencodable_caused files fault (kinds.NameMismatch a b) h = absurd h
unencodable_caused files fault (kinds.FileLimit a) h = absurd h

-- ---- the disk below the folders

-- which faults a name may have does not depend on what the disk holds
same_faults : (d e : Volume) (names : List (List ℕ)) (others : List Library) (name : List ℕ) (error : ErrorKind)
    → list_any (λ (l : Library). l.may_fail name error) (map (below d) names ++ others) ≡ list_any (λ (l : Library). l.may_fail name error) (map (below e) names ++ others)
same_faults d e [] others name error = refl
same_faults d e (n ∷ ns) others name error = ap (λ b. may_fail_at (joined n name) error || b) (same_faults d e ns others name error)

named_alike : (d e : Volume) (args : Args) (error : ErrorKind) → IsNamedFault (folder_files args d).may_fail error → IsNamedFault (folder_files args e).may_fail error
named_alike d e args (kinds.OpenFile name path words) h = subst IsTrue (same_faults d e (folders args) (pooled wkt_files ∷ []) name (kinds.OpenFile name path words)) h
named_alike d e args (kinds.Custom text is_io) h = (h.0, subst IsTrue (same_faults d e (folders args) (pooled wkt_files ∷ []) h.0 (kinds.Custom text is_io)) h.1)
named_alike d e args (kinds.Parse x) h = h
named_alike d e args (kinds.Check x) h = h
named_alike d e args (kinds.FileTooLarge name) h = h
named_alike d e args (kinds.FileInvalidUtf8 name) h = h
named_alike d e args (kinds.FileNotFound name) h = h
named_alike d e args (kinds.ImportNotFound file index place name) h = h
named_alike d e args (kinds.CircularImport name cycle) h = h
named_alike d e args (kinds.FileNotIncluded path) h = h
named_alike d e args (kinds.FileShadowed name path shadow) h = h
named_alike d e args (kinds.DuplicateImport file index place name) h = h
named_alike d e args (kinds.ImportEscapes file index place name) h = h
named_alike d e args (kinds.NameMismatch asked declared) h = h
named_alike d e args (kinds.FileLimit n) h = h
named_alike d e args (kinds.Undecodable file) h = h
named_alike d e args kinds.NoMemory h = h

-- neither do the names that paths are resolved to
same_resolves : (d e : Volume) (names : List (List ℕ)) (others : List Library) (path : List ℕ)
    → first_resolved (map (below d) names ++ others) path ≡ first_resolved (map (below e) names ++ others) path
same_resolves d e [] others path = refl
same_resolves d e (n ∷ ns) others path = ap (λ r. option_or (resolved n path) r) (same_resolves d e ns others path)

-- so which paths are given again does not depend on it
pub folder_repeats : (args : Args) (disk : Volume) → args.descriptor_set_in ≡ None → repeats (folder_files args disk).resolves args.files ≡ repeats (resolves_of args) args.files
folder_repeats args disk none =
    let P : Option (List ℕ) → Type 0 = λ o. repeats (folder_files args disk).resolves args.files ≡ repeats (resolves_by o args) args.files in
    subst P (sym none)
    (repeats_alike (folder_files args disk).resolves (folder_files args untold).resolves (same_resolves disk untold (folders args) (pooled wkt_files ∷ [])) args.files)

-- a cause of the resolver is one of the disk
pub of_disk : {D : Type 0} (volume : D → Volume) (count : D → Count) (args : Args) (times : ℕ) (r s : Folders D) (disk later : D) (error : TopError)
    → r ≡ record { folders = folders args; disk = disk } → later ≡ s.disk
    → IsCaused (FaultsCause times (standard wkt_files (volume r.disk) r.folders) (count r.disk) (count s.disk)) error
    → IsCaused (λ e. RoseTimes times (count disk) (count later) × IsNamedFault (folder_files args untold).may_fail e) error
of_disk volume count args times r s disk later error is k h =
    let f : ErrorKind → Type 0 = FaultsCause times (folder_files args (volume disk)) (count disk) (count later) in
    let g : ErrorKind → Type 0 = λ e. RoseTimes times (count disk) (count later) × IsNamedFault (folder_files args untold).may_fail e in
    let each : (e : ErrorKind) → f e → g e = λ e c. (c.0, named_alike (volume disk) untold args e c.1) in
    caused_then f g error each (of_counts volume count r s disk later (folders args) (λ l before after. IsCaused (FaultsCause times l before after) error) is k h)

refusal_no_fault : (error : ErrorKind) → is_fault error ≡ true → is_refusal (top.File error) ≡ true → ⊥
refusal_no_fault error fault refusal = at (is_fault error) fault refusal
  where
    at : (b : Bool) → b ≡ true → (if b then false else true) ≡ true → ⊥
    at true e r = cc
    at false e r = cc

-- ---- what the arguments ask for

pub input_judged : (args : Args) (name : List ℕ) (disk : Volume) (input : List ℕ) (stop : Stop) → IsInputStop input stop → IsTranscodingStop args name disk input stop
input_judged args name disk input (Words fault) h = absurd h
input_judged args name disk input (Refused TooLong) h = h
input_judged args name disk input (Refused NotJson) h = h
input_judged args name disk input (Refused (Top line)) h = absurd h
input_judged args name disk input (Broken Input) h = tt
input_judged args name disk input (Broken (Reading line)) h = absurd h
input_judged args name disk input (Broken (Writing path)) h = absurd h
input_judged args name disk input (Broken Printing) h = absurd h
input_judged args name disk input NoMemory h = tt

pub tree_judged : (args : Args) (job : Job) (name : List ℕ) (disk : Volume) (input : List ℕ) (tree : Data) (stop : Stop) → length input ≤ limit → json_of input ≡ Some tree
    → ((library : Library) (line : List ℕ) → RefusesJob job args library line → RefusedWith args name library tree line) → IsFileStop job args disk stop
    → IsTranscodingStop args name disk input stop
tree_judged args job name disk input tree (Words fault) short is same h = absurd h
tree_judged args job name disk input tree (Refused TooLong) short is same h = absurd h
tree_judged args job name disk input tree (Refused NotJson) short is same h = absurd h
tree_judged args job name disk input tree (Refused (Top line)) short is same (inl lacks) = (short, (tree, is, inl lacks))
tree_judged args job name disk input tree (Refused (Top line)) short is same (inr h) = (short, (tree, is, inr (h.0, h.1, same h.0 line h.2)))
tree_judged args job name disk input tree (Broken Input) short is same h = absurd h
tree_judged args job name disk input tree (Broken (Reading line)) short is same h = (short, (tree, is, h))
tree_judged args job name disk input tree (Broken (Writing path)) short is same h = absurd h
tree_judged args job name disk input tree (Broken Printing) short is same h = absurd h
tree_judged args job name disk input tree NoMemory short is same h = tt

pub as_repeated : (a : Args) (t : Task) (found : List ℕ) → task a ≡ t → found ≡ repeated_by t a → found ≡ repeated_of a
as_repeated a t found is h = let P : Task → Type 0 = λ o. found ≡ repeated_by o a in subst P (sym is) h

pub as_task : (a : Args) (t : Task) (disk : Volume) (input : List ℕ) (ending : Ending) → task a ≡ t → ComesTo t a disk input ending → Judges a disk input ending
as_task a t disk input ending is h = let P : Task → Type 0 = λ o. ComesTo o a disk input ending in subst P (sym is) h

asked : (a : Args) (name : List ℕ) → task a ≡ Transcode name → IsTrue (reads_input a)
asked a name is = let P : Task → Type 0 = λ o. IsTrue (is_transcode o) in subst P (sym is) refl

not_asked : (a : Args) → task a ≡ Compile → IsTrue (reads_input a) → ⊥
not_asked a is t =
    let P : Task → Type 0 = λ o. IsTrue (is_transcode o) in
    let no : false ≡ true = subst P is t in
    cc

pub transcoding_stops : (a : Args) (name : List ℕ) (disk : Volume) (input : List ℕ) (stop : Stop) → task a ≡ Transcode name → IsTranscodingStop a name disk input stop → PlanStops a disk input stop
transcoding_stops a name disk input (Words fault) is h = absurd h
transcoding_stops a name disk input (Refused r) is h = as_task a (Transcode name) disk input (Refusing r) is h
transcoding_stops a name disk input (Broken Input) is h = asked a name is
transcoding_stops a name disk input (Broken (Reading line)) is h = ((λ t. (h.0, (h.1.0, h.1.1, tt))), h.1.2)
transcoding_stops a name disk input (Broken (Writing path)) is h = absurd h
transcoding_stops a name disk input (Broken Printing) is h = absurd h
transcoding_stops a name disk input NoMemory is h = tt

refused_set : (a : Args) (library : Library) (line : List ℕ) → RefusesJob jobs.Compile a library line → RefusedSet a library line
refused_set a library line (top.File error, k, w, h, l) = (error, no_fault error k, w, h, l)
refused_set a library line (top.JsonNames message key, k, w, h, l) = absurd h
refused_set a library line (top.WellKnownShape message, k, w, h, l) = absurd h
refused_set a library line (top.TypeNotFound n, k, w, h, l) = absurd h
refused_set a library line (top.Json e, k, w, h, l) = absurd h
refused_set a library line (top.TooDeep, k, w, h, l) = absurd h
refused_set a library line (top.NoMemory, k, w, h, l) = absurd (cc)

pub compiling_stops : (a : Args) (disk : Volume) (input : List ℕ) (stop : Stop) → task a ≡ Compile → IsFileStop jobs.Compile a disk stop → PlanStops a disk input stop
compiling_stops a disk input (Words fault) is h = absurd h
compiling_stops a disk input (Refused TooLong) is h = absurd h
compiling_stops a disk input (Refused NotJson) is h = absurd h
compiling_stops a disk input (Refused (Top line)) is (inl lacks) = as_task a Compile disk input (Refusing (Top line)) is (inl lacks)
compiling_stops a disk input (Refused (Top line)) is (inr h) = as_task a Compile disk input (Refusing (Top line)) is (inr (h.0, h.1, refused_set a h.0 line h.2))
compiling_stops a disk input (Broken Input) is h = absurd h
compiling_stops a disk input (Broken (Reading line)) is h = ((λ t. absurd (not_asked a is t)), h)
compiling_stops a disk input (Broken (Writing path)) is h = absurd h
compiling_stops a disk input (Broken Printing) is h = absurd h
compiling_stops a disk input NoMemory is h = tt

pub generating_stops : (a : Args) (number : ℕ) (disk : Volume) (input : List ℕ) (stop : Stop) → task a ≡ Generate number → IsGeneratedStop number stop → PlanStops a disk input stop
generating_stops a number disk input (Words fault) is h = absurd h
generating_stops a number disk input (Refused r) is h = as_task a (Generate number) disk input (Refusing r) is h
generating_stops a number disk input (Broken object) is h = absurd h
generating_stops a number disk input NoMemory is h = tt

-- an error of a number, which is a refusal or want of memory
pub number_stop : (number : ℕ) (error : TopError) (stop : Stop) → IsStopOf error stop → (is_refusal error ≡ true) ⊎ (error ≡ top.NoMemory) → RefusesNumber number error → IsGeneratedStop number stop
number_stop number error (Words fault) s k h = absurd s
number_stop number error (Refused TooLong) s k h = absurd s
number_stop number error (Refused NotJson) s k h = absurd s
number_stop number error (Refused (Top line)) s k h = (error, s.0, h, s.1)
number_stop number error (Broken Input) s k h = absurd s
number_stop number (top.File error) (Broken (Reading line)) s (inl k) h = absurd (refusal_no_fault error s.0 k)
number_stop number (top.File error) (Broken (Reading line)) s (inr k) h = absurd (cc)
number_stop number (top.JsonNames message key) (Broken (Reading line)) s k h = absurd s
number_stop number (top.WellKnownShape message) (Broken (Reading line)) s k h = absurd s
number_stop number (top.TypeNotFound n) (Broken (Reading line)) s k h = absurd s
number_stop number top.TooDeep (Broken (Reading line)) s k h = absurd s
number_stop number top.NoMemory (Broken (Reading line)) s k h = absurd s
number_stop number (top.Json e) (Broken (Reading line)) s k h = absurd s
number_stop number error (Broken (Writing path)) s k h = absurd s
number_stop number error (Broken Printing) s k h = absurd s
number_stop number error NoMemory s k h = tt
