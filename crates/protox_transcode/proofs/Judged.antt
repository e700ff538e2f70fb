-- From the answers of the parts to what the whole run comes to.
use Rattle.std.proofs.Common.{◌≡◌, [], Bool, true, false, inl, inr, if◌then◌else◌, Result, Ok, Err, IfOk, IfErr, MatchOption, ℕ, List, length, Option, Some, ap, refl, ◌∙◌, sym, subst}
use Rattle.serde_json.specs.Data.{Data}
use Rattle.pbx_desc_records.specs.declared.file.FileDescriptorProto.{FileDescriptorProto}
use Rattle.pbx_json_meaning.specs.declared.options.SerializeOptions.{SerializeOptions}
use Rattle.protox_file_sources.specs.Library.{Library}
use Rattle.protox_file_sources.specs.Told.{Told, ByLookups}
use Rattle.protox_file_error.specs.Errors.{IsWhole}
use Rattle.protox_file_error.specs.declared.error.ErrorKind.{ErrorKind}
use Rattle.protox_file_error.specs.declared.error.ErrorKind.TheVariants as kinds
use Rattle.protox_compile_walk.specs.Walk.{Done, records}
use Rattle.protox_compile_walk.specs.Opening.{Accepted, closure}
use Rattle.protox_compile_walk.specs.Refusals.{HasOpeningCause}
use Rattle.protox_compile.specs.State.{most_files}
use Rattle.protox_compile.specs.Sets.{IsUndecodable}
use Rattle.protox_compile.specs.Compiling.{AreCompiled, Compiles, StopsCompiling, HasCompilingCause}
use Rattle.protox_transcode.specs.Top.{ForFiles, IsCaused, IsJudged, IsRefused, IsStopped, IsTranscoded, Refuses, is_memory, of_error}
use Rattle.protox_transcode.specs.declared.error.TopError.{TopError}
use Rattle.protox_transcode.specs.declared.error.TopError.TheVariants as top

-- two facts of a result give another
pub ok_both : {X E : Type 0} {P Q S : X → Type 0} (r : Result X E) → ((x : X) → P x → Q x → S x) → IfOk r P → IfOk r Q → IfOk r S
ok_both (Ok x) f p q = f x p q
ok_both (Err e) f p q = tt

pub ok_of : {X E : Type 0} (P : X → Type 0) (r : Result X E) (x : X) → r ≡ Ok x → IfOk r P → P x
ok_of {X = X} {E = E} P r x e h = let Q : Result X E → Type 0 = λ y. IfOk y P in subst Q e h

pub err_of : {X E : Type 0} (P : E → Type 0) (r : Result X E) (x : E) → r ≡ Err x → IfErr r P → P x
err_of {X = X} {E = E} P r x e h = let Q : Result X E → Type 0 = λ y. IfErr y P in subst Q e h

pub some_of : {X : Type 0} (N : Type 0) (P : X → Type 0) (o : Option X) (x : X) → o ≡ Some x → MatchOption o N P → P x
some_of {X = X} N P o x e h = let Q : Option X → Type 0 = λ y. MatchOption y N P in subst Q e h

-- ---- what opening all paths answers

not_memory : {P : Type 0} (error : ErrorKind) → is_memory error ≡ false → error ≡ kinds.NoMemory → P
not_memory error e memory = let no : true ≡ false = sym (ap is_memory memory) ∙ e in absurd (cc)

-- why the paths were not opened
pub stopped : (library : Library) (paths : List (List ℕ)) (name : List ℕ) (tree : Data) (error : ErrorKind) → StopsCompiling library paths error
    → Refuses library.files library.resolves paths name tree (of_error error)
stopped library paths name tree error h = at (is_memory error) refl
  where
    at : (b : Bool) → is_memory error ≡ b → Refuses library.files library.resolves paths name tree (if b then top.NoMemory else top.File error)
    at true e = tt
    at false e = elim h [ inl memory ↦ not_memory error e memory | inr walk ↦ inl walk ]

-- the files that are there are those of the paths
pub accepted : (library : Library) (paths : List (List ℕ)) (now : List Done) → Compiles library paths (λ done. now ≡ done)
    → ByLookups library.files (λ ls. closure ls library.resolves most_files paths [] ≡ (now, Accepted))
accepted library paths now h =
    let P : List Done → Type 0 = λ d. closure h.0 library.resolves most_files paths [] ≡ (d, Accepted) in
    (h.0, h.1, subst P (sym h.2.2) h.2.1)

module _ (told : List ℕ → Told) (resolves : List ℕ → Option (List ℕ)) (paths : List (List ℕ)) (later : List Done) (all : ByLookups told (λ ls. closure ls resolves most_files paths [] ≡ (later, Accepted))) (files : List FileDescriptorProto) (is : files ≡ records later) where
  -- what is said of the files of the closure
  for_files : (P : List FileDescriptorProto → Type 0) → P files → ForFiles told resolves paths P
  for_files P h = (all.0, all.1, (later, all.2, subst P is h))

  -- what is refused among them
  pub all_refused : (name : List ℕ) (tree : Data) (error : TopError) → IsRefused name tree files error → Refuses told resolves paths name tree error
  all_refused name tree (top.File error) h = inr (for_files (λ fs. IsUndecodable fs error) h)
  all_refused name tree (top.JsonNames message key) h = for_files (λ fs. IsRefused name tree fs (top.JsonNames message key)) h
  all_refused name tree (top.WellKnownShape message) h = for_files (λ fs. IsRefused name tree fs (top.WellKnownShape message)) h
  all_refused name tree (top.TypeNotFound n) h = for_files (λ fs. IsRefused name tree fs (top.TypeNotFound n)) h
  all_refused name tree top.TooDeep h = for_files (λ fs. IsRefused name tree fs top.TooDeep) h
  all_refused name tree top.NoMemory h = tt
  all_refused name tree (top.Json e) h = for_files (λ fs. IsRefused name tree fs (top.Json e)) h

  pub all_given : (name : List ℕ) (tree : Data) (o : SerializeOptions) (set wire : List ℕ) (written : Data) → IsTranscoded name tree o files set wire written → ForFiles told resolves paths (λ fs. IsTranscoded name tree o fs set wire written)
  all_given name tree o set wire written h = for_files (λ fs. IsTranscoded name tree o fs set wire written) h

-- the files of the pool are those that opening the paths leaves
pub all_pooled : (name : List ℕ) (tree : Data) (o : SerializeOptions) (count : ℕ) (later : List Done) (files : List FileDescriptorProto) (set wire : List ℕ) (written : Data) → files ≡ records later → AreCompiled count later
    → IsTranscoded name tree o files set wire written → (dones : List Done) × AreCompiled count dones × IsTranscoded name tree o (records dones) set wire written
all_pooled name tree o count later files set wire written e compiled h =
    (later, compiled, (let P : List FileDescriptorProto → Type 0 = λ fs. IsTranscoded name tree o fs set wire written in subst P e h))

-- the cause that an error of a walk has over every resolver
pub walk_caused : (most : ℕ) (path : List ℕ) (later : List Done) (fault : ErrorKind → Type 0) (error : ErrorKind) → IsWhole error → HasOpeningCause most path later fault error → IsCaused fault (of_error error)
walk_caused most path later fault (kinds.Parse e) w h = w
walk_caused most path later fault (kinds.Check e) w h = w
walk_caused most path later fault (kinds.OpenFile name p words) w h = h
walk_caused most path later fault (kinds.FileTooLarge name) w h = tt
walk_caused most path later fault (kinds.FileInvalidUtf8 name) w h = tt
walk_caused most path later fault (kinds.FileNotFound name) w h = tt
walk_caused most path later fault (kinds.ImportNotFound file index place name) w h = tt
walk_caused most path later fault (kinds.CircularImport name cycle) w h = tt
walk_caused most path later fault (kinds.FileNotIncluded p) w h = tt
walk_caused most path later fault (kinds.FileShadowed name asked shadow) w h = tt
walk_caused most path later fault (kinds.DuplicateImport file index place name) w h = tt
walk_caused most path later fault (kinds.ImportEscapes file index place name) w h = tt
walk_caused most path later fault (kinds.Custom text is_io) w h = h
walk_caused most path later fault (kinds.NameMismatch asked declared) w h = tt
walk_caused most path later fault (kinds.FileLimit n) w h = tt
walk_caused most path later fault (kinds.Undecodable file) w h = tt
walk_caused most path later fault kinds.NoMemory w h = tt

pub compiling_caused : (paths : List (List ℕ)) (fault : ErrorKind → Type 0) (error : ErrorKind) → IsWhole error → HasCompilingCause paths fault error → IsCaused fault (of_error error)
compiling_caused paths fault error w (inl memory) = let P : ErrorKind → Type 0 = λ e. IsCaused fault (of_error e) in subst P (sym memory) tt
compiling_caused paths fault error w (inr h) = walk_caused most_files h.1.path h.0 fault error w h.1.cause

-- an error that is told of the pool has no cause outside
pub pool_caused : (fault : ErrorKind → Type 0) (name : List ℕ) (tree : Data) (files : List FileDescriptorProto) (error : TopError) → IsRefused name tree files error → IsCaused fault error
pool_caused fault name tree files (top.File (kinds.Parse e)) h = absurd h
pool_caused fault name tree files (top.File (kinds.Check e)) h = absurd h
pool_caused fault name tree files (top.File (kinds.OpenFile file p words)) h = absurd h
pool_caused fault name tree files (top.File (kinds.FileTooLarge file)) h = absurd h
pool_caused fault name tree files (top.File (kinds.FileInvalidUtf8 file)) h = absurd h
pool_caused fault name tree files (top.File (kinds.FileNotFound file)) h = absurd h
pool_caused fault name tree files (top.File (kinds.ImportNotFound file index place n)) h = absurd h
pool_caused fault name tree files (top.File (kinds.CircularImport file cycle)) h = absurd h
pool_caused fault name tree files (top.File (kinds.FileNotIncluded p)) h = absurd h
pool_caused fault name tree files (top.File (kinds.FileShadowed file asked shadow)) h = absurd h
pool_caused fault name tree files (top.File (kinds.DuplicateImport file index place n)) h = absurd h
pool_caused fault name tree files (top.File (kinds.ImportEscapes file index place n)) h = absurd h
pool_caused fault name tree files (top.File (kinds.Custom text is_io)) h = absurd h
pool_caused fault name tree files (top.File (kinds.NameMismatch asked declared)) h = absurd h
pool_caused fault name tree files (top.File (kinds.FileLimit n)) h = absurd h
pool_caused fault name tree files (top.File (kinds.Undecodable file)) h = tt
pool_caused fault name tree files (top.File kinds.NoMemory) h = absurd h
pool_caused fault name tree files (top.JsonNames message key) h = tt
pool_caused fault name tree files (top.WellKnownShape message) h = tt
pool_caused fault name tree files (top.TypeNotFound n) h = tt
pool_caused fault name tree files top.TooDeep h = tt
pool_caused fault name tree files top.NoMemory h = tt
pool_caused fault name tree files (top.Json e) h = h.2.2.0

-- ---- over every resolver

-- why the paths were not opened
pub walk_judged : (paths : List (List ℕ)) (name : List ℕ) (tree : Data) (fault : ErrorKind → Type 0) (error : ErrorKind) → HasCompilingCause paths fault error
    → IsJudged paths name tree fault (of_error error)
walk_judged paths name tree fault error h = inl (at (is_memory error) refl)
  where
    at : (b : Bool) → is_memory error ≡ b → IsStopped paths fault (if b then top.NoMemory else top.File error)
    at true e = tt
    at false e = elim h [ inl memory ↦ not_memory error e memory | inr walk ↦ walk ]

-- why the files are refused that the compiler holds
pub pool_judged : (paths : List (List ℕ)) (fault : ErrorKind → Type 0) (name : List ℕ) (tree : Data) (later : List Done) (files : List FileDescriptorProto)
    (error : TopError) → files ≡ records later → AreCompiled (length paths) later → IsRefused name tree files error
    → IsJudged paths name tree fault error
pool_judged paths fault name tree later files error e compiled h =
    let P : List FileDescriptorProto → Type 0 = λ fs. IsRefused name tree fs error in
    inr (later, compiled, subst P e h)
