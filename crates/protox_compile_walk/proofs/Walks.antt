-- The turns of a walk.
use Rattle.std.proofs.Common.{◌≡◌, ◌∷◌, ◌∙◌, [], ℕ, List, true, false, length, ap, subst, sym, OnOk, IfErr}
use Rattle.std.specs.Prelude.{nat_lt, Result, Ok, Err}
use Rattle.std.specs.Str.{bytes_eq}
use Rattle.protox_file_sources.specs.Told.{Told, ByLookups}
use Rattle.protox_file_error.specs.declared.error.ErrorKind.{ErrorKind}
use Rattle.protox_file_error.specs.declared.error.ErrorKind.TheVariants.{Check, OpenFile, Custom, NoMemory}
use Rattle.protox_compile_walk.specs.Walk.{Done, Open, Finished, records, imports_of, declared_name, is_done}
use Rattle.protox_compile_walk.specs.Refusals.{Walk, Ends, HasStepCause}
use Rattle.protox_compile_walk.specs.Compiled.{IsUnlinked}
use Rattle.protox_compile_walk.specs.Resume.{past, IsVisit, AdvancesOrVisits, Follows, EndsWalks, LeadsTo}
use Rattle.protox_compile_walk.specs.declared.step.Import.{Import}
use Rattle.protox_compile_walk.specs.declared.step.Import.TheVariants.{Finished as FinishedImport, Visit}
use Rattle.protox_compile_walk.proofs.Fresh.{Fresh, fresh_past}
use Rattle.protox_compile_walk.proofs.Measure.{all_finished}
use Rattle.protox_compile_walk.proofs.Right.{bytes_are}
use Rattle.protox_compile_walk.proofs.Steps.{finish_ends, ends_memory, by_known}

pub advance_leads : (f : Open) (fs : List Open) (done : List Done) (asks : Import) (files : List ℕ → Told) (limit : ℕ) → asks ≡ FinishedImport → AdvancesOrVisits f fs done asks → LeadsTo files limit (f ∷ fs) done (past f ∷ fs) done
advance_leads f fs done asks files limit e h = let P : Import → Type 0 = λ i. AdvancesOrVisits f fs done i in subst P e h files limit

pub to_visit : (f : Open) (fs : List Open) (done : List Done) (asks : Import) (name : List ℕ) → asks ≡ Visit name → AdvancesOrVisits f fs done asks → IsVisit f fs done name
to_visit f fs done asks name e h = let P : Import → Type 0 = λ i. AdvancesOrVisits f fs done i in subst P e h

-- a file that is not linked ends the walk
pub unlinked_ends : (files : List ℕ → Told) (limit : ℕ) (f : Open) (fs : List Open) (done : List Done) (error : ErrorKind) → nat_lt f.next (length (imports_of f.entry)) ≡ false → IsUnlinked (records done) f.entry.file error → EndsWalks files limit (f ∷ fs) done error done
unlinked_ends files limit f fs done (Check error) last h = finish_ends files limit f fs done error last h.0 h.1
unlinked_ends files limit f fs done NoMemory last h = ends_memory files limit (f ∷ fs) done
unlinked_ends files limit f fs done _ last h = absurd h

-- a file that is not linked breaks a rule, and is not finished
pub unlinked_cause : (limit : ℕ) (done : List Done) (fault : ErrorKind → Type 0) (f : Open) (error : ErrorKind) → is_done done f.name ≡ false
    → bytes_eq (declared_name f.entry) f.name ≡ true → IsUnlinked (records done) f.entry.file error → HasStepCause limit done fault error
unlinked_cause limit done fault f (Check error) new named h =
    (f.entry.file, ap (is_done done) (bytes_are (declared_name f.entry) f.name named) ∙ new, h.1)
unlinked_cause limit done fault f NoMemory new named h = tt
unlinked_cause limit done fault f _ new named h = absurd h

-- the same stack, written otherwise
pub same_stack : (files : List ℕ → Told) (walk : Walk) (limit : ℕ) (fs gs : List Open) (done : List Done) → fs ≡ gs → Follows files walk limit fs done → Follows files walk limit gs done
same_stack files walk limit fs gs done e h = let P : List Open → Type 0 = λ s. Follows files walk limit s done in subst P e h

-- a cause that another gives
pub step_cause_later : (limit : ℕ) (done : List Done) (fault wider : ErrorKind → Type 0) (error : ErrorKind) → ((e : ErrorKind) → fault e → wider e) → HasStepCause limit done fault error → HasStepCause limit done wider error
step_cause_later limit done fault wider (OpenFile name path words) f h = f (OpenFile name path words) h
step_cause_later limit done fault wider (Custom text is_io) f h = f (Custom text is_io) h
step_cause_later limit done fault wider _ f h = h

pub fresh_next : (root : List ℕ) (f next : Open) (fs : List Open) (done : List Done) → next ≡ past f → Fresh root (f ∷ fs) done → Fresh root (next ∷ fs) done
fresh_next root f next fs done e h = let P : Open → Type 0 = λ x. Fresh root (x ∷ fs) done in subst P (sym e) (fresh_past root f fs done h)

-- the walk ends where no file is open
pub ends_finished : (files : List ℕ → Told) (walk : Walk) (limit : ℕ) (fs : List Open) (done : List Done) → fs ≡ [] → Follows files walk limit fs done → ByLookups files (λ lookups. walk lookups ≡ (done, Finished))
ends_finished files walk limit fs done e h =
    let follows : Follows files walk limit [] done = same_stack files walk limit fs [] done e h in
    (follows.known, follows.right, by_known files limit [] done walk follows ∙ all_finished follows.known limit done)

-- the same resolver, later
pub ends_later : (files now : List ℕ → Told) (limit : ℕ) (fs : List Open) (done later : List Done) (error : ErrorKind) → now ≡ files → EndsWalks now limit fs done error later → EndsWalks files limit fs done error later
ends_later files now limit fs done later error e h = let P : (List ℕ → Told) → Type 0 = λ f. EndsWalks f limit fs done error later in subst P e h

pub leads_later : (files now : List ℕ → Told) (limit : ℕ) (fs gs : List Open) (done later : List Done) → now ≡ files → LeadsTo now limit fs done gs later → LeadsTo files limit fs done gs later
leads_later files now limit fs gs done later e h = let P : (List ℕ → Told) → Type 0 = λ f. LeadsTo f limit fs done gs later in subst P e h

-- what was said of the resolver later holds of it before
pub later_files : {T E : Type 0} (files now : List ℕ → Told) (limit : ℕ) (fs : List Open) (done later : List Done) (result : Result T E) (walk : Walk) → now ≡ files
    → ((w : Walk) → Follows now w limit fs done → OnOk result (ByLookups now (λ ls. w ls ≡ (later, Finished))))
    → Follows files walk limit fs done → OnOk result (ByLookups files (λ ls. walk ls ≡ (later, Finished)))
later_files files now limit fs done later result walk e said follows =
    let P : (List ℕ → Told) → Type 0 = λ f. (w : Walk) → Follows f w limit fs done → OnOk result (ByLookups f (λ ls. w ls ≡ (later, Finished))) in
    subst P e said walk follows

pub later_ends : {T : Type 0} (files now : List ℕ → Told) (limit : ℕ) (fs : List Open) (done later : List Done) (result : Result T ErrorKind) (root : List ℕ) (walk : Walk) → now ≡ files
    → IfErr result (λ e. EndsWalks now limit fs done e later) → Follows files walk limit fs done → IfErr result (λ e. ByLookups files (λ ls. Ends root e walk ls later))
later_ends files now limit fs done later (Ok x) root walk e said follows = tt
later_ends files now limit fs done later (Err error) root walk e said follows = ends_later files now limit fs done later error e said root walk follows
