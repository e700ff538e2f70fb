-- Why a name was not opened, over every resolver.
use Rattle.std.proofs.Common.{◌≡◌, inl, inr, ℕ, List, Bool, true, false, refl, IsTrue, sym, subst}
use Rattle.std.specs.Prelude.{Option, Some, None, Result, Ok, Err, IfErr}
use Rattle.protox_file_error.specs.declared.error.ErrorKind.{ErrorKind}
use Rattle.protox_file_error.specs.declared.error.ErrorKind.TheVariants.{Parse, OpenFile, FileTooLarge, FileInvalidUtf8, FileNotFound, ImportNotFound, FileShadowed, Custom, NameMismatch, NoMemory, ImportEscapes}
use Rattle.protox_io.specs.Count.{Count, Rose}
use Rattle.protox_io.specs.FileNames.{escapes}
use Rattle.protox_file_sources.specs.Causes.{HasCause, FaultCause}
use Rattle.protox_file_sources.specs.Library.{Library}
use Rattle.protox_compile_walk.specs.Walk.{Done}
use Rattle.protox_compile_walk.specs.Opening.{asked_path}
use Rattle.protox_compile_walk.specs.Opens.{IsShadowedBy}
use Rattle.protox_compile_walk.specs.Refusals.{OrNoMemory, IsToldBy, is_absent, HasStepCause, HasRootCause, HasOpenCause, HasOpeningCause}

-- the path that was asked
pub asked_is : (resolved : Bool) (path p : List ℕ) → asked_path resolved path ≡ Some p → p ≡ path
asked_is true path p e = let same : Some path ≡ Some p = e in cc
asked_is false path p e = absurd (cc (e))

-- the cause of a resolver's refusal
pub open_cause : (library : Library) (before now : Count) (asked : Option (List ℕ)) (name : List ℕ) (error : ErrorKind)
    → HasCause library.may_fail name (Rose before now) error → HasOpenCause asked (FaultCause library before now) error
open_cause library before now asked name (Parse error) h = tt
open_cause library before now asked name (OpenFile n p words) h =
    let P : List ℕ → Type 0 = λ m. IsTrue (library.may_fail m (OpenFile n p words)) in (h.1, subst P (sym h.0) h.2)
open_cause library before now asked name (FileTooLarge n) h = tt
open_cause library before now asked name (FileInvalidUtf8 n) h = tt
open_cause library before now asked name (FileNotFound n) h = tt
open_cause library before now asked name (Custom text is_io) h = (h.0, (name, h.1))
open_cause library before now asked name NoMemory h = tt
open_cause library before now asked name _ h = absurd h

-- the cause at an import
pub import_cause : (limit : ℕ) (done : List Done) (fault : ErrorKind → Type 0) (file : List ℕ) (index : ℕ) (place : Option (ℕ × ℕ)) (name : List ℕ) (error answer : ErrorKind)
    → HasOpenCause None fault error → IsToldBy (ImportNotFound file index place name) error answer
    → HasStepCause limit done fault answer
import_cause limit done fault file index place name error answer h k = by_case (is_absent error) refl
  where
    absence : OrNoMemory answer (ImportNotFound file index place name) → HasStepCause limit done fault answer
    absence (inl memory) = rw memory tt
    absence (inr same) = rw same tt

    other_kind : (e : ErrorKind) → HasOpenCause None fault e → HasStepCause limit done fault e
    other_kind (Parse why) x = tt
    other_kind (OpenFile n p words) x = x
    other_kind (FileTooLarge n) x = tt
    other_kind (FileInvalidUtf8 n) x = tt
    other_kind (FileNotFound n) x = tt
    other_kind (FileShadowed n p s) x = absurd (cc (x.0))
    other_kind (Custom text is_io) x = x
    other_kind (NameMismatch asked declared) x = x
    other_kind NoMemory x = tt
    other_kind _ x = absurd x

    by_case : (b : Bool) → is_absent error ≡ b → HasStepCause limit done fault answer
    by_case true e = absence (k.absent e)
    by_case false e = rw (k.other e) (other_kind error h)

-- the cause at a root, of its own opening
pub root_cause : (asked : Option (List ℕ)) (limit : ℕ) (done : List Done) (fault : ErrorKind → Type 0) (error : ErrorKind) → HasOpenCause asked fault error
    → HasRootCause asked limit done fault error
root_cause asked limit done fault (Parse why) h = tt
root_cause asked limit done fault (OpenFile n p words) h = h
root_cause asked limit done fault (FileTooLarge n) h = tt
root_cause asked limit done fault (FileInvalidUtf8 n) h = tt
root_cause asked limit done fault (FileNotFound n) h = tt
root_cause asked limit done fault (FileShadowed n p s) h = h
root_cause asked limit done fault (Custom text is_io) h = h
root_cause asked limit done fault (NameMismatch n declared) h = h
root_cause asked limit done fault NoMemory h = tt
root_cause asked limit done fault _ h = absurd h

-- and of what it imports
pub root_step_cause : {T : Type 0} (asked : Option (List ℕ)) (limit : ℕ) (done : List Done) (fault wider : ErrorKind → Type 0) (result : Result T ErrorKind) → ((e : ErrorKind) → fault e → wider e)
    → IfErr result (HasStepCause limit done fault) → IfErr result (HasRootCause asked limit done wider)
root_step_cause asked limit done fault wider (Ok x) f h = tt
root_step_cause asked limit done fault wider (Err error) f h = at error h
  where
    at : (e : ErrorKind) → HasStepCause limit done fault e → HasRootCause asked limit done wider e
    at (OpenFile n p words) x = f (OpenFile n p words) x
    at (Custom text is_io) x = f (Custom text is_io) x
    at (FileShadowed n p s) x = absurd x
    at _ x = x

-- the cause at a name that is finished
pub shadowed_cause : {T : Type 0} (limit : ℕ) (name path : List ℕ) (resolved : Bool) (known : Option (List ℕ)) (later : List Done) (fault : ErrorKind → Type 0) (result : Result T ErrorKind)
    → IfErr result (IsShadowedBy name (asked_path resolved path) known)
    → IfErr result (HasOpeningCause limit path later fault)
shadowed_cause limit name path resolved known later fault (Ok x) h = tt
shadowed_cause limit name path resolved known later fault (Err error) h = at error h
  where
    at : (e : ErrorKind) → IsShadowedBy name (asked_path resolved path) known e → HasOpeningCause limit path later fault e
    at (FileShadowed n p s) x = (asked_is resolved path p x.1, x.3)
    at NoMemory x = tt
    at _ x = absurd x

-- the cause of an import that leaves the folders
pub escapes_cause : (limit : ℕ) (done : List Done) (fault : ErrorKind → Type 0) (file : List ℕ) (index : ℕ) (place : Option (ℕ × ℕ)) (name : List ℕ) (error : ErrorKind)
    → escapes name ≡ true → OrNoMemory error (ImportEscapes file index place name) → HasStepCause limit done fault error
escapes_cause limit done fault file index place name error h (inl memory) = rw memory tt
escapes_cause limit done fault file index place name error h (inr same) = rw same h
