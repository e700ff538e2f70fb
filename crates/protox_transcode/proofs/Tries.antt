-- A fault that each of several openings met is one that an opening met.
use Rattle.std.proofs.Common.{◌≡◌, ◌⊎◌, ◌<◌, ◌≤◌, ◌+◌, inl, inr, ℕ, List, arith}
use Rattle.serde_json.specs.Data.{Data}
use Rattle.protox_io.specs.Count.{Count, Rose, RoseTimes}
use Rattle.protox_file_error.specs.declared.error.ErrorKind.{ErrorKind}
use Rattle.protox_file_error.specs.declared.error.ErrorKind.TheVariants as kinds
use Rattle.protox_file_sources.specs.Causes.{FaultCause, FaultsCause}
use Rattle.protox_file_sources.specs.Library.{Library}
use Rattle.protox_compile_walk.proofs.Openings.{cause_later}
use Rattle.protox_compile.specs.State.{most_files}
use Rattle.protox_transcode.specs.Laws.{CausesAreTold}
use Rattle.protox_transcode.specs.Top.{IsCaused, IsJudged, IsStopped}
use Rattle.protox_transcode.specs.declared.error.TopError.{TopError}
use Rattle.protox_transcode.specs.declared.error.TopError.TheVariants as top

pub rose_once : (times : ℕ) (before now : Count) → 1 ≤ times → RoseTimes times before now → Rose before now
rose_once times before now some (inl h) = inl (omega arith)
rose_once times before now some (inr h) = inr h

pub fault_once : (times : ℕ) (library : Library) (before now : Count) → 1 ≤ times → (e : ErrorKind) → FaultsCause times library before now e
    → FaultCause library before now e
fault_once times library before now some e h = (rose_once times before now some h.0, h.1)

-- one cause gives another
pub caused_then : (f g : ErrorKind → Type 0) (error : TopError) → ((e : ErrorKind) → f e → g e) → IsCaused f error → IsCaused g error
caused_then f g (top.File (kinds.OpenFile name path words)) k h = k _ h
caused_then f g (top.File (kinds.Custom text is_io)) k h = k _ h
caused_then f g (top.File (kinds.Parse x)) k h = h
caused_then f g (top.File (kinds.Check x)) k h = h
caused_then f g (top.File (kinds.FileTooLarge name)) k h = tt
caused_then f g (top.File (kinds.FileInvalidUtf8 name)) k h = tt
caused_then f g (top.File (kinds.FileNotFound name)) k h = tt
caused_then f g (top.File (kinds.ImportNotFound file index place name)) k h = tt
caused_then f g (top.File (kinds.CircularImport name cycle)) k h = tt
caused_then f g (top.File (kinds.FileNotIncluded path)) k h = tt
caused_then f g (top.File (kinds.FileShadowed name path shadow)) k h = tt
caused_then f g (top.File (kinds.DuplicateImport file index place name)) k h = tt
caused_then f g (top.File (kinds.ImportEscapes file index place name)) k h = tt
caused_then f g (top.File (kinds.NameMismatch asked declared)) k h = tt
caused_then f g (top.File (kinds.FileLimit n)) k h = tt
caused_then f g (top.File (kinds.Undecodable file)) k h = tt
caused_then f g (top.File kinds.NoMemory) k h = absurd h
caused_then f g (top.JsonNames message key) k h = tt
caused_then f g (top.WellKnownShape message) k h = tt
caused_then f g (top.TypeNotFound n) k h = tt
caused_then f g (top.Json e) k h = h
caused_then f g top.TooDeep k h = tt
caused_then f g top.NoMemory k h = tt

pub causes_told : CausesAreTold
causes_told times library before after error some h =
    caused_then (FaultsCause times library before after) (FaultCause library before after) error (fault_once times library before after some) h

module _ (paths : List (List ℕ)) (f g : ErrorKind → Type 0) (each : (e : ErrorKind) → f e → g e) where
  stopped_then : (error : TopError) → IsStopped paths f error → IsStopped paths g error
  stopped_then (top.File kind) h = (
    h.0,
    record {
      before = h.1.before;
      path = h.1.path;
      after = h.1.after;
      split = h.1.split;
      middle = h.1.middle;
      opens = h.1.opens;
      grows = h.1.grows;
      cause = cause_later most_files h.1.path h.0 f g kind each h.1.cause;
    },
  )
  stopped_then (top.JsonNames message key) h = absurd h
  stopped_then (top.WellKnownShape message) h = absurd h
  stopped_then (top.TypeNotFound n) h = absurd h
  stopped_then (top.Json e) h = absurd h
  stopped_then top.TooDeep h = absurd h
  stopped_then top.NoMemory h = tt

  pub judged_then : (name : List ℕ) (tree : Data) (error : TopError) → IsJudged paths name tree f error → IsJudged paths name tree g error
  judged_then name tree error (inl h) = inl (stopped_then error h)
  judged_then name tree error (inr h) = inr h
