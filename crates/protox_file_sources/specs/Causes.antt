-- What an answer of a resolver says of what it tells, and why it was refused.
use Rattle.std.specs.Prelude.{◌≡◌, ℕ, List, Bool, IsTrue, Result, Ok, Err, Some}
use Rattle.protox_io.specs.Count.{Count, Rose, RoseTimes}
use Rattle.pbx_parse.specs.Errors.{error_file}
use Rattle.protox_file_error.specs.declared.error.ErrorKind.{ErrorKind}
use Rattle.protox_file_error.specs.declared.error.ErrorKind.TheVariants.{Parse, OpenFile, FileTooLarge, FileInvalidUtf8, FileNotFound, Custom, NoMemory}
use Rattle.protox_file_sources.specs.Library.{Library}
use Rattle.protox_file_sources.specs.Told.{Entry, Told, NoFile, IsFile, TextFault, IsFound}

-- Why a resolver refused a name: only some kinds come, those that name a file name this one, and a fault of its own is one that the name
-- may have and has this cause. `may_fail` are the faults that a name may have.
abbrev pub HasCause : (List ℕ → ErrorKind → Bool) → List ℕ → Type 0 → ErrorKind → Type 0
HasCause may_fail asked rose (Parse e) = error_file e ≡ Some asked
HasCause may_fail asked rose (OpenFile name path words) = (name ≡ asked) × rose × IsTrue (may_fail asked (OpenFile name path words))
HasCause may_fail asked rose (FileTooLarge name) = name ≡ asked
HasCause may_fail asked rose (FileInvalidUtf8 name) = name ≡ asked
HasCause may_fail asked rose (FileNotFound name) = name ≡ asked
HasCause may_fail asked rose (Custom text is_io) = rose × IsTrue (may_fail asked (Custom text is_io))
HasCause may_fail asked rose NoMemory = Unit {0}
HasCause may_fail asked rose kind = ⊥

-- a fault that a name may have, which is the one that it names
abbrev pub IsNamedFault : (List ℕ → ErrorKind → Bool) → ErrorKind → Type 0
IsNamedFault may_fail (OpenFile name path words) = IsTrue (may_fail name (OpenFile name path words))
IsNamedFault may_fail (Custom text is_io) = (name : List ℕ) × IsTrue (may_fail name (Custom text is_io))
IsNamedFault may_fail kind = ⊥

-- why there is a fault of opening a name: the count rose, and the name may have it
abbrev pub FaultCause : Library → Count → Count → ErrorKind → Type 0
FaultCause library before now error = Rose before now × IsNamedFault library.may_fail error

-- the same of a fault that each of so many openings met: the count rose as often
abbrev pub FaultsCause : ℕ → Library → Count → Count → ErrorKind → Type 0
FaultsCause times library before now error = RoseTimes times before now × IsNamedFault library.may_fail error

-- The refusal is told of the name. A fault, or want of memory, may come in place of what is told.
abbrev pub IsToldRefusal : List ℕ → Told → ErrorKind → Type 0
IsToldRefusal name told (Parse e) = IsFound name told (TextFault 1)
IsToldRefusal name told (OpenFile n path fault) = Unit {0}
IsToldRefusal name told (FileTooLarge n) = IsFound name told (TextFault 4)
IsToldRefusal name told (FileInvalidUtf8 n) = IsFound name told (TextFault 5)
IsToldRefusal name told (FileNotFound n) = IsFound name told NoFile
IsToldRefusal name told (Custom text is_io) = Unit {0}
IsToldRefusal name told NoMemory = Unit {0}
IsToldRefusal name told kind = ⊥

-- the answer is what is told of the name
abbrev pub IsTold : List ℕ → Told → Result Entry ErrorKind → Type 0
IsTold name told (Ok entry) = IsFound name told (IsFile entry)
IsTold name told (Err kind) = IsToldRefusal name told kind
