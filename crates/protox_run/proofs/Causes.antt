-- The causes of stops.
use Rattle.std.proofs.Common.{ℕ, ◌+◌, ◌<◌, ◌≤◌, inl, inr, arith}
use Rattle.protox_io.specs.Count.{Count, Rose, RoseTimes}
use Rattle.protox_words.specs.Words.{Args}
use Rattle.protox_run.specs.Stops.{Input, Reading, Writing, Printing}
use Rattle.protox_run.specs.Parts.{Caused, IsInputCause, IsFileCause, IsGeneratedStop, IsCarryStop}
use Rattle.protox_run.specs.Told.{Stop, Words, Refused, Broken, NoMemory}

-- a count that rose did so once
pub rose_once : (before now : Count) → Rose before now → RoseTimes 1 before now
rose_once before now (inl h) = inl (omega (arith, h))
rose_once before now (inr spent) = inr spent

-- a cause stays one where more counts are in view
pub caused_in : (args : Args) (a : ℕ → Type 0) (b c : Type 0) (d : ℕ → Type 0) (e f : Type 0) (stop : Stop) → ((n : ℕ) → a n → d n) → (b → e) → (c → f) → Caused args a b c stop → Caused args d e f stop
caused_in args a b c d e f (Words fault) g h k x = absurd x
caused_in args a b c d e f (Refused refusal) g h k x = tt
caused_in args a b c d e f (Broken Input) g h k x = h x
caused_in args a b c d e f (Broken (Reading line)) g h k x = (g _ x.0, x.1)
caused_in args a b c d e f (Broken (Writing path)) g h k x = g 1 x
caused_in args a b c d e f (Broken Printing) g h k x = k x
caused_in args a b c d e f NoMemory g h k x = tt

pub of_input : (args : Args) (rose : Type 0) (disk : ℕ → Type 0) (out : Type 0) (stop : Stop) → IsInputCause rose stop → Caused args disk rose out stop
of_input args rose disk out (Words fault) x = absurd x
of_input args rose disk out (Refused refusal) x = tt
of_input args rose disk out (Broken Input) x = x
of_input args rose disk out (Broken (Reading line)) x = absurd x
of_input args rose disk out (Broken (Writing path)) x = absurd x
of_input args rose disk out (Broken Printing) x = absurd x
of_input args rose disk out NoMemory x = tt

pub of_files : (args : Args) (rose : ℕ → Type 0) (input out : Type 0) (stop : Stop) → IsFileCause args rose stop → Caused args rose input out stop
of_files args rose input out (Words fault) x = absurd x
of_files args rose input out (Refused refusal) x = tt
of_files args rose input out (Broken Input) x = absurd x
of_files args rose input out (Broken (Reading line)) x = x
of_files args rose input out (Broken (Writing path)) x = absurd x
of_files args rose input out (Broken Printing) x = absurd x
of_files args rose input out NoMemory x = tt

pub of_number : (args : Args) (number : ℕ) (disk : ℕ → Type 0) (input out : Type 0) (stop : Stop) → IsGeneratedStop number stop → Caused args disk input out stop
of_number args number disk input out (Words fault) x = absurd x
of_number args number disk input out (Refused refusal) x = tt
of_number args number disk input out (Broken object) x = absurd x
of_number args number disk input out NoMemory x = tt

pub of_carry : (args : Args) (a b : Type 0) (disk : ℕ → Type 0) (input out : Type 0) (stop : Stop) → (a → disk 1) → (b → out) → IsCarryStop a b stop → Caused args disk input out stop
of_carry args a b disk input out (Words fault) g k x = absurd x
of_carry args a b disk input out (Refused refusal) g k x = absurd x
of_carry args a b disk input out (Broken Input) g k x = absurd x
of_carry args a b disk input out (Broken (Reading line)) g k x = absurd x
of_carry args a b disk input out (Broken (Writing path)) g k x = g x
of_carry args a b disk input out (Broken Printing) g k x = k x
of_carry args a b disk input out NoMemory g k x = tt

-- a cause of writing stays one where more is in view
pub carry_in : (a b c d : Type 0) (stop : Stop) → (a → c) → (b → d) → IsCarryStop a b stop → IsCarryStop c d stop
carry_in a b c d (Words fault) g k x = absurd x
carry_in a b c d (Refused refusal) g k x = absurd x
carry_in a b c d (Broken Input) g k x = absurd x
carry_in a b c d (Broken (Reading line)) g k x = absurd x
carry_in a b c d (Broken (Writing path)) g k x = g x
carry_in a b c d (Broken Printing) g k x = k x
carry_in a b c d NoMemory g k x = tt
