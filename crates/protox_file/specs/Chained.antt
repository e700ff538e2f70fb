-- Resolvers that are asked in turn.
use Rattle.std.specs.Prelude.{ℕ, ◌+◌, ◌||◌, List, [], ◌∷◌, Bool, true, false, Option, None, Result, Err}
use Rattle.std.specs.List.{list_all, list_any, flat_map}
use Rattle.std.specs.declared.dyn_box.DynBox.{DynBox}
use Rattle.std.specs.Global.{Global}
use Rattle.std.specs.Option.{option_or}
use Rattle.protox_io.specs.Count.{Count}
use Rattle.protox_file_sources.specs.Library.{Library}
use Rattle.protox_file_error.specs.declared.error.ErrorKind.{ErrorKind}
use Rattle.protox_file_error.specs.declared.error.ErrorKind.TheVariants.{FileNotFound}
use Rattle.protox_file_sources.specs.Told.{Entry, Told, Absent}
use Rattle.protox_file.specs.declared.chain.ChainFileResolver.{ChainFileResolver}

-- the members of a chain, in the order in which they are asked
abbrev pub members_of : {X : Type 0} {P : X → Type 0} → ChainFileResolver X P → List (DynBox X Global P)
members_of chain = chain.members.items

-- what the first has under a name, and else the second
abbrev pub or_told : Told → Told → Told
or_told Absent second = second
or_told first second = first

-- what the first that has a file under the name has there
abbrev pub first_told : List Library → List ℕ → Told
first_told [] name = Absent
first_told (l ∷ ls) name = or_told (l.files name) (first_told ls name)

-- the name that the first that resolves the path gives it
abbrev pub first_resolved : List Library → List ℕ → Option (List ℕ)
first_resolved [] path = None
first_resolved (l ∷ ls) path = option_or (l.resolves path) (first_resolved ls path)

-- the members, asked in turn
abbrev pub chained : List Library → Library
chained members = record {
  tells = list_all (λ (l : Library). l.tells) members;
  files = first_told members;
  resolves = first_resolved members;
  may_fail = λ name error. list_any (λ (l : Library). l.may_fail name error) members;
  disks = flat_map (λ (l : Library). l.disks) members;
}

-- the count of members that are asked in turn: the sum of theirs, which is spent where one is
abbrev pub count_of_all : List Count → Count
count_of_all [] = record { faults = 0; spent = false }
count_of_all (c ∷ cs) = record { faults = c.faults + (count_of_all cs).faults; spent = c.spent || (count_of_all cs).spent }

-- no file has the name, so that the next member is asked
abbrev pub is_missing : Result Entry ErrorKind → Bool
is_missing (Err (FileNotFound name)) = true
is_missing answer = false
