use Rattle.std.proofs.Common.{◌-◌, length}
use Rattle.protox_file.specs.Sets.{entries_of}
use Rattle.protox_file.proofs.Indexes.{AreFirst}
use Rattle.protox_file.proofs.descriptor_set.Files.names.Given as goal

abbrev pub invariant-loop-name : goal.invariant-loop-name
invariant-loop-name l = AreFirst (entries_of l.self) l.names

abbrev pub decreases-loop-name : goal.decreases-loop-name
decreases-loop-name l = length (entries_of l.self) - length l.names
