use Rattle.std.proofs.Common.{◌≡◌, drop}
use Rattle.protox_io.specs.Memory.{told_by}
use Rattle.protox_io.specs.Paths.{disk_key}
use Rattle.protox_io.proofs.memory_disk.find.Given as goal

abbrev pub invariant-loop-stored : goal.invariant-loop-stored
invariant-loop-stored l = told_by l.files (disk_key l.path) ≡ told_by (drop l.stored-index l.files) (disk_key l.path)
