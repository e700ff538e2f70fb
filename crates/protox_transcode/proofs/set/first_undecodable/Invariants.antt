use Rattle.std.proofs.Common.{◌≡◌, find, map}
use Rattle.protox_compile.specs.Sets.{is_undecodable}
use Rattle.protox_transcode.proofs.SetOf.{file}
use Rattle.protox_transcode.proofs.set.first_undecodable.Given as goal

abbrev pub invariant-loop-file : goal.invariant-loop-file
invariant-loop-file l =
    (goal.iterator-loop-file).can_next l.file-iterator × (goal.iterator-loop-file).is_finite l.file-iterator
    × (find is_undecodable l.pool ≡ find is_undecodable (map file l.file-iterator))
