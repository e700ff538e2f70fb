use Rattle.std.proofs.Common.{length}
use Rattle.protox_file.proofs.Sets.{HasRead}
use Rattle.protox_file.proofs.descriptor_set.files_in.Given as goal

abbrev pub invariant-loop-files : goal.invariant-loop-files
invariant-loop-files l = HasRead l.bytes l.rest l.files

abbrev pub decreases-loop-files : goal.decreases-loop-files
decreases-loop-files l = length l.rest
