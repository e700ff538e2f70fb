use Rattle.std.proofs.Common.{◌≡◌, length}
use Rattle.protox_io.specs.Paths.{bare}
use Rattle.protox_io.specs.FileNames.{behind_folder}
use Rattle.protox_io.specs.Left.{left}
use Rattle.protox_io.proofs.paths.strip_prefix.Given as goal

abbrev pub invariant-parts : goal.invariant-parts
invariant-parts l =
    behind_folder (bare l.fn.path) (bare l.fn.folder) ≡ behind_folder (left l.path.rooted l.path.rest.now) (left l.folder.rooted l.folder.rest.now)

abbrev pub decreases-parts : goal.decreases-parts
decreases-parts l = length l.folder.rest.now
