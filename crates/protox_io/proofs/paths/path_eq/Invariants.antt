use Rattle.std.proofs.Common.{◌≡◌, length}
use Rattle.protox_io.specs.Paths.{key_eq, bare}
use Rattle.protox_io.specs.Left.{left}
use Rattle.protox_io.proofs.paths.path_eq.Given as goal

abbrev pub invariant-parts : goal.invariant-parts
invariant-parts l =
    key_eq (bare l.fn.left) (bare l.fn.right) ≡ key_eq (left l.left.rooted l.left.rest.now) (left l.right.rooted l.right.rest.now)

abbrev pub decreases-parts : goal.decreases-parts
decreases-parts l = length l.left.rest.now
