use Rattle.std.proofs.Common.{◌≡◌, ◌+◌, length}
use Rattle.protox_io.specs.Backwards.{key_left}
use Rattle.protox_io.specs.Paths.{key_eq}
use Rattle.protox_io.proofs.key.same_key.Given as goal

abbrev pub invariant-parts : goal.invariant-parts
invariant-parts l =
    key_eq (key_left 0 l.fn.left) (key_left 0 l.fn.right) ≡ key_eq (key_left l.left.pending l.left.rest.now) (key_left l.right.pending l.right.rest.now)

abbrev pub decreases-parts : goal.decreases-parts
decreases-parts l = l.left.pending + length l.left.rest.now
