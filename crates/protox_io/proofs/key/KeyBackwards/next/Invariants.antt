use Rattle.std.proofs.Common.{◌≡◌, ◌≤◌, ◌+◌, length}
use Rattle.protox_io.specs.Backwards.{key_left}
use Rattle.protox_io.proofs.key.KeyBackwards.next.Given as goal

abbrev pub invariant-loop-front : goal.invariant-loop-front
invariant-loop-front l = record {
  left : key_left l.fn.self.pending l.fn.self.rest.now ≡ key_left l.self.pending l.self.rest.now;
  fewer : l.self.pending + length l.self.rest.now ≤ l.fn.self.pending + length l.fn.self.rest.now;
}

abbrev pub decreases-loop-front : goal.decreases-loop-front
decreases-loop-front l = length l.self.rest.now
