use Rattle.std.proofs.Common.{◌≡◌, ◌≤◌, length, false}
use Rattle.protox_io.specs.Left.{body}
use Rattle.protox_io.proofs.components.Components.next.Given as goal

abbrev pub invariant-parts : goal.invariant-parts
invariant-parts l = record {
  unrooted : l.self.rooted ≡ false;
  was_unrooted : l.fn.self.rooted ≡ false;
  same : body l.fn.self.rest.now ≡ body l.self.rest.now;
  within : length l.self.rest.now ≤ length l.fn.self.rest.now;
}

abbrev pub decreases-parts : goal.decreases-parts
decreases-parts l = length l.self.rest.now
