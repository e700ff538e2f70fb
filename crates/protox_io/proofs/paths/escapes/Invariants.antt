use Rattle.std.proofs.Common.{◌≡◌, length}
use Rattle.std.specs.List.{list_any}
use Rattle.protox_io.specs.FileNames.{leads_out, escapes}
use Rattle.protox_io.specs.Left.{left}
use Rattle.protox_io.proofs.paths.escapes.Given as goal

abbrev pub invariant-parts : goal.invariant-parts
invariant-parts l = escapes l.fn.name ≡ list_any leads_out (left l.parts.rooted l.parts.rest.now)

abbrev pub decreases-parts : goal.decreases-parts
decreases-parts l = length l.parts.rest.now
