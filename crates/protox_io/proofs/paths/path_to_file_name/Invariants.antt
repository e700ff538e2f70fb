use Rattle.std.proofs.Common.{◌≡◌, length, string_bytes}
use Rattle.protox_io.specs.FileNames.{name_of}
use Rattle.protox_io.specs.Left.{left, named_from}
use Rattle.protox_io.proofs.paths.path_to_file_name.Given as goal

abbrev pub invariant-parts : goal.invariant-parts
invariant-parts l =
    name_of l.fn.path ≡ named_from (string_bytes l.name) (left l.parts.rooted l.parts.rest.now)

abbrev pub decreases-parts : goal.decreases-parts
decreases-parts l = length l.parts.rest.now
