use Rattle.std.proofs.Common.{◌≡◌, drop}
use Rattle.protox_file_sources.specs.Places.{first_start}
use Rattle.protox_file_sources.proofs.place.first_start.Given as goal

abbrev pub invariant-loop-location : goal.invariant-loop-location
invariant-loop-location l = first_start l.path l.locations ≡ first_start l.path (drop l.location-index l.locations)
