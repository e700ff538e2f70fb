use Rattle.std.proofs.Common.{◌≡◌, drop}
use Rattle.protox_compile_walk.specs.Places.{first_place}
use Rattle.protox_compile_walk.proofs.place.first_place.Given as goal

abbrev pub invariant-loop-location : goal.invariant-loop-location
invariant-loop-location l = first_place l.index l.locations ≡ first_place l.index (drop l.location-index l.locations)
