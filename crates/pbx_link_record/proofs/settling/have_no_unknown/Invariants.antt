use Rattle.std.proofs.Common.{◌≡◌, map, take}
use Rattle.pbx_link_record.specs.Settled.{settled_location}
use Rattle.pbx_link_record.proofs.settling.have_no_unknown.Given as goal

abbrev pub invariant-loop-location : goal.invariant-loop-location
invariant-loop-location l = map settled_location (take l.location-index l.location-items) ≡ take l.location-index l.location-items
