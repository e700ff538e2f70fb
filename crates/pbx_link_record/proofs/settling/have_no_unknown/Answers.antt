use Rattle.std.proofs.Common.{◌≡◌, [], rules}
use Rattle.pbx_link_record.proofs.Places.{places_more}
use Rattle.pbx_link_record.proofs.settling.have_no_unknown.Goals as goal

pub loop-location-preserved : goal.loop-location-preserved
loop-location-preserved c =
    let none : c.location-item.result.unknown ≡ [] = search rules in
    places_more c.as_slice-location-items.result.now c.loop-location.location-index c.location-item.result c.loop-location-test.true c.location-item.is none
    c.loop-location.invariant
