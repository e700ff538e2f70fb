use Rattle.std.proofs.Common.{refl}
use Rattle.pbx_link_tables.proofs.Standing.{at_some, at_none}
use Rattle.pbx_link_tables.proofs.walk.message_at.Goals as goal

pub returns-in-Some : goal.returns-in-Some
returns-in-Some c = at_some c.args.file.now c.in-Some.message.now c.args.place.now _ c.as_slice.result.now _ c.as_slice.ensures c.in-Some.ensures refl c.message_below.ensures

pub returns-in-None : goal.returns-in-None
returns-in-None c = at_none c.args.file.now c.args.place.now c.as_slice.result.now c.as_slice.ensures c.in-None.ensures
