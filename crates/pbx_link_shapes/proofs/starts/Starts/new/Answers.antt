use Rattle.std.proofs.Common.{refl}
use Rattle.pbx_link_shapes.proofs.Placed.{no_starts}
use Rattle.pbx_link_shapes.proofs.starts.Starts.new.Goals as goal

pub returns : goal.returns
returns c = no_starts _ c.new.ensures refl
