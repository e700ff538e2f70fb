use Rattle.std.proofs.Common.{arith, rules}
use Rattle.pbx_link_shapes.proofs.Placed.{more_starts}
use Rattle.pbx_link_shapes.proofs.starts.Starts.add.Goals as goal

pub returns-in_ok-add-in-Some : goal.returns-in_ok-add-in-Some
returns-in_ok-add-in-Some c ns h =
    more_starts c.args.self.now (record { starts = c.add.new.self; count = c.in-Some.sum }) c.args.count (search rules) (omega arith) ns h
