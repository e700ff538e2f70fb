use Rattle.std.proofs.Common.{map, sym}
use Rattle.pbx_content_codec.specs.Keyed.{AreInOrder}
use Rattle.pbx_content_codec.specs.View.{pair_of}
use Rattle.pbx_content_codec.proofs.Keyed.{by_ordered}
use Rattle.pbx_json_reading.proofs.entries.sorted.Goals as goal

pub returns-then-are_in_order : goal.returns-then-are_in_order
returns-then-are_in_order c =
    let ordered : AreInOrder (map pair_of c.as_slice.result.now) = c.are_in_order.ensures.order c.if-are_in_order.true in
    sym (by_ordered (map pair_of c.args.pairs) (rw c.as_slice.ensures at ordered))
