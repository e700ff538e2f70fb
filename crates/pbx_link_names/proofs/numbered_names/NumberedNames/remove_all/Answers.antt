use Rattle.std.proofs.Common.{rules}
use Rattle.pbx_link_names.specs.Numbers.{is_there}
use Rattle.pbx_link_names.proofs.Sets.{removed_more}
use Rattle.pbx_link_names.proofs.numbered_names.NumberedNames.remove_all.Goals as goal

pub loop-item-preserved : goal.loop-item-preserved
loop-item-preserved c = λ q z.
    removed_more q z c.args.items.now c.loop-item.item-index c.item-item.result (is_there q z c.args.self.now) (is_there q z c.loop-item.self) (is_there q z c.remove.new.self)
    c.loop-item-test.true c.item-item.is (c.loop-item.invariant q z) (search rules)
