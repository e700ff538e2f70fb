use Rattle.std.proofs.Common.{◌∙◌, sym}
use Rattle.pbx_link_names.specs.Numbers.{is_there}
use Rattle.pbx_link_names.proofs.Values.{on_ok_at}
use Rattle.pbx_link_names.proofs.Sets.{item_more}
use Rattle.pbx_link_names.proofs.numbered_names.NumberedNames.add_all.Goals as goal

pub loop-item-preserved : goal.loop-item-preserved
loop-item-preserved c = record {
  put = λ q z. item_more q z c.args.items.now c.loop-item.item-index c.item-item.result (is_there q z c.args.self.now) (is_there q z c.loop-item.self) (is_there q z c.add_new.new.self)
      c.loop-item-test.true c.item-item.is (c.loop-item.invariant.put q z) (on_ok_at c.add_new.result (sym c.is_err.ensures.value ∙ c.if-is_err.false) c.add_new.ensures.added q z);
  undone = λ q z. c.add_new.ensures.undone q z ∙ c.loop-item.invariant.undone q z;
}
