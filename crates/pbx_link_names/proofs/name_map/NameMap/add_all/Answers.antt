use Rattle.std.proofs.Common.{◌∙◌, sym}
use Rattle.pbx_link_names.specs.Names.{under}
use Rattle.pbx_link_names.proofs.Values.{item_more, on_ok_at}
use Rattle.pbx_link_names.proofs.name_map.NameMap.add_all.Goals as goal

pub loop-name-preserved : goal.loop-name-preserved
loop-name-preserved g c = record {
  put = λ q. item_more q c.args.items.now c.loop-name.name-index c.loop-name-item.result (under q c.args.self.now) (under q c.loop-name.self) (under q c.add_new.new.self)
      c.loop-name-test.true c.loop-name-item.is (c.loop-name.invariant.put q)
      (on_ok_at c.add_new.result (sym c.is_err.ensures.value ∙ c.if-is_err.false) c.add_new.ensures.added q);
  undone = λ q. c.add_new.ensures.undone q ∙ c.loop-name.invariant.undone q;
}
