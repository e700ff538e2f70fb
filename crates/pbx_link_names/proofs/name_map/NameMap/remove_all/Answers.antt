use Rattle.std.specs.BTreeMap.{get_by_text}
use Rattle.std.proofs.Common.{None}
use Rattle.std.proofs.lemmas.Map.Text.{btree_map_updates_text}
use Rattle.pbx_link_names.specs.Names.{under}
use Rattle.pbx_link_names.proofs.Values.{removed_more}
use Rattle.pbx_link_names.proofs.name_map.NameMap.remove_all.Goals as goal

pub loop-name-preserved : goal.loop-name-preserved
unfolding under
loop-name-preserved g c = λ q.
    let sets = btree_map_updates_text c.as_str.result.now c.loop-name.self.values c.remove.new.self None c.remove.ensures.updates q in
    removed_more q c.args.names.now c.loop-name.name-index c.name-item.result (get_by_text c.args.self.now.values q) (get_by_text c.loop-name.self.values q)
    (get_by_text c.remove.new.self q) c.loop-name-test.true c.name-item.is (c.loop-name.invariant q) (rw c.as_str.ensures at sets)
