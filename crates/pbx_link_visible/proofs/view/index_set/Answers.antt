use Rattle.std.proofs.Common.{get_or, nat_cmp}
use Rattle.std.specs.BTreeSet.{contains}
use Rattle.std.proofs.lemmas.List.{get_or_default}
use Rattle.pbx_link_visible.proofs.Texts.{added_index}
use Rattle.pbx_link_visible.proofs.view.index_set.Goals as goal

pub loop-index-preserved : goal.loop-index-preserved
loop-index-preserved c = λ i.
    let indexes = c.args.indexes.now in
    let index = get_or indexes c.loop-index.index-index 0 in
    added_index i index indexes c.loop-index.index-index (contains nat_cmp c.loop-index.set i) (contains nat_cmp c.insert.new.self i)
    c.loop-index-test.true (get_or_default indexes c.loop-index.index-index 0 index c.loop-index-test.true) (c.loop-index.invariant i) (c.in_ok-insert.ensures.updates.0 i)
