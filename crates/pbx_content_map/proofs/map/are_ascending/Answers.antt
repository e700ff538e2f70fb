use Rattle.std.proofs.Common.{ap, ◌∙◌, arith}
use Rattle.std.proofs.lemmas.List.{drop_all}
use Rattle.pbx_content_map.proofs.Places.{ascend, ascending_if}
use Rattle.pbx_content_map.proofs.map.are_ascending.Goals as goal

pub returns : goal.returns
returns g c = λ _.
    ascending_if 0 c.args.entries.now
    (c.loop-entry.invariant ∙ ap (ascend c.loop-entry.least) (drop_all c.loop-entry.entry-index c.args.entries.now (omega (arith, c.loop-entry.auto.entry-index-end))))
