use Rattle.pbx_link_visible.proofs.Named.{none_added, none_added_above, one_added}
use Rattle.pbx_link_visible.proofs.imports.add_file.Goals as goal

pub returns-in_ok-insert : goal.returns-in_ok-insert
returns-in_ok-insert g c =
    one_added (g.P.Pooled.files c.args.pool.now) c.args.name.now c.args.limit c.in-Some.ensures.own c.args.pending.now c.in-Some.index c.insert.new.self
    c.in-Some.ensures.found c.if-is_below.ensures c.in_ok-insert.ensures.updates

pub returns-else-is_below : goal.returns-else-is_below
returns-else-is_below g c =
    none_added_above (g.P.Pooled.files c.args.pool.now) c.args.name.now c.args.limit c.in-Some.ensures.own c.args.pending.now c.in-Some.index
    c.in-Some.ensures.found c.if-is_below.ensures

pub returns-in_default : goal.returns-in_default
returns-in_default g c =
    none_added (g.P.Pooled.files c.args.pool.now) c.args.name.now c.args.limit c.in_default.ensures.own c.args.pending.now c.in_default.ensures.found
