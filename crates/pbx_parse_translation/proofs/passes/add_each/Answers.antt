use Rattle.pbx_parse_translation.proofs.Lists.{begins}
use Rattle.pbx_parse_translation.proofs.passes.add_each.Goals as goal

pub each-init : goal.each-init
each-init g c =
    rw c.deref-item-items.ensures.value
    (begins g.T.Becomes.record_of c.args.items.now c.args.records.now c.add.new.self c.in_ok-record.field-0 c.in_ok-record.ensures c.in_ok-add.ensures.ok)
