use Rattle.protox_lines_items.proofs.Endings.{told_item}
use Rattle.protox_lines_items.proofs.driver.convert_item.Goals as goal

pub returns-clause-told : goal.returns-clause-told
returns-clause-told g c tells =
    told_item (g.V.ConvertItem.converted c.args.converter.now) (g.V.ConvertItem.faulty c.args.converter.now) c.args.item.now
    (g.K.Sink.output c.args.out.now).held c.args.written.now.gathered c.args.written.now.count (g.K.Sink.output c.told_behind.new.out).held c.in-Err.fault
    c.told_behind.result c.in-Err.ensures.err (rw c.item_error-error.ensures at (c.told_behind.ensures.told tells))
