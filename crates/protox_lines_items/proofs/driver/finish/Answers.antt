use Rattle.std.proofs.Common.{◌∙◌}
use Rattle.protox_io.specs.Count.{Rose}
use Rattle.protox_lines_items.proofs.Endings.{all_written, unwritten_ends, sink_any}
use Rattle.protox_lines_items.proofs.driver.finish.Goals as goal

pub returns-in-Ok-flush-clause-told : goal.returns-in-Ok-flush-clause-told
returns-in-Ok-flush-clause-told g c tells first read items p short =
    all_written g.C.Cutter.cuts (g.V.ConvertItem.converted c.args.converter.now) (g.V.ConvertItem.faulty c.args.converter.now) first
    (g.K.Sink.output c.take_last.new.out).held c.take_last.new.written.gathered c.take_last.new.written.count read (g.K.Sink.output c.flush.new.out).held c.flush.new.gathered
    (c.in-Ok.ensures.goes tells first read items p short) (c.in-Ok-flush.ensures.told (c.take_last.ensures.keeps_tells ∙ tells)) c.in-Ok-flush.ensures.none

pub returns-in-Err-flush-clause-told : goal.returns-in-Err-flush-clause-told
returns-in-Err-flush-clause-told g c tells first read items p short =
    unwritten_ends g.C.Cutter.cuts (g.V.ConvertItem.converted c.args.converter.now) (g.V.ConvertItem.faulty c.args.converter.now) first
    (g.K.Sink.output c.take_last.new.out).held c.take_last.new.written.gathered c.take_last.new.written.count read (g.K.Sink.output c.flush.new.out).held
    c.in-Err-flush.error (c.in-Ok.ensures.goes tells first read items p short)
    (sink_any (Rose (g.K.Sink.count c.take_last.new.out) (g.K.Sink.count c.flush.new.out)) c.in-Err-flush.error c.in-Err-flush.ensures.cause)
    (c.in-Err-flush.ensures.told (c.take_last.ensures.keeps_tells ∙ tells))
