use Rattle.std.proofs.Common.{◌≡◌}
use Rattle.protox_lines.specs.Run.{ToRecords, ToLines}
use Rattle.protox_lines.proofs.Runs.{stream_ends}
use Rattle.protox_lines.proofs.run.convert.Goals as goal

pub returns-in-ToRecords-clause-told : goal.returns-in-ToRecords-clause-told
returns-in-ToRecords-clause-told g c s t =
    rw c.in-ToRecords.is (stream_ends ToRecords c.args.converter.now (g.S.Source.input c.args.input.now).left c.lines_to_records.result c.ended.result
    (g.K.Sink.output c.args.out.now).held (g.K.Sink.output c.lines_to_records.new.out).held c.ended.ensures (c.lines_to_records.ensures.told s t))

pub returns-in-ToLines-clause-told : goal.returns-in-ToLines-clause-told
returns-in-ToLines-clause-told g c s t =
    rw c.in-ToLines.is (stream_ends ToLines c.args.converter.now (g.S.Source.input c.args.input.now).left c.records_to_lines.result c.ended-in-ToLines.result
    (g.K.Sink.output c.args.out.now).held (g.K.Sink.output c.records_to_lines.new.out).held c.ended-in-ToLines.ensures (c.records_to_lines.ensures.told s t))
