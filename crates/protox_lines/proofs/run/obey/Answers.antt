use Rattle.std.proofs.Common.{◌≡◌, ◌∙◌, Some, Err, rules}
use Rattle.protox_io.specs.Count.{Rose}
use Rattle.protox_lines.specs.Run.{asked as asked_of}
use Rattle.protox_lines.specs.Running.{request_told}
use Rattle.protox_lines.proofs.Runs.{converted_told, unread_told, unmade_told, for_request, no_usage, for_cause, for_causes, set_usage, set_cause, stream_usage, stream_run_cause, unmade_usage, unmade_cause}
use Rattle.protox_lines.proofs.run.obey.Goals as goal

pub returns-in-Err-clause-told : goal.returns-in-Err-clause-told
returns-in-Err-clause-told g c d s t =
    let q = request_told c.in-Some.request in
    let asked : asked_of c.args.words.now ≡ Some q = search rules in
    for_request {T = Unit {0}} (asked_of c.args.words.now) q (g.D.Disk.volume c.args.disk.now) (g.S.Source.input c.args.input.now).left (Err c.in-Err.stop) (g.K.Sink.output c.args.out.now).held
    (g.K.Sink.output c.args.out.now).held asked (unread_told q (g.D.Disk.volume c.args.disk.now) (g.S.Source.input c.args.input.now).left (g.K.Sink.output c.args.out.now).held
    c.in-Err.stop (c.in-Err.ensures.stop d))

pub returns-in-Err-clause-words : goal.returns-in-Err-clause-words
returns-in-Err-clause-words g c =
    let q = request_told c.in-Some.request in
    let asked : asked_of c.args.words.now ≡ Some q = search rules in
    no_usage (asked_of c.args.words.now) q _ asked
    (set_usage q (Rose (g.D.Disk.count c.args.disk.now) (g.D.Disk.count c.read_pool.new.disk)) c.in-Err.stop c.in-Err.ensures.cause)

pub returns-in-Err-clause-cause : goal.returns-in-Err-clause-cause
returns-in-Err-clause-cause g c =
    let q = request_told c.in-Some.request in
    let asked : asked_of c.args.words.now ≡ Some q = search rules in
    for_cause (asked_of c.args.words.now) q (Rose (g.D.Disk.count c.args.disk.now) (g.D.Disk.count c.read_pool.new.disk))
    (Rose (g.S.Source.count c.args.input.now) (g.S.Source.count c.args.input.now)) (Rose (g.K.Sink.count c.args.out.now) (g.K.Sink.count c.args.out.now)) c.in-Err.stop asked
    (set_cause q (Rose (g.D.Disk.count c.args.disk.now) (g.D.Disk.count c.read_pool.new.disk))
    (Rose (g.S.Source.count c.args.input.now) (g.S.Source.count c.args.input.now)) (Rose (g.K.Sink.count c.args.out.now) (g.K.Sink.count c.args.out.now)) c.in-Err.stop
    c.in-Err.ensures.cause)

pub returns-in-Ok-new-clause-told : goal.returns-in-Ok-new-clause-told
returns-in-Ok-new-clause-told g c d s t =
    let q = request_told c.in-Some.request in
    let asked : asked_of c.args.words.now ≡ Some q = search rules in
    for_request (asked_of c.args.words.now) q (g.D.Disk.volume c.args.disk.now) (g.S.Source.input c.args.input.now).left c.convert.result (g.K.Sink.output c.args.out.now).held
    (g.K.Sink.output c.convert.new.out).held asked (converted_told q (g.D.Disk.volume c.args.disk.now) (g.S.Source.input c.args.input.now).left c.in-Ok.pool c.in-Ok-new.converter
    c.convert.result (g.K.Sink.output c.args.out.now).held (g.K.Sink.output c.convert.new.out).held (c.in-Ok.ensures.pool d) c.in-Ok-new.ensures.made (c.convert.ensures.told s t))

pub returns-in-Ok-new-clause-words : goal.returns-in-Ok-new-clause-words
returns-in-Ok-new-clause-words g c =
    let q = request_told c.in-Some.request in
    let asked : asked_of c.args.words.now ≡ Some q = search rules in
    no_usage (asked_of c.args.words.now) q c.convert.result asked
    (stream_usage q (Rose (g.S.Source.count c.args.input.now) (g.S.Source.count c.convert.new.input)) (Rose (g.K.Sink.count c.args.out.now) (g.K.Sink.count c.convert.new.out))
    c.convert.result c.convert.ensures.cause)

pub returns-clause-told : goal.returns-clause-told
returns-clause-told g c d s t =
    let q = request_told c.in-Some.request in
    let asked : asked_of c.args.words.now ≡ Some q = search rules in
    for_request {T = Unit {0}} (asked_of c.args.words.now) q (g.D.Disk.volume c.args.disk.now) (g.S.Source.input c.args.input.now).left (Err c.converter_stop.result) (g.K.Sink.output c.args.out.now).held
    (g.K.Sink.output c.args.out.now).held asked (unmade_told q (g.D.Disk.volume c.args.disk.now) (g.S.Source.input c.args.input.now).left (g.K.Sink.output c.args.out.now).held
    c.in-Ok.pool c.in-Err-new.error c.converter_stop.result (c.in-Ok.ensures.pool d) c.in-Err-new.ensures.refused c.converter_stop.ensures)

pub returns-clause-words : goal.returns-clause-words
returns-clause-words g c =
    let q = request_told c.in-Some.request in
    let asked : asked_of c.args.words.now ≡ Some q = search rules in
    no_usage (asked_of c.args.words.now) q _ asked (unmade_usage q c.in-Err-new.error c.converter_stop.result c.converter_stop.ensures)

pub returns-clause-cause : goal.returns-clause-cause
returns-clause-cause g c =
    let q = request_told c.in-Some.request in
    let asked : asked_of c.args.words.now ≡ Some q = search rules in
    for_cause (asked_of c.args.words.now) q (Rose (g.D.Disk.count c.args.disk.now) (g.D.Disk.count c.read_pool.new.disk))
    (Rose (g.S.Source.count c.args.input.now) (g.S.Source.count c.args.input.now)) (Rose (g.K.Sink.count c.args.out.now) (g.K.Sink.count c.args.out.now)) c.converter_stop.result asked
    (unmade_cause q (Rose (g.D.Disk.count c.args.disk.now) (g.D.Disk.count c.read_pool.new.disk))
    (Rose (g.S.Source.count c.args.input.now) (g.S.Source.count c.args.input.now)) (Rose (g.K.Sink.count c.args.out.now) (g.K.Sink.count c.args.out.now))
    c.in-Err-new.error c.converter_stop.result c.converter_stop.ensures)

pub returns-in-Ok-new-clause-cause : goal.returns-in-Ok-new-clause-cause
returns-in-Ok-new-clause-cause g c =
    let q = request_told c.in-Some.request in
    let asked : asked_of c.args.words.now ≡ Some q = search rules in
    for_causes (asked_of c.args.words.now) q (Rose (g.D.Disk.count c.args.disk.now) (g.D.Disk.count c.read_pool.new.disk))
    (Rose (g.S.Source.count c.args.input.now) (g.S.Source.count c.convert.new.input)) (Rose (g.K.Sink.count c.args.out.now) (g.K.Sink.count c.convert.new.out)) c.convert.result asked
    (stream_run_cause q (Rose (g.D.Disk.count c.args.disk.now) (g.D.Disk.count c.read_pool.new.disk))
    (Rose (g.S.Source.count c.args.input.now) (g.S.Source.count c.convert.new.input)) (Rose (g.K.Sink.count c.args.out.now) (g.K.Sink.count c.convert.new.out)) c.convert.result
    c.convert.ensures.cause)
