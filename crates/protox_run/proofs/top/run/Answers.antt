use Rattle.std.proofs.Common.{ℕ, List}
use Rattle.protox_io.specs.Count.{Rose}
use Rattle.protox_io.specs.Sink.{Says, SinkRefuses}
use Rattle.protox_words.specs.Words.{args_of}
use Rattle.protox_run.specs.Told.{ended, line_of, notes_told}
use Rattle.protox_run.proofs.Endings.{on_done, small, ran_words, ran_outcome, ran_memory, ran_stopped, ran_input, failed, rose_of, reached, ran_left, line_is}
use Rattle.protox_run.proofs.top.run.Goals as goal

pub returns : goal.returns
returns g c =
    let e = ended c.obey-disk.result.ended in
    let notes = notes_told c.obey-disk.result.notes in
    let read = args_of c.args.words.now in
    let is = c.report-status.ensures.status in
    let T : List ℕ → Type 0 =
    λ line. Says (g.E.Sink.output c.args.err.now).tells
    (SinkRefuses (Rose (g.E.Sink.count c.args.err.now) (g.E.Sink.count c.report-status.new.err)) (g.E.Sink.output c.report-status.new.err).short)
    (g.E.Sink.output c.args.err.now).held (g.E.Sink.output c.report-status.new.err).held line in
    record {
      status = small e _ is;
      words = ran_words read _ _ _ e _ notes T is c.obey-disk.ensures.cause c.report-status.ensures.said;
      outcome = λ all few. (line_of notes e, ran_outcome _ _ _ _ _ read e notes _ _ _ (on_done c.obey-disk.result.ended (c.obey-disk.ensures.notes all.disk)) is few (c.obey-disk.ensures.told all.disk all.input all.out), c.report-status.ensures.said);
      fault = λ three.
          let it = failed e _ is three in
          record {
            object = it.0;
            rose = rose_of read _ _ _ it.0 e it.1 c.obey-disk.ensures.cause;
            reached = λ all. reached read _ _ _ _ _ it.0 e _ _ it.1 (c.obey-disk.ensures.told all.disk all.input all.out);
            left = λ all. ran_left read _ _ _ _ _ it.0 e _ _ it.1 (c.obey-disk.ensures.told all.disk all.input all.out);
            line = line_is it.0 e notes T it.1 c.report-status.ensures.said;
          };
      memory = ran_memory e _ notes T is c.report-status.ensures.said;
      stopped = λ all many. ran_stopped _ _ _ _ _ read e _ _ _ is many (c.obey-disk.ensures.told all.disk all.input all.out);
      input = λ tells. ran_input read _ _ e _ is (c.obey-disk.ensures.read tells);
      stays = record { disk = c.obey-disk.ensures.disk_lasts; input = c.obey-disk.ensures.lasts; out = c.obey-disk.ensures.out_lasts; err = c.report-status.ensures.lasts };
    }
