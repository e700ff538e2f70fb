use Rattle.protox_words.specs.Words.{args_of}
use Rattle.protox_words.specs.Told.{args_told}
use Rattle.protox_run.specs.Told.{ended}
use Rattle.protox_run.proofs.Endings.{some_words, ends_some, reads_some, on_done, done_then, has_notes}
use Rattle.protox_run.proofs.top.obey.Goals as goal

pub returns-in-Ok-clause-told : goal.returns-in-Ok-clause-told
returns-in-Ok-clause-told g c disk input out =
    some_words (args_of c.args.words.now) (args_told c.in-Ok.args) _ _ _ _ _ _ _ (ended c.work-disk.result.ended) c.in-Ok.ensures.ok (c.work-disk.ensures.told disk input out)

pub returns-in-Ok-clause-cause : goal.returns-in-Ok-clause-cause
returns-in-Ok-clause-cause g c = ends_some (args_of c.args.words.now) (args_told c.in-Ok.args) _ _ _ (ended c.work-disk.result.ended) c.in-Ok.ensures.ok c.work-disk.ensures.cause

pub returns-in-Ok-clause-read : goal.returns-in-Ok-clause-read
returns-in-Ok-clause-read g c input =
    reads_some (args_of c.args.words.now) (args_told c.in-Ok.args) _ _ _ c.in-Ok.ensures.ok ((λ asked done. on_done c.work-disk.result.ended (c.work-disk.ensures.end input asked) done), c.work-disk.ensures.unread)

pub returns-in-Ok-clause-notes : goal.returns-in-Ok-clause-notes
returns-in-Ok-clause-notes g c disk =
    done_then c.work-disk.result.ended (λ same. has_notes (args_of c.args.words.now) (args_told c.in-Ok.args) c.work-disk.result.repeated c.in-Ok.ensures.ok same) (c.work-disk.ensures.repeated disk)
