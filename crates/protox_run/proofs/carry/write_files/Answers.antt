use Rattle.protox_io.proofs.Counts.{rose_later}
use Rattle.protox_run.specs.Told.{stop_told, write_told}
use Rattle.protox_run.proofs.Causes.{carry_in}
use Rattle.protox_run.proofs.Endings.{wrote_after, write_first, first_stop, second_stop}
use Rattle.protox_run.proofs.Judged.{err_then}
use Rattle.protox_run.proofs.carry.write_files.Goals as goal

pub returns-in-Ok-clause-told : goal.returns-in-Ok-clause-told
returns-in-Ok-clause-told g c tells =
    wrote_after (write_told c.args.ready.now.set) (write_told c.args.ready.now.wire) _ _ _ c.write_file-in-Ok.result (c.in-Ok.ensures.told tells) (c.write_file-in-Ok.ensures.told (rw c.in-Ok.ensures.lasts.0 tells))

pub returns-in-Ok-clause-stop : goal.returns-in-Ok-clause-stop
returns-in-Ok-clause-stop g c = err_then c.write_file-in-Ok.result (λ stop h. second_stop (write_told c.args.ready.now.set) (write_told c.args.ready.now.wire) (stop_told stop) h) c.write_file-in-Ok.ensures.stop

pub returns-in-Ok-clause-cause : goal.returns-in-Ok-clause-cause
returns-in-Ok-clause-cause g c = err_then c.write_file-in-Ok.result (λ stop h. carry_in _ _ _ _ (stop_told stop) (rose_later _ _ _ c.in-Ok.ensures.lasts.1) (λ z. z) h) c.write_file-in-Ok.ensures.cause

pub returns-in-Err-clause-told : goal.returns-in-Err-clause-told
returns-in-Err-clause-told g c tells = write_first (write_told c.args.ready.now.set) (write_told c.args.ready.now.wire) _ _ (stop_told c.in-Err.stop) (c.in-Err.ensures.told tells)

pub returns-in-Err-clause-stop : goal.returns-in-Err-clause-stop
returns-in-Err-clause-stop g c = first_stop (write_told c.args.ready.now.set) (write_told c.args.ready.now.wire) (stop_told c.in-Err.stop) c.in-Err.ensures.stop
