use Rattle.std.proofs.Common.{string_bytes, option_map}
use Rattle.protox_run.specs.Told.{stop_told, writes_told, line_told}
use Rattle.protox_run.proofs.Causes.{carry_in}
use Rattle.protox_run.proofs.Endings.{prints, write_stops}
use Rattle.protox_run.proofs.Judged.{err_then}
use Rattle.protox_run.proofs.carry.carry.Goals as goal

pub returns-in-Ok-clause-told : goal.returns-in-Ok-clause-told
returns-in-Ok-clause-told g c disk out =
    prints (writes_told c.args.ready.now) (line_told (option_map string_bytes c.args.ready.now.line)) _ _ _ _ c.print.result _ _ (c.in-Ok.ensures.told disk) c.print.ensures.stop c.print.ensures.refused
    (c.print.ensures.told out)

pub returns-in-Ok-clause-cause : goal.returns-in-Ok-clause-cause
returns-in-Ok-clause-cause g c = err_then c.print.result (λ stop h. carry_in _ _ _ _ (stop_told stop) (λ z. absurd z) (λ z. z) h) c.print.ensures.cause

pub returns-in-Err-clause-told : goal.returns-in-Err-clause-told
returns-in-Err-clause-told g c disk out =
    write_stops (writes_told c.args.ready.now) (line_told (option_map string_bytes c.args.ready.now.line)) _ _ _ _ (stop_told c.in-Err.stop) _ c.in-Err.ensures.stop c.in-Err.ensures.cause (c.in-Err.ensures.told disk)

pub returns-in-Err-clause-cause : goal.returns-in-Err-clause-cause
returns-in-Err-clause-cause g c = carry_in _ _ _ _ (stop_told c.in-Err.stop) (λ z. z) (λ z. absurd z) c.in-Err.ensures.cause
