use Rattle.std.proofs.Common.{ℕ}
use Rattle.serde_json.specs.View.{view}
use Rattle.protox_io.specs.Count.{Rose, RoseTimes}
use Rattle.protox_words.specs.Told.{args_told}
use Rattle.protox_run.specs.Told.{stop_told}
use Rattle.protox_run.specs.declared.files.Job.TheVariants as jobs
use Rattle.protox_run.proofs.Causes.{of_input, of_files}
use Rattle.protox_run.proofs.Judged.{ok_then, err_then, input_judged, tree_judged}
use Rattle.protox_run.proofs.plan.plan_transcoding.Goals as goal

pub returns-in-Ok-clause-done : goal.returns-in-Ok-clause-done
returns-in-Ok-clause-done g c disk input =
    let read = c.in-Ok.ensures.ok input in
    ok_then c.from_files.result.result (λ ready h. (read.0, (view c.in-Ok.tree, read.1, h))) (c.from_files.ensures.done disk)

pub returns-in-Ok-clause-stop : goal.returns-in-Ok-clause-stop
returns-in-Ok-clause-stop g c disk input =
    let read = c.in-Ok.ensures.ok input in
    err_then c.from_files.result.result
    (λ stop h. tree_judged (args_told c.args.args.now) (jobs.Transcode c.args.name c.in-Ok.tree) c.args.name.now (g.D.Disk.volume c.args.disk) (g.S.Source.input c.args.input.now).left (view c.in-Ok.tree) (stop_told stop)
    read.0 read.1 (λ library line h. h) h)
    (c.from_files.ensures.stop disk)

pub returns-in-Ok-clause-cause : goal.returns-in-Ok-clause-cause
returns-in-Ok-clause-cause g c =
    err_then c.from_files.result.result
    (λ stop h. of_files (args_told c.args.args.now) (λ times. RoseTimes times (g.D.Disk.count c.args.disk) (g.D.Disk.count c.from_files.result.disk))
    (Rose (g.S.Source.count c.args.input.now) (g.S.Source.count c.read_tree.new.input)) ⊥ (stop_told stop) h)
    c.from_files.ensures.cause

pub returns-in-Err-clause-stop : goal.returns-in-Err-clause-stop
returns-in-Err-clause-stop g c disk input =
    input_judged (args_told c.args.args.now) c.args.name.now (g.D.Disk.volume c.args.disk) (g.S.Source.input c.args.input.now).left (stop_told c.in-Err.stop) (c.in-Err.ensures.stop input)

pub returns-in-Err-clause-cause : goal.returns-in-Err-clause-cause
returns-in-Err-clause-cause g c =
    of_input (args_told c.args.args.now) (Rose (g.S.Source.count c.args.input.now) (g.S.Source.count c.read_tree.new.input))
    (λ times. RoseTimes times (g.D.Disk.count c.args.disk) (g.D.Disk.count c.args.disk)) ⊥ (stop_told c.in-Err.stop) c.in-Err.ensures.cause
