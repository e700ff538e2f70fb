use Rattle.std.proofs.Common.{◌≡◌, ◌∙◌, ◌+◌, refl, ℕ}
use Rattle.protox_io.specs.Count.{RoseTimes, counted}
use Rattle.protox_file.specs.Listed.{listed_files}
use Rattle.protox_words.specs.Words.{retries_of}
use Rattle.protox_words.specs.Told.{args_told}
use Rattle.protox_run.specs.Told.{stop_told}
use Rattle.protox_run.proofs.Causes.{rose_once}
use Rattle.protox_run.proofs.Judged.{handed, stopped_by, err_both, set_library, set_stop, set_caused_by, set_repeats, read_stop, read_caused}
use Rattle.protox_run.proofs.files.from_set.Goals as goal

pub returns-in-Err-clause-stop : goal.returns-in-Err-clause-stop
returns-in-Err-clause-stop g c tells =
    read_stop (args_told c.args.args.now) c.args.path.now c.requires c.args.job (g.D.Disk.volume c.args.disk) (stop_told c.in-Err.stop) (c.in-Err.ensures.stop tells)

pub returns-in-Err-clause-cause : goal.returns-in-Err-clause-cause
returns-in-Err-clause-cause g c =
    read_caused (args_told c.args.args.now) c.args.path.now c.requires _ (λ times. RoseTimes times (g.D.Disk.count c.args.disk) (g.D.Disk.count c.read_set.new.disk)) (stop_told c.in-Err.stop)
    (rose_once (g.D.Disk.count c.args.disk) (g.D.Disk.count c.read_set.new.disk)) c.in-Err.ensures.cause

pub returns-clause-done : goal.returns-clause-done
returns-clause-done g c tells =
    handed c.make-files.result.1 c.or_stop-result.result c.or_stop-result.ensures
    (λ ready made. (
      listed_files c.in-Ok.files,
      set_library (args_told c.args.args.now) c.args.path.now c.requires (g.D.Disk.volume c.args.disk) c.in-Ok.files (c.in-Ok.ensures.files tells),
      made,
    ))
    (c.make-files.ensures.ok refl)

pub returns-clause-repeated : goal.returns-clause-repeated
returns-clause-repeated g c tells =
    handed c.make-files.result.1 c.or_stop-result.result c.or_stop-result.ensures (λ ready same. same ∙ set_repeats (args_told c.args.args.now) c.args.path.now c.requires)
    (c.make-files.ensures.repeated refl)

pub returns-clause-stop : goal.returns-clause-stop
returns-clause-stop g c tells =
    let a = args_told c.args.args.now in
    stopped_by c.make-files.result.1 c.or_stop-result.result c.or_stop-result.ensures
    (λ error stop is both. set_stop a c.args.path.now c.requires c.args.job (g.D.Disk.volume c.args.disk) c.in-Ok.files (retries_of a + 1) (counted 0) (counted 0) error stop
    (c.in-Ok.ensures.files tells) is both.0 both.1)
    (err_both _ _ c.make-files.result.1 c.make-files.ensures.cause (c.make-files.ensures.err refl))

pub returns-clause-cause : goal.returns-clause-cause
returns-clause-cause g c =
    let a = args_told c.args.args.now in
    stopped_by c.make-files.result.1 c.or_stop-result.result c.or_stop-result.ensures
    (λ error stop is cause. set_caused_by a c.in-Ok.files (retries_of a + 1) (counted 0) (counted 0) error
    (λ times. RoseTimes times (g.D.Disk.count c.args.disk) (g.D.Disk.count c.read_set.new.disk)) stop is cause)
    c.make-files.ensures.cause
