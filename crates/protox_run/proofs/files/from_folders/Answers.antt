use Rattle.std.proofs.Common.{◌≡◌, ◌∙◌, ◌+◌, IfOk, IfErr, ℕ, string_bytes, option_map}
use Rattle.protox_io.specs.Count.{RoseTimes}
use Rattle.protox_compile.specs.Repeats.{repeats}
use Rattle.protox_compile.proofs.Kept.{disk_keeps}
use Rattle.protox_compile.proofs.Standard.{of_folders}
use Rattle.protox_words.specs.Words.{folders, retries_of}
use Rattle.protox_words.specs.Told.{args_told}
use Rattle.protox_run.specs.Class.{folder_files}
use Rattle.protox_run.specs.Parts.{Makes, IsJobRefusal}
use Rattle.protox_run.specs.Told.{writes_told, line_told}
use Rattle.protox_run.proofs.Judged.{handed, stopped_by, err_both, folder_repeats, folder_stop, folder_caused, folder_library, of_disk}
use Rattle.protox_run.proofs.files.from_folders.Goals as goal

pub returns-clause-done : goal.returns-clause-done
returns-clause-done g c tells =
    let a = args_told c.args.args.now in
    let volume = g.D.Disk.volume c.args.disk in
    let told = of_folders g.D.Disk.volume c.in-Ok.files c.args.disk (folders a)
    (λ l. IfOk c.make-resolver.result.1 (λ ready. Makes c.args.job a l (writes_told ready) (line_told (option_map string_bytes ready.line))))
    c.in-Ok.ensures.ok c.make-resolver.ensures.ok tells in
    handed c.make-resolver.result.1 c.or_stop-result.result c.or_stop-result.ensures (λ ready made. (folder_files a volume, folder_library a c.requires volume, made)) told

pub returns-clause-repeated : goal.returns-clause-repeated
returns-clause-repeated g c tells =
    let a = args_told c.args.args.now in
    let told = of_folders g.D.Disk.volume c.in-Ok.files c.args.disk (folders a) (λ l. IfOk c.make-resolver.result.1 (λ ready. ready.repeated ≡ repeats l.resolves a.files))
    c.in-Ok.ensures.ok c.make-resolver.ensures.repeated tells in
    handed c.make-resolver.result.1 c.or_stop-result.result c.or_stop-result.ensures (λ ready same. same ∙ folder_repeats a (g.D.Disk.volume c.args.disk) c.requires) told

pub returns-clause-stop : goal.returns-clause-stop
returns-clause-stop g c tells =
    let a = args_told c.args.args.now in
    let told = of_folders g.D.Disk.volume c.in-Ok.files c.args.disk (folders a) (λ l. IfErr c.make-resolver.result.1 (IsJobRefusal c.args.job a l))
    c.in-Ok.ensures.ok c.make-resolver.ensures.err tells in
    stopped_by c.make-resolver.result.1 c.or_stop-result.result c.or_stop-result.ensures
    (λ error stop is both. folder_stop a c.requires c.args.job (g.D.Disk.volume c.args.disk) error
    (RoseTimes (retries_of a + 1) (g.D.Disk.count c.args.disk) (g.D.Disk.count c.into_disk-disk.result)) stop is
    (of_disk g.D.Disk.volume g.D.Disk.count a (retries_of a + 1) c.in-Ok.files c.make-resolver.result.0 c.args.disk c.into_disk-disk.result error c.in-Ok.ensures.ok
    c.into_disk-disk.ensures both.0)
    both.1)
    (err_both _ _ c.make-resolver.result.1 c.make-resolver.ensures.cause told)

pub returns-clause-cause : goal.returns-clause-cause
returns-clause-cause g c =
    let a = args_told c.args.args.now in
    stopped_by c.make-resolver.result.1 c.or_stop-result.result c.or_stop-result.ensures
    (λ error stop is cause. folder_caused a c.requires error (λ times. RoseTimes times (g.D.Disk.count c.args.disk) (g.D.Disk.count c.into_disk-disk.result)) stop is
    (of_disk g.D.Disk.volume g.D.Disk.count a (retries_of a + 1) c.in-Ok.files c.make-resolver.result.0 c.args.disk c.into_disk-disk.result error c.in-Ok.ensures.ok
    c.into_disk-disk.ensures cause))
    c.make-resolver.ensures.cause

pub returns-clause-keeps : goal.returns-clause-keeps
returns-clause-keeps g c =
    (disk_keeps g.D.Disk.volume g.D.Disk.count (folders (args_told c.args.args.now)) c.in-Ok.files c.make-resolver.result.0 c.args.disk c.into_disk-disk.result c.in-Ok.ensures.ok c.into_disk-disk.ensures
    c.make-resolver.ensures.keeps).keeps

pub returns-clause-later : goal.returns-clause-later
returns-clause-later g c =
    (disk_keeps g.D.Disk.volume g.D.Disk.count (folders (args_told c.args.args.now)) c.in-Ok.files c.make-resolver.result.0 c.args.disk c.into_disk-disk.result c.in-Ok.ensures.ok c.into_disk-disk.ensures
    c.make-resolver.ensures.keeps).later
