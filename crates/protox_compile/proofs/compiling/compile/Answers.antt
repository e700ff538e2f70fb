use Rattle.std.proofs.Common.{◌≡◌, IfOk, IfErr}
use Rattle.protox_file_sources.specs.Causes.{FaultCause}
use Rattle.protox_compile.specs.Compiling.{Compiles, StopsCompiling, HasCompilingCause, whole_set}
use Rattle.protox_compile.proofs.Standard.{of_folders, of_counts}
use Rattle.protox_compile.proofs.compiling.compile.Goals as goal

pub returns-clause-ok : goal.returns-clause-ok
returns-clause-ok g c =
    of_folders g.D.Disk.volume c.in-Ok.resolver c.args.disk c.args.includes.now (λ l. IfOk c.compile_with-resolver.result.1 (λ set. Compiles l c.args.files.now (λ done. set ≡ whole_set done)))
    c.in-Ok.ensures.made c.compile_with-resolver.ensures.ok

pub returns-clause-err : goal.returns-clause-err
returns-clause-err g c =
    of_folders g.D.Disk.volume c.in-Ok.resolver c.args.disk c.args.includes.now (λ l. IfErr c.compile_with-resolver.result.1 (StopsCompiling l c.args.files.now))
    c.in-Ok.ensures.made c.compile_with-resolver.ensures.err

pub returns-clause-cause : goal.returns-clause-cause
returns-clause-cause g c =
    of_counts g.D.Disk.volume g.D.Disk.count c.in-Ok.resolver c.compile_with-resolver.result.0 c.args.disk c.into_disk.result c.args.includes.now
    (λ l before after. IfErr c.compile_with-resolver.result.1 (HasCompilingCause c.args.files.now (FaultCause l before after)))
    c.in-Ok.ensures.made c.into_disk.ensures c.compile_with-resolver.ensures.cause
