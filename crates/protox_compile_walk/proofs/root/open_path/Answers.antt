use Rattle.std.proofs.Common.{◌≡◌}
use Rattle.std.specs.Prelude.{Some, None}
use Rattle.protox_compile_walk.specs.Opening.{root_of, asked_path}
use Rattle.protox_compile_walk.proofs.Openings.{path_accepts, path_refuses, path_unknown, path_memory, path_reports, root_found, root_missing, settled_found}
use Rattle.protox_compile_walk.proofs.root.open_path.Goals as goal

pub returns-in-Ok-Some-clause-ok : goal.returns-in-Ok-Some-clause-ok
returns-in-Ok-Some-clause-ok g c tells =
    let root : root_of (g.R.FileResolver.library c.args.resolver.now).resolves c.args.path.now ≡ Some (c.as_str.result.now, asked_path c.in-Ok-Some.resolved c.args.path.now) = root_found _ c.args.path.now c.in-Ok-Some.name c.as_str.result.now c.in-Ok-Some.resolved c.in-Ok-Some.field-0 (c.in-Ok-Some.ensures.root tells) (cc) c.as_str.ensures in
    path_accepts (g.R.FileResolver.library c.args.resolver.now).files (g.R.FileResolver.library c.args.resolver.now).resolves c.args.limit c.args.path.now c.args.done.now c.as_str.result.now _ root _ c.open_name.result (c.open_name.ensures.ok tells)

pub returns-in-Ok-Some-clause-err : goal.returns-in-Ok-Some-clause-err
returns-in-Ok-Some-clause-err g c tells =
    let root : root_of (g.R.FileResolver.library c.args.resolver.now).resolves c.args.path.now ≡ Some (c.as_str.result.now, asked_path c.in-Ok-Some.resolved c.args.path.now) = root_found _ c.args.path.now c.in-Ok-Some.name c.as_str.result.now c.in-Ok-Some.resolved c.in-Ok-Some.field-0 (c.in-Ok-Some.ensures.root tells) (cc) c.as_str.ensures in
    path_refuses (g.R.FileResolver.library c.args.resolver.now).files (g.R.FileResolver.library c.args.resolver.now).resolves c.args.limit c.args.path.now c.args.done.now c.as_str.result.now _ root _ c.open_name.result (c.open_name.ensures.err tells) c.open_name.ensures.root

pub returns-in-Ok-None-clause-err : goal.returns-in-Ok-None-clause-err
returns-in-Ok-None-clause-err g c tells =
    let root : root_of (g.R.FileResolver.library c.args.resolver.now).resolves c.args.path.now ≡ None = root_missing _ c.args.path.now c.in-Ok-None.field-0 (c.in-Ok-None.ensures.root tells) (cc) in
    path_unknown (g.R.FileResolver.library c.args.resolver.now).files (g.R.FileResolver.library c.args.resolver.now).resolves c.args.limit c.args.path.now c.args.done.now c.not_included.result root c.not_included.ensures

pub returns-in-Err-clause-err : goal.returns-in-Err-clause-err
returns-in-Err-clause-err g c tells = rw c.from.ensures (path_memory (g.R.FileResolver.library c.args.resolver.now).files (g.R.FileResolver.library c.args.resolver.now).resolves c.args.limit c.args.path.now c.args.done.now)

pub returns-in-Ok-Some-clause-again : goal.returns-in-Ok-Some-clause-again
returns-in-Ok-Some-clause-again g c tells settled =
    let root : root_of (g.R.FileResolver.library c.args.resolver.now).resolves c.args.path.now ≡ Some (c.as_str.result.now, asked_path c.in-Ok-Some.resolved c.args.path.now) = root_found _ c.args.path.now c.in-Ok-Some.name c.as_str.result.now c.in-Ok-Some.resolved c.in-Ok-Some.field-0 (c.in-Ok-Some.ensures.root tells) (cc) c.as_str.ensures in
    c.open_name.ensures.again (settled_found _ c.as_str.result.now _ c.args.done.now root settled)

pub returns-in-Ok-Some-clause-report : goal.returns-in-Ok-Some-clause-report
returns-in-Ok-Some-clause-report g c tells =
    let root : root_of (g.R.FileResolver.library c.args.resolver.now).resolves c.args.path.now ≡ Some (c.as_str.result.now, asked_path c.in-Ok-Some.resolved c.args.path.now) = root_found _ c.args.path.now c.in-Ok-Some.name c.as_str.result.now c.in-Ok-Some.resolved c.in-Ok-Some.field-0 (c.in-Ok-Some.ensures.root tells) (cc) c.as_str.ensures in
    path_reports (g.R.FileResolver.library c.args.resolver.now).resolves c.args.path.now c.as_str.result.now _ c.args.done.now c.open_name.result root c.open_name.ensures.report
