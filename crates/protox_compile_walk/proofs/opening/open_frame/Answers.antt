use Rattle.std.proofs.Common.{◌≡◌, false, true, rules, sym}
use Rattle.std.specs.Prelude.{Some}
use Rattle.std.specs.Str.{bytes_eq}
use Rattle.protox_io.specs.Count.{Rose}
use Rattle.protox_compile_walk.specs.Walk.{declared_name}
use Rattle.std.specs.Option.{option_copied}
use Rattle.protox_compile_walk.proofs.Lookups.{stops_refused, stops_mismatch, stops_shadowed}
use Rattle.protox_compile_walk.proofs.Causes.{open_cause}
use Rattle.protox_compile_walk.proofs.opening.open_frame.Goals as goal

pub returns-in-Err-clause-stopped : goal.returns-in-Err-clause-stopped
returns-in-Err-clause-stopped g c tells =
    stops_refused c.args.name.now ((g.R.FileResolver.library c.args.resolver.now).files c.args.name.now) (option_copied c.args.asked) (g.R.FileResolver.library c.args.resolver.now).may_fail (Rose (g.R.FileResolver.count c.args.resolver.now) (g.R.FileResolver.count c.open_file.new.self)) c.in-Err.error (c.in-Err.ensures.told tells) c.in-Err.ensures.cause

pub returns-then-not-is_named-clause-stopped : goal.returns-then-not-is_named-clause-stopped
returns-then-not-is_named-clause-stopped g c tells =
    let other : bytes_eq (declared_name c.in-Ok.file) c.args.name.now ≡ false = sym c.if-not-is_named.ensures in
    stops_mismatch c.args.name.now ((g.R.FileResolver.library c.args.resolver.now).files c.args.name.now) (option_copied c.args.asked) c.in-Ok.file c.mismatch-error.result (c.in-Ok.ensures.told tells) other c.mismatch-error.ensures

pub returns-in-Some-clause-stopped : goal.returns-in-Some-clause-stopped
returns-in-Some-clause-stopped g c tells =
    let declared : bytes_eq (declared_name c.in-Ok.file) c.args.name.now ≡ true = sym c.if-not-is_named.ensures in
    let path : c.in-Ok.file.path ≡ Some c.in-Some.shadow.now = search rules in
    stops_shadowed c.args.name.now ((g.R.FileResolver.library c.args.resolver.now).files c.args.name.now) (option_copied c.args.asked) c.in-Ok.file c.in-Some.path.now c.in-Some.shadow.now c.shadowed-error.result
    (c.in-Ok.ensures.told tells) declared c.in-Some.ensures.0 path c.in-Some.ensures.2 c.shadowed-error.ensures

pub returns-in-Err-clause-cause : goal.returns-in-Err-clause-cause
returns-in-Err-clause-cause g c = open_cause (g.R.FileResolver.library c.args.resolver.now) (g.R.FileResolver.count c.args.resolver.now) (g.R.FileResolver.count c.open_file.new.self) (option_copied c.args.asked) c.args.name.now c.in-Err.error c.in-Err.ensures.cause
