use Rattle.std.proofs.Common.{◌≤◌, ◌+◌, ◌∷◌, [], rules, length, IsTrue, ap}
use Rattle.protox_file_sources.specs.Library.{Library}
use Rattle.protox_file_sources.specs.Causes.{FaultCause}
use Rattle.protox_compile_walk.specs.Resume.{Follows}
use Rattle.std.specs.Option.{option_copied}
use Rattle.protox_compile_walk.proofs.Roots.{root_limit, root_follows, root_stops, root_walk}
use Rattle.protox_compile_walk.proofs.Walks.{later_files, later_ends}
use Rattle.protox_compile_walk.proofs.Causes.{root_cause, root_step_cause}
use Rattle.protox_compile_walk.proofs.Openings.{fault_since}
use Rattle.protox_compile_walk.proofs.walk.visit_root.Goals as goal

pub returns-then-len-limit-clause-err : goal.returns-then-len-limit-clause-err
returns-then-len-limit-clause-err g c tells = rw c.too_many.ensures (root_limit c.args.limit (option_copied c.args.asked) c.args.root.now c.args.done.now (g.R.FileResolver.library c.args.resolver.now).files (search rules))

pub returns-in-Ok-clause-ok : goal.returns-in-Ok-clause-ok
returns-in-Ok-clause-ok g c tells =
    let room : length c.args.done.now + 1 ≤ c.args.limit = search rules in
    let told : IsTrue (g.R.FileResolver.library c.open_frame.new.resolver).tells = rw c.open_frame.ensures.keeps tells in
    let follows : Follows (g.R.FileResolver.library c.args.resolver.now).files (root_walk c.args.limit (option_copied c.args.asked) c.args.root.now c.args.done.now) c.args.limit (c.in-Ok.frame ∷ []) c.args.done.now
    = root_follows c.args.limit (option_copied c.args.asked) c.args.root.now c.args.done.now room (g.R.FileResolver.library c.args.resolver.now).files c.in-Ok.frame c.in-Ok.ensures.fresh.0 (c.in-Ok.ensures.opened tells) c.in-Ok.ensures.unshadowed in
    later_files (g.R.FileResolver.library c.args.resolver.now).files (g.R.FileResolver.library c.open_frame.new.resolver).files _ _ _ _ _ _ (ap (λ (l : Library). l.files) c.open_frame.ensures.keeps) (c.finish_all.ensures.ok told) follows

pub returns-in-Ok-clause-err : goal.returns-in-Ok-clause-err
returns-in-Ok-clause-err g c tells =
    let room : length c.args.done.now + 1 ≤ c.args.limit = search rules in
    let told : IsTrue (g.R.FileResolver.library c.open_frame.new.resolver).tells = rw c.open_frame.ensures.keeps tells in
    let follows : Follows (g.R.FileResolver.library c.args.resolver.now).files (root_walk c.args.limit (option_copied c.args.asked) c.args.root.now c.args.done.now) c.args.limit (c.in-Ok.frame ∷ []) c.args.done.now
    = root_follows c.args.limit (option_copied c.args.asked) c.args.root.now c.args.done.now room (g.R.FileResolver.library c.args.resolver.now).files c.in-Ok.frame c.in-Ok.ensures.fresh.0 (c.in-Ok.ensures.opened tells) c.in-Ok.ensures.unshadowed in
    later_ends (g.R.FileResolver.library c.args.resolver.now).files (g.R.FileResolver.library c.open_frame.new.resolver).files c.args.limit _ _ _ c.finish_all.result c.args.root.now _ (ap (λ (l : Library). l.files) c.open_frame.ensures.keeps) (c.finish_all.ensures.err told) follows

pub returns-in-Err-clause-err : goal.returns-in-Err-clause-err
returns-in-Err-clause-err g c tells =
    let room : length c.args.done.now + 1 ≤ c.args.limit = search rules in
    root_stops c.args.limit (option_copied c.args.asked) c.args.root.now c.args.done.now room (g.R.FileResolver.library c.args.resolver.now).files c.in-Err.error (c.in-Err.ensures.stopped tells)

pub returns-in-Ok-clause-cause : goal.returns-in-Ok-clause-cause
returns-in-Ok-clause-cause g c = root_step_cause _ c.args.limit _ _ _ c.finish_all.result (fault_since (g.R.FileResolver.library c.args.resolver.now) _ _ _ _ c.open_frame.ensures.keeps c.open_frame.ensures.later) c.finish_all.ensures.cause

pub returns-in-Err-clause-cause : goal.returns-in-Err-clause-cause
returns-in-Err-clause-cause g c = root_cause (option_copied c.args.asked) c.args.limit _ (FaultCause (g.R.FileResolver.library c.args.resolver.now) (g.R.FileResolver.count c.args.resolver.now) (g.R.FileResolver.count c.open_frame.new.resolver)) c.in-Err.error c.in-Err.ensures.cause
