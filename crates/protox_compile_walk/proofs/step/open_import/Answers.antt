use Rattle.std.proofs.Common.{arith}
use Rattle.protox_file_sources.specs.Causes.{FaultCause}
use Rattle.protox_compile_walk.proofs.Causes.{import_cause}
use Rattle.protox_compile_walk.proofs.Steps.{ends_limit, visit_leads, ends_import}
use Rattle.protox_compile_walk.proofs.step.open_import.Goals as goal

pub returns-then-len-limit-clause-err : goal.returns-then-len-limit-clause-err
returns-then-len-limit-clause-err g c tells = rw c.too_many.ensures (ends_limit (g.R.FileResolver.library c.args.resolver.now).files c.args.limit c.args.current.now c.args.parents.now c.args.done.now c.args.name.now c.requires.more c.requires.visit.name_is c.requires.visit (omega arith))

pub returns-in-Ok-clause-child : goal.returns-in-Ok-clause-child
returns-in-Ok-clause-child g c tells = visit_leads (g.R.FileResolver.library c.args.resolver.now).files c.args.limit c.args.current.now c.args.parents.now c.args.done.now c.args.name.now c.requires.more c.requires.visit.name_is c.requires.visit (omega arith) c.in-Ok.child c.in-Ok.ensures.fresh.0 (c.in-Ok.ensures.opened tells)

pub returns-in-Err-clause-err : goal.returns-in-Err-clause-err
returns-in-Err-clause-err g c tells =
    ends_import (g.R.FileResolver.library c.args.resolver.now).files c.args.limit c.args.current.now c.args.parents.now c.args.done.now c.args.name.now c.requires.more c.requires.visit.name_is c.requires.visit (omega arith)
    c.in-Err.error c.import_error.result c.import_error.ensures (c.in-Err.ensures.stopped tells)

pub returns-in-Err-clause-cause : goal.returns-in-Err-clause-cause
returns-in-Err-clause-cause g c = import_cause c.args.limit c.args.done.now (FaultCause (g.R.FileResolver.library c.args.resolver.now) (g.R.FileResolver.count c.args.resolver.now) (g.R.FileResolver.count c.open_frame.new.resolver)) _ _ _ _ c.in-Err.error c.import_error.result c.in-Err.ensures.cause c.import_error.ensures
