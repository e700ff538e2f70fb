use Rattle.serde_json.specs.View.{view}
use Rattle.std.proofs.Common.{◌∙◌, ◌+◌, length, sym, subst}
use Rattle.protox_file_sources.specs.Causes.{FaultsCause}
use Rattle.protox_compile.proofs.Kept.{files_as}
use Rattle.protox_compile.proofs.Among.{are_compiled}
use Rattle.protox_transcode.specs.Input.{data_of}
use Rattle.protox_transcode.specs.Top.{IsCaused, IsJudged, Refuses}
use Rattle.protox_transcode.specs.declared.error.TopError.{TopError}
use Rattle.protox_transcode.proofs.Judged.{stopped, accepted, all_refused, all_given, all_pooled, compiling_caused, pool_caused, walk_judged, pool_judged}
use Rattle.protox_transcode.proofs.Transcoding.{ok_then, err_then}
use Rattle.protox_transcode.proofs.transcode.transcode_files.Goals as goal

pub returns-in-Err-clause-err : goal.returns-in-Err-clause-err
returns-in-Err-clause-err g c tells =
    let P : TopError → Type 0 = λ e. Refuses (g.R.FileResolver.library c.args.resolver).files (g.R.FileResolver.library c.args.resolver).resolves c.args.paths.now c.args.type_name.now (data_of c.args.tree) e in
    subst P (sym c.file_error.ensures.is)
    (stopped (g.R.FileResolver.library c.args.resolver) c.args.paths.now c.args.type_name.now (data_of c.args.tree) c.in-Err.error (c.in-Err.ensures.err tells))

pub returns-in-Err-clause-cause : goal.returns-in-Err-clause-cause
returns-in-Err-clause-cause g c =
    let P : TopError → Type 0 = λ e. IsCaused (FaultsCause (c.args.tries + 1) (g.R.FileResolver.library c.args.resolver) (g.R.FileResolver.count c.args.resolver) (g.R.FileResolver.count c.in-Err.resolver)) e in
    subst P (sym c.file_error.ensures.is) (compiling_caused c.args.paths.now
    (FaultsCause (c.args.tries + 1) (g.R.FileResolver.library c.args.resolver) (g.R.FileResolver.count c.args.resolver) (g.R.FileResolver.count c.in-Err.resolver)) c.in-Err.error c.file_error.ensures.whole c.in-Err.ensures.cause)

pub returns-in-Err-clause-judged : goal.returns-in-Err-clause-judged
returns-in-Err-clause-judged g c =
    let P : TopError → Type 0 = λ e. IsJudged c.args.paths.now c.args.type_name.now (data_of c.args.tree) (FaultsCause (c.args.tries + 1) (g.R.FileResolver.library c.args.resolver) (g.R.FileResolver.count c.args.resolver) (g.R.FileResolver.count c.in-Err.resolver)) e in
    subst P (sym c.file_error.ensures.is) (walk_judged c.args.paths.now c.args.type_name.now (data_of c.args.tree)
    (FaultsCause (c.args.tries + 1) (g.R.FileResolver.library c.args.resolver) (g.R.FileResolver.count c.args.resolver) (g.R.FileResolver.count c.in-Err.resolver)) c.in-Err.error c.in-Err.ensures.cause)

pub returns-clause-ok : goal.returns-clause-ok
returns-clause-ok g c tells =
    ok_then c.transcode_in-result.result
    (λ done h. all_given (g.R.FileResolver.library c.args.resolver).files (g.R.FileResolver.library c.args.resolver).resolves c.args.paths.now c.in-Ok.opened.compiler.done
    (accepted (g.R.FileResolver.library c.args.resolver) c.args.paths.now c.in-Ok.opened.compiler.done (c.in-Ok.ensures.ok tells))
    c.descriptor_pool-pool.result c.descriptor_pool-pool.ensures.pool c.args.type_name.now (data_of c.args.tree) c.args.options.now done.set done.wire (view done.tree) h)
    c.transcode_in-result.ensures.ok

pub returns-clause-err : goal.returns-clause-err
returns-clause-err g c tells =
    err_then c.transcode_in-result.result
    (λ error h. all_refused (g.R.FileResolver.library c.args.resolver).files (g.R.FileResolver.library c.args.resolver).resolves c.args.paths.now c.in-Ok.opened.compiler.done
    (accepted (g.R.FileResolver.library c.args.resolver) c.args.paths.now c.in-Ok.opened.compiler.done (c.in-Ok.ensures.ok tells))
    c.descriptor_pool-pool.result c.descriptor_pool-pool.ensures.pool c.args.type_name.now (data_of c.args.tree) error h)
    c.transcode_in-result.ensures.err

pub returns-clause-repeated : goal.returns-clause-repeated
returns-clause-repeated g c tells = ok_then c.transcode_in-result.result (λ done same. same ∙ c.in-Ok.ensures.repeated tells) c.transcode_in-result.ensures.repeated

pub returns-clause-cause : goal.returns-clause-cause
returns-clause-cause g c =
    err_then c.transcode_in-result.result
    (λ error h. pool_caused (FaultsCause (c.args.tries + 1) (g.R.FileResolver.library c.args.resolver) (g.R.FileResolver.count c.args.resolver) (g.R.FileResolver.count c.into_resolver.result)) c.args.type_name.now (data_of c.args.tree) c.descriptor_pool-pool.result error h) c.transcode_in-result.ensures.err

pub returns-clause-ordered : goal.returns-clause-ordered
returns-clause-ordered g c =
    ok_then c.transcode_in-result.result
    (λ done h. all_pooled c.args.type_name.now (data_of c.args.tree) c.args.options.now (length c.args.paths.now) c.in-Ok.opened.compiler.done c.descriptor_pool-pool.result done.set done.wire (view done.tree) c.descriptor_pool-pool.ensures.pool
    (are_compiled c.linking_ends.ensures.each (length c.args.paths.now) c.in-Ok.opened.compiler.done c.in-Ok.ensures.opens c.descriptor_pool-pool.ensures.ordered c.descriptor_pool-pool.ensures.pooled) h)
    c.transcode_in-result.ensures.ok

pub returns-clause-judged : goal.returns-clause-judged
returns-clause-judged g c =
    err_then c.transcode_in-result.result
    (λ error h. pool_judged c.args.paths.now (FaultsCause (c.args.tries + 1) (g.R.FileResolver.library c.args.resolver) (g.R.FileResolver.count c.args.resolver) (g.R.FileResolver.count c.into_resolver.result)) c.args.type_name.now (data_of c.args.tree) c.in-Ok.opened.compiler.done c.descriptor_pool-pool.result
    error c.descriptor_pool-pool.ensures.pool
    (are_compiled c.linking_ends.ensures.each (length c.args.paths.now) c.in-Ok.opened.compiler.done c.in-Ok.ensures.opens c.descriptor_pool-pool.ensures.ordered c.descriptor_pool-pool.ensures.pooled) h)
    c.transcode_in-result.ensures.err

pub returns-clause-keeps : goal.returns-clause-keeps
returns-clause-keeps g c =
    files_as g.R.FileResolver.library g.R.FileResolver.count c.args.resolver c.in-Ok.opened.compiler.resolver c.into_resolver.result c.into_resolver.ensures c.in-Ok.ensures.keeps
