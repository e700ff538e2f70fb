use Rattle.std.proofs.Common.{sym, subst}
use Rattle.protox_transcode.specs.declared.error.TopError.{TopError}
use Rattle.protox_words.specs.Told.{args_told}
use Rattle.protox_run.specs.Parts.{IsSetRefusal}
use Rattle.protox_run.proofs.Judged.{set_refused}
use Rattle.protox_run.proofs.files.compile_files.Goals as goal

pub returns-in-Err-clause-err : goal.returns-in-Err-clause-err
returns-in-Err-clause-err g c tells =
    let P : TopError → Type 0 = λ e. IsSetRefusal (args_told c.args.args.now) (g.R.FileResolver.library c.args.resolver) e in
    subst P (sym c.file_error.ensures.is)
    (set_refused (args_told c.args.args.now) (g.R.FileResolver.library c.args.resolver) c.in-Err.error (c.in-Err.ensures.err tells))
