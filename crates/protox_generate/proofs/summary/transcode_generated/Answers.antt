use Rattle.std.proofs.Common.{string_bytes}
use Rattle.serde_json.specs.View.{view}
use Rattle.protox_generate.proofs.Transcoded.{summarized, refused}
use Rattle.protox_generate.proofs.summary.transcode_generated.Goals as goal

pub returns-in-Err-clause-err : goal.returns-in-Err-clause-err
returns-in-Err-clause-err c =
    refused c.args.number c.in-Ok-Ok.files (view c.in-Ok-Ok.tree) c.in-Ok-Ok.ensures c.in-Ok-Ok.ensures' c.in-Err.error c.in-Err.ensures.err

pub returns-in-Ok-summary-clause-ok : goal.returns-in-Ok-summary-clause-ok
returns-in-Ok-summary-clause-ok c =
    summarized c.args.number c.in-Ok-Ok.files (view c.in-Ok-Ok.tree) c.in-Ok-Ok.ensures c.in-Ok-Ok.ensures' (view c.in-Ok.done.tree) c.in-Ok.done.set c.in-Ok.done.wire (string_bytes c.in-Ok-summary.line)
    c.canonical_is_plain.ensures c.in-Ok.ensures.ok c.in-Ok-summary.ensures
