use Rattle.std.proofs.Common.{◌∙◌}
use Rattle.protox_transcode.proofs.transcode.check_clear.Goals as goal

pub returns-in-Ok-check_names-clause-ok : goal.returns-in-Ok-check_names-clause-ok
returns-in-Ok-check_names-clause-ok c =
    record {
      proper = rw (c.as_ref.ensures ∙ c.in-Ok.ensures.is) at c.shape-proper.ensures.proper;
      named = c.shapes_are_well_named.ensures c.args.pool.now c.files-pooled.ensures.pooled c.in-Ok.ensures.numbers;
      clear = c.in-Ok-check_names.ensures.clear;
    }
