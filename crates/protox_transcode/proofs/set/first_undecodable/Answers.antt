use Rattle.std.proofs.Common.{◌∙◌, refl, rules}
use Rattle.protox_compile.proofs.Listed.{files_of}
use Rattle.protox_transcode.proofs.set.first_undecodable.Goals as goal

pub loop-file-init : goal.loop-file-init
loop-file-init c =
    let all = c.into_iter-file-iterator.ensures.into_iter_gives ∙ c.files-file-items.ensures.files in (
      search rules,
      search rules,
      rw (all, files_of c.args.pool.now c.args.pool.now) refl,
    )
