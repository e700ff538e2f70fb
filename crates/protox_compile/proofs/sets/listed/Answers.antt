use Rattle.std.proofs.Common.{rules, refl}
use Rattle.protox_compile.proofs.Listed.{files_of, listed_next}
use Rattle.protox_compile.proofs.sets.listed.Goals as goal

pub loop-metadata-init : goal.loop-metadata-init
loop-metadata-init c = rw (c.new-listed.ensures, c.files-files.ensures.files, files_of c.args.pool.now c.args.pool.now) refl

pub loop-metadata-preserved : goal.loop-metadata-preserved
loop-metadata-preserved c =
    listed_next c.args.imports c.args.info c.args.known.now c.loop-metadata.metadata-index c.metadata-item.result c.loop-metadata.files c.next.new.self c.next.result
    c.loop-metadata.listed _ _ (search rules) c.metadata-item.is c.next.ensures.steps c.loop-metadata.invariant c.in_ok-add_next.ensures
