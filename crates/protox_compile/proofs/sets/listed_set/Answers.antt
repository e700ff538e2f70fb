use Rattle.std.proofs.Common.{rules, refl, ◌++◌, []}
use Rattle.protox_compile.specs.Sets.{listed as listed_of, next_done}
use Rattle.protox_compile.proofs.Listed.{files_of, listed_next}
use Rattle.protox_compile.proofs.sets.listed_set.Goals as goal

pub loop-metadata-init : goal.loop-metadata-init
loop-metadata-init c = ([], c.in_ok-set.ensures, rw (c.files-files.ensures.files, files_of c.args.pool.now c.args.pool.now) refl)

pub loop-metadata-preserved : goal.loop-metadata-preserved
loop-metadata-preserved c =
    let inv = c.loop-metadata.invariant in (
      inv.0 ++ listed_of c.args.imports c.args.info (next_done c.metadata-item.result c.next.result),
      c.in_ok-set-2.ensures inv.0 inv.1,
      listed_next c.args.imports c.args.info c.args.known.now c.loop-metadata.metadata-index c.metadata-item.result c.loop-metadata.files c.next.new.self c.next.result
          inv.0 _ _ (search rules) c.metadata-item.is c.next.ensures.steps inv.2 refl,
    )
