use Rattle.std.proofs.Common.{refl}
use Rattle.protox_compile_walk.proofs.Found.{opened_set}
use Rattle.protox_compile_walk.proofs.known.set_opened.Goals as goal

pub returns : goal.returns
returns c = rw c.set_import.ensures (opened_set c.args.files.now c.args.files.now c.args.index c.index-files-index.result refl c.requires)
