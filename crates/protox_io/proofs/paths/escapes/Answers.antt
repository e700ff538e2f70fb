use Rattle.protox_io.proofs.Names.{escapes_begins}
use Rattle.protox_io.proofs.paths.escapes.Goals as goal

pub parts-init : goal.parts-init
parts-init c = escapes_begins c.args.name.now _ c.new-parts.ensures
