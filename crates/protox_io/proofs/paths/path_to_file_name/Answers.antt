use Rattle.protox_io.proofs.Names.{name_begins}
use Rattle.protox_io.proofs.paths.path_to_file_name.Goals as goal

pub parts-init : goal.parts-init
parts-init c = name_begins c.args.path.now _ _ c.starts_with_dot.result c.starts_with_dot.ensures c.if-starts_with_dot.false c.new-name.ensures.bytes c.new-parts.ensures
