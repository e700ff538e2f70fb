use Rattle.protox_io.proofs.Bodies.{left_new}
use Rattle.protox_io.proofs.components.Components.new.Goals as goal

pub returns : goal.returns
returns c = left_new c.args.path.now c.starts_with_slash.result c.starts_with_slash.ensures
