use Rattle.protox_compile_walk.proofs.Stacks.{names_reversed}
use Rattle.protox_compile_walk.proofs.stack.Stack.names.Goals as goal

pub returns : goal.returns
returns c = rw (← c.self.view_is, ← names_reversed, ← c.deref.ensures.value) c.names_of_all.ensures
