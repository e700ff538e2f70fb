use Rattle.std.proofs.Common.{◌∙◌, ap}
use Rattle.std.specs.Prelude.{is_some}
use Rattle.protox_compile_walk.specs.Resume.{names_of}
use Rattle.protox_compile_walk.proofs.Indexed.{found_among}
use Rattle.protox_compile_walk.proofs.Stacks.{among_reversed}
use Rattle.protox_compile_walk.proofs.stack.Stack.holds.Goals as goal

pub returns : goal.returns
returns c =
    rw (← c.self.view_is) (c.is_some.ensures ∙ ap (λ o. is_some o) (c.get.ensures ∙ c.self.invariant c.args.name.now)
    ∙ found_among c.args.name.now (names_of c.self.inside.frames.items) ∙ among_reversed c.self.inside.frames.items c.args.name.now)
