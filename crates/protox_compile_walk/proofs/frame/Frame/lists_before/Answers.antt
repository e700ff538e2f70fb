use Rattle.std.proofs.Common.{◌∙◌, ap, sym}
use Rattle.protox_compile_walk.specs.Indexes.{is_below}
use Rattle.protox_compile_walk.specs.Walk.{imports_of}
use Rattle.protox_compile_walk.proofs.Indexed.{among_take}
use Rattle.protox_compile_walk.proofs.frame.Frame.lists_before.Goals as goal

pub returns : goal.returns
returns c =
    rw (← c.self.view_is) (c.is_below.ensures ∙ ap (is_below c.self.inside.next) (c.get.ensures ∙ c.self.invariant.2 c.args.name.now)
    ∙ sym (among_take c.args.name.now c.self.inside.next (imports_of c.self.inside.file)))
