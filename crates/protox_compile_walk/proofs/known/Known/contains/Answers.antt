use Rattle.std.proofs.Common.{◌∙◌, ap}
use Rattle.std.specs.Prelude.{is_some}
use Rattle.protox_compile_walk.proofs.Found.{found_known}
use Rattle.protox_compile_walk.proofs.known.Known.contains.Goals as goal

pub returns : goal.returns
returns c = rw (← c.self.view_is) (c.is_some.ensures ∙ ap (λ o. is_some o) (c.get.ensures ∙ c.self.invariant c.args.name.now) ∙ found_known c.args.name.now c.self.inside.files.items)
