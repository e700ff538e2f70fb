use Rattle.std.proofs.Common.{◌≡◌, ◌∙◌, ◌++◌, ◌∷◌, [], sym, arith}
use Rattle.std.proofs.lemmas.Grind.{common_steps}
use Rattle.protox_compile_walk.specs.Resume.{names_of}
use Rattle.protox_compile_walk.proofs.Indexed.{on_err_at}
use Rattle.protox_compile_walk.proofs.stack.Stack.push.Goals as goal

pub invariant_of-self-then-is_err : goal.invariant_of-self-then-is_err
invariant_of-self-then-is_err c =
    let put : c.push.new.self.items ≡ c.self.inside.frames.items ++ c.args.frame ∷ [] = c.in_ok-push.ensures.items in
    let same : c.pop.new.self.items ≡ c.self.inside.frames.items = grind (arith, common_steps, put) in
    rw same (on_err_at c.push-2.result (sym c.is_err.ensures.value ∙ c.if-is_err.true) c.push-2.ensures.err (names_of c.self.inside.frames.items) c.self.invariant)
