use Rattle.std.proofs.Common.{◌≡◌, ◌++◌, ◌∷◌, [], length, rules}
use Rattle.protox_compile_walk.proofs.Stacks.{indexed_pop}
use Rattle.protox_compile_walk.proofs.stack.Stack.pop.Goals as goal

pub invariant_of-self-2 : goal.invariant_of-self-2
invariant_of-self-2 c =
    let split : c.self.inside.frames.items ≡ c.pop.new.self.items ++ c.in_ok-frame.frame ∷ [] = c.in_ok-frame.ensures.items in
    let long : c.len.result ≡ length c.pop.new.self.items = search rules in
    indexed_pop c.self.inside.names c.pop-2.new.self c.self.inside.frames.items c.pop.new.self.items c.in_ok-frame.frame c.len.result long split (rw c.name.ensures at c.pop-2.ensures) c.self.invariant
