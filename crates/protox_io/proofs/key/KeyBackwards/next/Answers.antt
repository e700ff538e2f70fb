use Rattle.std.proofs.Common.{◌≡◌, ◌++◌, [], ◌∷◌, ◌-◌, rules, sym, ap, ◌∙◌}
use Rattle.protox_io.specs.Paths.{bare, Root, Parent, Named}
use Rattle.protox_io.specs.Backwards.{key_left}
use Rattle.protox_io.proofs.Under.{key_root, key_taken, key_end}
use Rattle.protox_io.proofs.Walk.{no_bytes}
use Rattle.protox_io.proofs.key.KeyBackwards.next.Goals as goal

pub returns-in-Some-Root-clause-left : goal.returns-in-Some-Root-clause-left
returns-in-Some-Root-clause-left c =
    let taken : bare c.loop-front.self.rest.now ≡ bare c.take_last.result.0.now ++ Root ∷ [] = search rules in
    c.loop-front.invariant.left ∙ key_root c.loop-front.self.pending c.loop-front.self.rest.now c.take_last.result.0.now taken

pub loop-front-preserved : goal.loop-front-preserved
loop-front-preserved c =
    let taken : bare c.loop-front.self.rest.now ≡ bare c.take_last.result.0.now ++ Named c.in-Some-Named.name.now ∷ [] = search rules in
    record {
      left = c.loop-front.invariant.left ∙ key_taken c.loop-front.self.pending c.loop-front.self.rest.now c.take_last.result.0.now c.in-Some-Named.name.now c.if-self-eq0.false taken;
      fewer = search rules;
    }

pub returns-clause-left : goal.returns-clause-left
returns-clause-left c =
    let none : c.loop-front.self.rest.now ≡ [] = no_bytes c.loop-front.self.rest.now (search rules) in
    c.loop-front.invariant.left ∙ ap (key_left c.loop-front.self.pending) none ∙ key_end c.loop-front.self.pending c.if-self-eq0-2.false
    ∙ ap (λ l. Parent ∷ key_left (c.loop-front.self.pending - 1) l) (sym none)
