use Rattle.std.proofs.Common.{◌≡◌, false, rules, ◌∙◌, sym}
use Rattle.protox_io.specs.Paths.{component_eq}
use Rattle.protox_io.proofs.Keys.{both_end, left_ends, right_ends, parts_differ}
use Rattle.protox_io.specs.Left.{component_of}
use Rattle.protox_io.proofs.paths.path_eq.Goals as goal

pub returns-in-None-None : goal.returns-in-None-None
returns-in-None-None c =
    sym (c.parts.invariant ∙ both_end _ _ c.in-None-None.ensures.left c.in-None-None.ensures'.left)

pub returns-then-not-same_part : goal.returns-then-not-same_part
returns-then-not-same_part c =
    let apart : component_eq (component_of c.in-Some-Some.a) (component_of c.in-Some-Some.b) ≡ false = search rules in
    sym (c.parts.invariant ∙ parts_differ _ _ _ _ _ _ c.in-Some-Some.ensures.left c.in-Some-Some.ensures'.left apart)

pub returns-in-None-Some : goal.returns-in-None-Some
returns-in-None-Some c = sym (c.parts.invariant ∙ left_ends _ _ _ _ c.in-None-Some.ensures.left c.in-None-Some.ensures'.left)

pub returns-in-Some-None : goal.returns-in-Some-None
returns-in-Some-None c = sym (c.parts.invariant ∙ right_ends _ _ _ _ c.in-Some-None.ensures.left c.in-Some-None.ensures'.left)
