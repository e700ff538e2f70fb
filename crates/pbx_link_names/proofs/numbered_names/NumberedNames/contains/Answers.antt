use Rattle.std.proofs.Common.{ap, ◌∙◌, ℤ, w32}
use Rattle.std.specs.BTreeSet.{contains}
use Rattle.std.specs.Ordering.{int_cmp}
use Rattle.std.proofs.lemmas.Int.{to_z-of_z}
use Rattle.pbx_link_names.specs.Numbers.{is_there, is_in}
use Rattle.pbx_link_names.proofs.numbered_names.NumberedNames.contains.Goals as goal

pub returns-in-Some : goal.returns-in-Some
unfolding is_there
returns-in-Some c =
    c.contains.ensures ∙ ap (λ (k : ℤ). contains int_cmp c.in-Some.numbers.now k) (to_z-of_z w32 c.args.number c.ranges.number) ∙ ap (is_in c.args.number) c.in-Some.ensures.value

pub returns-in-None : goal.returns-in-None
unfolding is_there
returns-in-None c = ap (is_in c.args.number) c.in-None.ensures.value
