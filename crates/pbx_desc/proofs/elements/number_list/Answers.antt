use Rattle.std.proofs.Common.{◌≡◌, to_z, of_z, w32, rules}
use Rattle.pbx_content.specs.declared.shape.Kind.TheVariants as kind
use Rattle.pbx_content.specs.Content.{number}
use Rattle.pbx_desc.proofs.Lists.{option_more, nothing_more}
use Rattle.pbx_desc.proofs.elements.number_list.Goals as goal

pub loop-value-preserved-in-Continue-branch-2 : goal.loop-value-preserved-in-Continue-branch-2
loop-value-preserved-in-Continue-branch-2 c =
    let same : to_z w32 (of_z w32 c.in-Some-number_of.number) ≡ c.in-Some-number_of.number = search rules in
    rw (c.in_ok-add.ensures.ok, same)
    (option_more kind.Int32 number c.loop-value.yielded c.in-Some.value c.loop-value.numbers c.in-Some-number_of.number c.loop-value.invariant c.in-Some-number_of.ensures)

pub loop-value-preserved : goal.loop-value-preserved
loop-value-preserved c = nothing_more kind.Int32 number c.loop-value.yielded c.in-Some.value c.loop-value.numbers c.number_of.result c.in_default.is c.number_of.ensures
