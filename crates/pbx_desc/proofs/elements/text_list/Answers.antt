use Rattle.pbx_content.specs.declared.shape.Kind.TheVariants as kind
use Rattle.pbx_content.specs.Content.{text}
use Rattle.pbx_desc.proofs.Lists.{option_more, nothing_more}
use Rattle.pbx_desc.proofs.elements.text_list.Goals as goal

pub loop-value-preserved-in-Continue-branch-2 : goal.loop-value-preserved-in-Continue-branch-2
loop-value-preserved-in-Continue-branch-2 c =
    rw c.in_ok-add.ensures.ok
    (option_more kind.String text c.loop-value.yielded c.in-Some.value c.loop-value.texts c.in-Some-text_of.text c.loop-value.invariant c.in-Some-text_of.ensures)

pub loop-value-preserved : goal.loop-value-preserved
loop-value-preserved c = nothing_more kind.String text c.loop-value.yielded c.in-Some.value c.loop-value.texts c.text_of.result c.in_default.is c.text_of.ensures
