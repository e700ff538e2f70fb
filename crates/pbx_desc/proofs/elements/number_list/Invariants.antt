use Rattle.pbx_content.specs.declared.shape.Kind.TheVariants as kind
use Rattle.pbx_content.specs.Content.{number}
use Rattle.pbx_desc.proofs.Lists.{AreValues}
use Rattle.pbx_desc.proofs.elements.number_list.Given as goal

abbrev pub invariant-loop-value : goal.invariant-loop-value
invariant-loop-value l = AreValues kind.Int32 number l.yielded l.numbers
