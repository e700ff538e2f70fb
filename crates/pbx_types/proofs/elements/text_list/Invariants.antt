use Rattle.pbx_content.specs.declared.shape.Kind.TheVariants as kind
use Rattle.pbx_content.specs.Content.{text}
use Rattle.pbx_types.proofs.Lists.{AreValues}
use Rattle.pbx_types.proofs.elements.text_list.Given as goal

abbrev pub invariant-loop-value : goal.invariant-loop-value
invariant-loop-value l = AreValues kind.String text l.yielded l.texts
