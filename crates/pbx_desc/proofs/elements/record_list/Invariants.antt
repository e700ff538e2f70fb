use Rattle.pbx_content.specs.declared.shape.Kind.TheVariants as kind
use Rattle.pbx_desc.proofs.Lists.{AreRecords}
use Rattle.pbx_desc.proofs.elements.record_list.Given as goal

abbrev pub invariant-loop-value : goal.invariant-loop-value
invariant-loop-value g l = AreRecords (kind.Message g.R.FromContents.TYPE_AT) g.R.FromContents.content g.R.FromContents.is_exact l.yielded l.records
