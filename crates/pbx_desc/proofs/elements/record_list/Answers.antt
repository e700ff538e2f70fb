use Rattle.pbx_content.specs.declared.shape.Kind.TheVariants as kind
use Rattle.pbx_desc.proofs.Lists.{message_is, record_more}
use Rattle.pbx_desc.proofs.elements.record_list.Goals as goal

pub loop-value-preserved : goal.loop-value-preserved
loop-value-preserved g c =
    let t = g.R.FromContents.TYPE_AT in
    rw c.in_ok-add.ensures.ok (record_more (kind.Message t) g.R.FromContents.content g.R.FromContents.is_exact c.loop-value.yielded c.in-Some.value c.loop-value.records c.in_ok-record.record c.loop-value.invariant
    (message_is t g.R.FromContents.content g.R.FromContents.is_exact c.in-Some.value c.message_of.result c.in_ok-record.record (c.message_of.ensures t) c.in_ok-record.ensures))
