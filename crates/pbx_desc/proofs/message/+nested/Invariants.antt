use Rattle.std.proofs.Common.{◌+◌, ◌*◌}
use Rattle.pbx_content.specs.declared.shape.Kind.TheVariants as kind
use Rattle.pbx_desc_encoding.specs.Content.{message_content}
use Rattle.pbx_desc.specs.Exact.{is_exact_message}
use Rattle.pbx_desc.proofs.Lists.{AreRecords}
use Rattle.pbx_desc.proofs.message.+nested.Given as goal

abbrev pub decreases-message_from : goal.decreases-message_from
decreases-message_from l = 2 * l.room

abbrev pub decreases-messages_from : goal.decreases-messages_from
decreases-messages_from l = 2 * l.room + 1

abbrev pub invariant-messages_from-loop-value : goal.invariant-messages_from-loop-value
invariant-messages_from-loop-value l = AreRecords (kind.Message 2) message_content is_exact_message l.yielded l.messages
