use Rattle.std.proofs.Common.{◌+◌, ◌*◌, length}
use Rattle.pbx_content_codec.specs.View.{content_of}
use Rattle.pbx_content_codec.specs.Fields.{fields_at}
use Rattle.pbx_content_codec.proofs.Reading.{HasGone}
use Rattle.pbx_content_codec.proofs.merging.+merge.Given as goal

abbrev pub decreases-join_message : goal.decreases-join_message
decreases-join_message l = 6 * l.messages + 1

abbrev pub decreases-push_message : goal.decreases-push_message
decreases-push_message l = 6 * l.messages + 1

abbrev pub decreases-merge_value : goal.decreases-merge_value
decreases-merge_value l = 6 * l.messages + 2

abbrev pub decreases-merge_rec : goal.decreases-merge_rec
decreases-merge_rec l = 6 * l.messages + 3

abbrev pub decreases-merge_next : goal.decreases-merge_next
decreases-merge_next l = 6 * l.messages + 4

abbrev pub decreases-merge_bytes : goal.decreases-merge_bytes
decreases-merge_bytes l = 6 * l.messages + 5

abbrev pub invariant-merge_bytes-loop-rest : goal.invariant-merge_bytes-loop-rest
invariant-merge_bytes-loop-rest l = HasGone l.stable l.schema l.groups l.messages (fields_at l.schema l.owner) (content_of l.initial.into)
    (content_of l.into) l.bytes l.rest

abbrev pub decreases-merge_bytes-loop-rest : goal.decreases-merge_bytes-loop-rest
decreases-merge_bytes-loop-rest l = length l.rest

abbrev pub decreases-put_entry : goal.decreases-put_entry
decreases-put_entry l = 6 * l.messages + 1

abbrev pub decreases-merge_payload : goal.decreases-merge_payload
decreases-merge_payload l = 6 * l.messages
