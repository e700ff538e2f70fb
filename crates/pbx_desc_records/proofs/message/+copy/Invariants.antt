use Rattle.std.proofs.Common.{◌≡◌, take}
use Rattle.pbx_desc_records.proofs.message.+copy.Given as goal

abbrev pub invariant-copy_messages-loop-message : goal.invariant-copy_messages-loop-message
invariant-copy_messages-loop-message l = l.copies ≡ take l.message-index l.message-items
