use Rattle.std.proofs.Common.{◌≡◌, map, take}
use Rattle.pbx_link_record.specs.Settled.{settled_message}
use Rattle.pbx_link_record.specs.Linked.{linked_message}
use Rattle.pbx_link_record.proofs.messages.+linking.Given as goal

abbrev pub invariant-linked_messages-loop-message : goal.invariant-linked_messages-loop-message
invariant-linked_messages-loop-message g l =
    l.linked ≡ map settled_message (map (linked_message (g.V.Visible.files l.seen) l.scope) (take l.message-index l.message-items))
