use Rattle.std.proofs.Common.{refl, ap}
use Rattle.pbx_parse_tree.specs.View.{head_of, top_of}
use Rattle.pbx_parse_locations.specs.Locations.{top_messages}
use Rattle.pbx_parse_locations.proofs.block.top_message.Goals as goal

pub returns-in-Message : goal.returns-in-Message
returns-in-Message c = record {
  head = head_of c.in-Message.message.head;
  is = rw c.as_slice.ensures.value (ap (λ t. top_messages (top_of t)) c.in-Message.is);
  keyword = refl;
  name = refl;
}
