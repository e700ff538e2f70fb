use Rattle.pbx_content_codec.proofs.Tree.{pair_made}
use Rattle.pbx_message_dynamic.proofs.Items.{pair_is_held}
use Rattle.pbx_message_dynamic.proofs.holding.pair_held.Goals as goal

pub returns-in-Some-held_of : goal.returns-in-Some-held_of
returns-in-Some-held_of c =
    pair_is_held c.args.value_type.now.holder.pool c.args.key_kind c.args.value_type.now.kind c.args.key c.args.value c.in-Some.key c.in-Some-held_of.held _
    (pair_made c.in-Some.key c.in-Some-held_of.held) c.in-Some.ensures.0 c.in-Some.ensures.1 c.in-Some-held_of.ensures
