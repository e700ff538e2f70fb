use Rattle.std.proofs.Common.{◌≡◌, rules}
use Rattle.pbx_content.specs.Content.{message}
use Rattle.pbx_content_codec.specs.View.{content_of, val_of}
use Rattle.pbx_content_codec.specs.declared.contents.Held as held
use Rattle.pbx_content_codec.specs.declared.contents.Contents.{the_lemmas}
use Rattle.pbx_message_laws.specs.Pools.{IsPooled}
use Rattle.pbx_message_dynamic.specs.Message.{dynamic}
use Rattle.pbx_message_dynamic.proofs.Messages.{IsTaken, message_taken}
use Rattle.pbx_message_dynamic.proofs.holding.message_held.Goals as goal

pub returns-in-Some : goal.returns-in-Some
returns-in-Some c =
    let here = c.parent_pool-pool.ensures in
    let of : IsPooled c.message.inside.desc = record { pooled = rw here.pool at here.pooled; within = rw here.pool at here.of_it } in
    let kind = c.args.value_type.now.kind in
    let pool = c.args.value_type.now.holder.pool in
    let taken : IsTaken pool kind (dynamic c.message.inside.desc (content_of c.message.inside.tree)) = message_taken pool kind c.in-Some.wanted (dynamic c.message.inside.desc (content_of c.message.inside.tree)) c.messages_are_placed.ensures.same of
    c.requires.variant (rw c.in-Some.is at c.requires.typed) (c.is_same.ensures.0 c.if-is_same.true) c.message.invariant.0 in
    let same : val_of (held.Message c.message.inside.tree) ≡ message (content_of c.message.inside.tree) = search (rules, the_lemmas) in
    rw (← c.message.view_is) (same, taken.place, taken.element)
