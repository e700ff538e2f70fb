use Rattle.std.proofs.Common.{map}
use Rattle.pbx_content.specs.declared.shape.Kind.TheVariants as kind
use Rattle.pbx_content_codec.specs.View.{content_of, val_of}
use Rattle.pbx_desc_encoding.specs.Content.{message_content}
use Rattle.pbx_desc.specs.Exact.{is_exact_message}
use Rattle.pbx_desc.proofs.Lists.{message_is, record_more}
use Rattle.pbx_desc.proofs.Nested.{made_whole}
use Rattle.pbx_desc.proofs.message.+nested.Goals as goal

pub message_from-returns : goal.message_from-returns
message_from-returns t c =
    made_whole c.in_ok-own.own c.in_ok-nested_type.nested_type (map val_of c.take_values-nested.result) (content_of c.args.contents) (content_of c.take_values-nested.new.contents)
    (c.take_values-nested.ensures (kind.Message 2)) c.in_ok-nested_type.ensures c.in_ok-own.ensures

pub messages_from-loop-value-preserved : goal.messages_from-loop-value-preserved
messages_from-loop-value-preserved t c =
    rw c.in_ok-add.ensures.ok (record_more (kind.Message 2) message_content is_exact_message c.loop-value.yielded c.in-Some.value c.loop-value.messages c.in_ok-message.message c.loop-value.invariant
    (message_is 2 message_content is_exact_message c.in-Some.value c.message_of.result c.in_ok-message.message (c.message_of.ensures 2) c.in_ok-message.ensures))
