use Rattle.std.proofs.Common.{refl}
use Rattle.pbx_content_codec.specs.View.{content_of}
use Rattle.pbx_desc_encoding.specs.Content.{message_content}
use Rattle.pbx_desc_encoding.proofs.Places.{on_ok, content_written}
use Rattle.pbx_desc_encoding.proofs.message.put_message_by_content.Goals as goal

pub returns : goal.returns
returns c =
    on_ok c.put_contents.result (λ here.
    content_written 2 2 c.args.schema.now (content_of c.in_ok-contents.contents) (message_content c.args.message.now) c.args.out.now.items c.put_contents.new.out.items here
    c.requires refl c.in_ok-contents.ensures.content c.in_ok-contents.ensures.sound) c.put_contents.ensures
