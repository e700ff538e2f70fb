use Rattle.std.proofs.Common.{[], refl}
use Rattle.pbx_content_codec.specs.View.{content_of}
use Rattle.pbx_desc_encoding.specs.Content.{options_content}
use Rattle.pbx_desc_encoding.proofs.Behind.{sent_here}
use Rattle.pbx_desc_encoding.proofs.Built.{start, made}
use Rattle.pbx_desc_encoding.proofs.Places.{record_written, no_record}
use Rattle.pbx_desc_encoding.proofs.values.put_options.Goals as goal

pub returns-in_ok-put_payload : goal.returns-in_ok-put_payload
returns-in_ok-put_payload c type =
    let t = c.args.type_at in
    let n = c.args.number in
    let contents = c.in_ok-contents.contents in
    let options = c.in-Some.options in
    let old = c.args.out.now.items in
    let new = c.put_payload.new.out.items in
    let holds = made t [] [] c.new.result.list options.recs contents type refl (start [] [] c.new.result.list c.new.ensures) c.in_ok-contents.ensures.content c.in_ok-contents.ensures.fit in
    let sent = sent_here n t t c.args.schema.now (content_of contents) (options_content options) c.as_slice.result.now c.in_ok-own.own old new c.in_ok-put_payload.ensures c.as_slice.ensures c.in_ok-own.ensures c.requires refl holds.content in
    rw c.in-Some.is (record_written n t (options_content options) old new sent holds.sound)

pub returns-in_default : goal.returns-in_default
returns-in_default c type = rw c.in_default.is (no_record c.args.number c.args.type_at c.args.out.now.items)
