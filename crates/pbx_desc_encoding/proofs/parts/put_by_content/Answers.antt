use Rattle.pbx_content_codec.specs.View.{content_of}
use Rattle.pbx_desc_encoding.proofs.Places.{on_ok, content_written}
use Rattle.pbx_desc_encoding.proofs.parts.put_by_content.Goals as goal

pub returns : goal.returns
returns g c =
    on_ok c.put_contents.result (λ here.
    content_written g.R.HasContents.TYPE_AT c.TYPE_AT.result c.args.schema.now (content_of c.in_ok-contents.contents) (g.R.HasContents.content c.args.record.now) c.args.out.now.items c.put_contents.new.out.items here
    c.requires c.TYPE_AT.ensures c.in_ok-contents.ensures.content c.in_ok-contents.ensures.sound) c.put_contents.ensures
