use Rattle.std.proofs.Common.{Some}
use Rattle.pbx_content.specs.declared.shape.Kind.TheVariants as kind
use Rattle.pbx_content.specs.Content.{message}
use Rattle.pbx_content_codec.specs.View.{content_of}
use Rattle.pbx_desc.proofs.Lists.{took_some, message_some}
use Rattle.pbx_desc.proofs.taking.take_record.Goals as goal

pub returns-in-Ok : goal.returns-in-Ok
returns-in-Ok g c =
    let t = g.R.FromContents.TYPE_AT in
    took_some (kind.Message t) c.args.number c.in-Some.held (Some (message (g.R.FromContents.content c.in-Ok.found))) (g.R.FromContents.is_exact c.in-Ok.found) (content_of c.args.contents.now) (content_of c.take.new.self) c.in-Some.ensures.value
    (message_some t g.R.FromContents.content g.R.FromContents.is_exact c.in-Some.held c.message_of.result c.in-Ok.found (c.message_of.ensures t) c.in-Ok.ensures)
    c.in-Some.ensures.rest
