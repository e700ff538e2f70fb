use Rattle.std.proofs.Common.{Some}
use Rattle.pbx_content.specs.declared.shape.Kind.TheVariants as kind
use Rattle.pbx_content.specs.Content.{message}
use Rattle.pbx_content_codec.specs.View.{content_of}
use Rattle.pbx_desc_encoding.specs.Content.{options_content}
use Rattle.pbx_desc.specs.Exact.{is_exact_options}
use Rattle.pbx_desc.proofs.Lists.{took_some, message_some}
use Rattle.pbx_desc.proofs.taking.take_options.Goals as goal

pub returns-in-Some : goal.returns-in-Some
returns-in-Some c t type =
    took_some (kind.Message t) c.args.number c.in-Some.held (Some (message (options_content c.options_of.result))) (is_exact_options c.options_of.result) (content_of c.args.contents.now) (content_of c.take.new.self) c.in-Some.ensures.value
    (message_some t options_content is_exact_options c.in-Some.held c.message_of.result c.options_of.result (c.message_of.ensures t) (c.options_of.ensures t type))
    c.in-Some.ensures.rest
