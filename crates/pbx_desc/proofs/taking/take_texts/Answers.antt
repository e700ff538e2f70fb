use Rattle.std.proofs.Common.{map}
use Rattle.pbx_content.specs.declared.shape.Kind.TheVariants as kind
use Rattle.pbx_content.specs.Content.{text}
use Rattle.pbx_content_codec.specs.View.{content_of, val_of}
use Rattle.pbx_desc.proofs.Lists.{took_list}
use Rattle.pbx_desc.proofs.taking.take_texts.Goals as goal

pub returns : goal.returns
returns c =
    took_list kind.String c.args.number (map text) (map val_of c.take_values.result) (content_of c.args.contents.now) (content_of c.take_values.new.contents) c.text_list.result (c.take_values.ensures kind.String)
    c.text_list.ensures
