use Rattle.std.proofs.Common.{map}
use Rattle.pbx_content.specs.declared.shape.Kind.TheVariants as kind
use Rattle.pbx_content.specs.Content.{number}
use Rattle.pbx_content_codec.specs.View.{content_of, val_of}
use Rattle.pbx_desc.proofs.Lists.{took_list}
use Rattle.pbx_desc.proofs.taking.take_numbers.Goals as goal

pub returns : goal.returns
returns c =
    took_list kind.Int32 c.args.number (map number) (map val_of c.take_values.result) (content_of c.args.contents.now) (content_of c.take_values.new.contents) c.number_list.result (c.take_values.ensures kind.Int32)
    c.number_list.ensures
