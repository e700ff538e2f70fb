use Rattle.std.proofs.Common.{map}
use Rattle.pbx_content.specs.declared.shape.Kind.TheVariants as kind
use Rattle.pbx_content.specs.Content.{text}
use Rattle.pbx_desc_encoding.proofs.Built.{puts_listed}
use Rattle.pbx_desc_encoding.proofs.contents.FieldList.texts.Goals as goal

pub returns : goal.returns
returns c =
    puts_listed kind.String c.args.number c.in_ok-text_values.field-0 (map text c.args.texts.now) c.args.self.now.list c.list.new.self.list c.list.result c.in_ok-text_values.ensures.values
    c.in_ok-text_values.ensures.sound c.list.ensures
