use Rattle.std.proofs.Common.{map}
use Rattle.pbx_content.specs.declared.shape.Kind.TheVariants as kind
use Rattle.pbx_content.specs.Content.{number}
use Rattle.pbx_desc_encoding.proofs.Built.{puts_listed}
use Rattle.pbx_desc_encoding.proofs.contents.FieldList.numbers.Goals as goal

pub returns : goal.returns
returns c =
    puts_listed kind.Int32 c.args.number c.in_ok-number_values.field-0 (map number c.args.numbers.now) c.args.self.now.list c.list.new.self.list c.list.result c.in_ok-number_values.ensures.values
    c.in_ok-number_values.ensures.sound c.list.ensures
