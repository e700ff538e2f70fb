use Rattle.std.proofs.Common.{map}
use Rattle.pbx_content.specs.declared.shape.Kind.TheVariants as kind
use Rattle.pbx_content.specs.Content.{message}
use Rattle.pbx_desc_encoding.proofs.Built.{puts_listed}
use Rattle.pbx_desc_encoding.proofs.contents.FieldList.records.Goals as goal

pub returns : goal.returns
returns g c =
    puts_listed (kind.Message g.R.HasContents.TYPE_AT) c.args.number c.in_ok-record_values.field-0 (map (λ r. message (g.R.HasContents.content r)) c.args.records.now) c.args.self.now.list c.list.new.self.list
    c.list.result c.in_ok-record_values.ensures.values c.in_ok-record_values.ensures.sound c.list.ensures
