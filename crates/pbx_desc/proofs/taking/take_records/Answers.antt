use Rattle.std.proofs.Common.{map}
use Rattle.pbx_content.specs.declared.shape.Kind.TheVariants as kind
use Rattle.pbx_content_codec.specs.View.{content_of, val_of}
use Rattle.pbx_desc.proofs.Lists.{took_records}
use Rattle.pbx_desc.proofs.taking.take_records.Goals as goal

pub returns : goal.returns
returns g c =
    let k = kind.Message g.R.FromContents.TYPE_AT in
    took_records k c.args.number g.R.FromContents.content g.R.FromContents.is_exact (map val_of c.take_values.result) (content_of c.args.contents.now) (content_of c.take_values.new.contents) c.record_list.result
    (c.take_values.ensures k) c.record_list.ensures
