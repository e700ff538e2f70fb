use Rattle.std.proofs.Common.{◌∙◌}
use Rattle.pbx_content_map.proofs.Places.{without_at}
use Rattle.pbx_content_codec.proofs.merging.drop_field.Goals as goal

pub returns : goal.returns
returns c =
    c.take.ensures.rest
    ∙ (rw c.as_slice.ensures.same (without_at c.args.fields.now c.args.place c.index-as_slice-place.result c.as_slice.ensures.order c.requires))
