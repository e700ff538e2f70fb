use Rattle.std.proofs.Common.{[], refl}
use Rattle.pbx_content_codec.specs.View.{content_of}
use Rattle.pbx_desc.proofs.Walk.{whole}
use Rattle.pbx_desc.proofs.options.options_of.Goals as goal

pub returns : goal.returns
returns c t type sound =
    whole t [] [] [] c.kept_records.result (content_of c.args.contents) type refl (record { values = tt; exact = tt; unread = c.kept_records.ensures }) sound
