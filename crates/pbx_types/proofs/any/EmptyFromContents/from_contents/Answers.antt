use Rattle.std.proofs.Common.{[], refl}
use Rattle.pbx_content_codec.specs.View.{content_of}
use Rattle.pbx_types.proofs.Sound.{whole, written}
use Rattle.pbx_types.proofs.Types.{empty_type}
use Rattle.pbx_types.proofs.any.EmptyFromContents.from_contents.Goals as goal

pub returns : goal.returns
returns c sound =
    let r = c.kept_records.result in
    let contents = content_of c.args.contents in
    (whole 2 [] [] r contents empty_type tt c.kept_records.ensures sound, written 2 [] r contents empty_type c.kept_records.ensures sound)
