use Rattle.std.proofs.Common.{refl}
use Rattle.pbx_types.proofs.Types.{any_type}
use Rattle.pbx_types.proofs.Walk.{two_whole}
use Rattle.pbx_types.proofs.any.AnyFromContents.from_contents.Goals as goal

pub returns : goal.returns
returns c =
    two_whole 0 _ _ any_type (record { number_is = refl; single = refl; kind_is = refl; simple = refl }) (record { number_is = refl; single = refl; kind_is = refl; simple = refl })
    c.take_text-type_url.ensures c.take_octets-value.ensures c.kept_records.ensures
