use Rattle.std.proofs.Common.{refl}
use Rattle.pbx_types.proofs.Types.{duration_type}
use Rattle.pbx_types.proofs.Walk.{two_whole}
use Rattle.pbx_types.proofs.time.DurationFromContents.from_contents.Goals as goal

pub returns : goal.returns
returns c =
    two_whole 1 _ _ duration_type (record { number_is = refl; single = refl; kind_is = refl; simple = refl }) (record { number_is = refl; single = refl; kind_is = refl; simple = refl })
    c.take_int64-seconds.ensures c.take_int32-nanos.ensures c.kept_records.ensures
