use Rattle.std.proofs.Common.{refl}
use Rattle.pbx_wkt_types.specs.Names.{is_well_known}
use Rattle.pbx_wkt_types.proofs.Texts.{differ}
use Rattle.pbx_wkt_types.proofs.is_well_known_type.Goals as goal

pub returns-in_default : goal.returns-in_default
unfolding is_well_known
returns-in_default c =
    rw (
      differ _ _ c.in_default.not-text,
      differ _ _ c.in_default.not-text-2,
      differ _ _ c.in_default.not-text-3,
      differ _ _ c.in_default.not-text-4,
      differ _ _ c.in_default.not-text-5,
      differ _ _ c.in_default.not-text-6,
      differ _ _ c.in_default.not-text-7,
      differ _ _ c.in_default.not-text-8,
      differ _ _ c.in_default.not-text-9,
      differ _ _ c.in_default.not-text-10,
      differ _ _ c.in_default.not-text-11,
      differ _ _ c.in_default.not-text-12,
      differ _ _ c.in_default.not-text-13,
      differ _ _ c.in_default.not-text-14,
      differ _ _ c.in_default.not-text-15,
      differ _ _ c.in_default.not-text-16,
      differ _ _ c.in_default.not-text-17,
    )
    refl
