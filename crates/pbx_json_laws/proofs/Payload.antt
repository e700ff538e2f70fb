-- The payload of an `Any` that was read is read as a message of its type, so it may be held by one, and keeps no records.
use Rattle.std.proofs.Common.{ℕ}
use Rattle.serde_json.specs.Data.{Data}
use Rattle.std.specs.Prelude.{Bool}
use Rattle.pbx_json_payload_laws.specs.Inside.{HasNoKept}
use Rattle.pbx_content.specs.Content.{Content}
use Rattle.pbx_content.specs.Sound.{IsProper, IsSound}
use Rattle.pbx_content.specs.declared.shape.Shape.{Shape}
use Rattle.pbx_json_meaning.specs.Named.{IsWellNamed}
use Rattle.pbx_json_meaning.specs.Stands.{Stands}
use Rattle.pbx_json_meaning.specs.Trees.{HasTexts}
use Rattle.pbx_json_laws.proofs.Fits.{FitsAs, IsPacked}
use Rattle.pbx_json_laws.proofs.FitSound.{content_sound}
use Rattle.pbx_json_laws.proofs.FitTrees.{standing_fits}
use Rattle.pbx_json_laws.proofs.NoKept.{fits_kept}

module _ (shape : Shape) (proper : IsProper shape) (well : IsWellNamed shape) where
  -- a content that a tree stands for keeps no records
  pub stands_kept : (t : ℕ) (allow : Bool) (tree : Data) (c : Content) → HasTexts tree → Stands shape t allow tree c → HasNoKept c
  stands_kept t allow tree c texts h = fits_kept shape c t (standing_fits shape t allow tree c proper well texts h)

  module _ (t : ℕ) (c : Content) (it : IsPacked shape t c) where
    pub payload_fits : FitsAs shape it.payload it.place
    payload_fits = standing_fits shape it.place it.allow it.tree it.payload proper well it.texts it.stands

    pub payload_sound : IsSound shape it.place it.payload
    payload_sound = content_sound shape it.payload it.place payload_fits

    pub payload_kept : HasNoKept it.payload
    payload_kept = fits_kept shape it.payload it.place payload_fits
