use Rattle.std.proofs.Common.{◌≡◌, length}
use Rattle.pbx_text.specs.Clock.{fits_picture}
use Rattle.pbx_text.proofs.clock.fits.Given as goal

abbrev pub invariant-marks : goal.invariant-marks
invariant-marks l = (fits_picture l.picture l.text ≡ fits_picture l.marks l.rest)

abbrev pub decreases-marks : goal.decreases-marks
decreases-marks l = length l.marks
