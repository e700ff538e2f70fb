use Rattle.std.proofs.Common.{◌≡◌, false, take}
use Rattle.pbx_content.specs.Shape.{declared_of}
use Rattle.pbx_json_meaning.specs.Canonical.{keeps_float}
use Rattle.pbx_json_writing.proofs.fields.kept_float.Given as goal

abbrev pub invariant-loop-rec : goal.invariant-loop-rec
invariant-loop-rec l = keeps_float (declared_of l.schema l.type_at) (take l.rec-index l.rec-items) ≡ false
