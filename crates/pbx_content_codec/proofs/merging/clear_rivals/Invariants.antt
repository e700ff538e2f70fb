use Rattle.pbx_content_codec.specs.Fields.{fields_at, field_like}
use Rattle.pbx_content_codec.proofs.Rivals.{AreCleared}
use Rattle.pbx_content_codec.proofs.merging.clear_rivals.Given as goal

abbrev pub invariant-loop-place : goal.invariant-loop-place
invariant-loop-place l = AreCleared (fields_at l.schema l.owner) (field_like l.view) l.initial.fields l.fields l.place

abbrev pub decreases-loop-place : goal.decreases-loop-place
decreases-loop-place l = l.place
