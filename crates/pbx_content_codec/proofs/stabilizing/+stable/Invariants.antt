use Rattle.std.proofs.Common.{◌+◌, ◌*◌, drop}
use Rattle.pbx_content.specs.Shape.{fields_of}
use Rattle.pbx_content_codec.proofs.Stable.{AreStableFrom}
use Rattle.pbx_content_codec.proofs.stabilizing.+stable.Given as goal

abbrev pub decreases-has_stable_message : goal.decreases-has_stable_message
decreases-has_stable_message l = 3 * l.levels

abbrev pub decreases-is_stable_field : goal.decreases-is_stable_field
decreases-is_stable_field l = 3 * l.levels + 1

abbrev pub decreases-is_stable : goal.decreases-is_stable
decreases-is_stable l = 3 * l.levels + 2

abbrev pub invariant-is_stable-loop-field : goal.invariant-is_stable-loop-field
invariant-is_stable-loop-field l =
    AreStableFrom l.schema l.levels (fields_of l.schema l.type_at) l.field-items (drop l.field-index l.field-items) l.least
