use Rattle.pbx_content.specs.Shape.{fields_of}
use Rattle.pbx_content_codec.specs.View.{content_of}
use Rattle.pbx_content_codec.proofs.Stable.{IsStabilizing}
use Rattle.pbx_content_codec.proofs.stabilizing.stabilize.Given as goal

abbrev pub invariant-loop-field : goal.invariant-loop-field
invariant-loop-field l = IsStabilizing l.schema (fields_of l.schema l.type_at) (content_of l.initial.contents) (content_of l.contents) l.yielded
