use Rattle.std.proofs.Common.{length, map}
use Rattle.pbx_content_codec.specs.View.{val_of}
use Rattle.pbx_content_codec.proofs.Packs.{HaveRead}
use Rattle.pbx_content_codec.proofs.values.push_varints.Given as goal

abbrev pub invariant-loop-rest : goal.invariant-loop-rest
invariant-loop-rest l = HaveRead l.kind (map val_of l.initial.many) l.bytes (map val_of l.many) l.rest

abbrev pub decreases-loop-rest : goal.decreases-loop-rest
decreases-loop-rest l = length l.rest
