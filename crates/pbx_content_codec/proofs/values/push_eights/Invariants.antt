use Rattle.std.proofs.Common.{length, map}
use Rattle.std.specs.Int.{w64}
use Rattle.pbx_content_codec.specs.View.{val_of}
use Rattle.pbx_content_codec.proofs.Packs.{Packs}
use Rattle.pbx_content_codec.proofs.values.push_eights.Given as goal

abbrev pub invariant-loop-rest : goal.invariant-loop-rest
invariant-loop-rest l = Packs l.kind w64 8 (map val_of l.initial.many) l.bytes (map val_of l.many) l.rest

abbrev pub decreases-loop-rest : goal.decreases-loop-rest
decreases-loop-rest l = length l.rest
