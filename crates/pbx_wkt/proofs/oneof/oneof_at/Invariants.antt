use Rattle.std.proofs.Common.{◌≡◌}
use Rattle.std.specs.Prelude.{slice_get}
use Rattle.pbx_link_meaning.specs.Descriptors.{oneofs_of_message}
use Rattle.pbx_wkt.proofs.oneof.oneof_at.Given as goal

abbrev pub invariant-loop-oneof : goal.invariant-loop-oneof
invariant-loop-oneof l = slice_get (oneofs_of_message l.fn.desc) l.place ≡ slice_get l.oneof-iterator l.left
