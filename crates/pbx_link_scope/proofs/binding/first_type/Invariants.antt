use Rattle.std.proofs.Common.{◌≡◌, length}
use denote.Text.{Utf8}
use denote.Shadow.{shadow}
use Rattle.pbx_link_definitions.specs.Names.{outward}
use Rattle.pbx_link_scope.specs.Scope.{first_type as first_type_of}
use Rattle.pbx_link_scope.proofs.binding.first_type.Given as goal

abbrev pub invariant-loop-current : goal.invariant-loop-current
invariant-loop-current g l =
    shadow (Utf8 l.current) × (first_type_of (g.V.Visible.files l.seen) l.name (outward l.current) ≡ first_type_of (g.V.Visible.files l.seen) l.name (outward l.initial.current))

abbrev pub decreases-loop-current : goal.decreases-loop-current
decreases-loop-current g l = length l.current
