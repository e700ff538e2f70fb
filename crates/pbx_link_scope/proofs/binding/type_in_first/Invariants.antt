use Rattle.std.proofs.Common.{◌≡◌, length}
use denote.Text.{Utf8}
use denote.Shadow.{shadow}
use Rattle.pbx_link_definitions.specs.Names.{outward}
use Rattle.pbx_link_scope.specs.Scope.{type_in_first as type_in_first_of}
use Rattle.pbx_link_scope.proofs.binding.type_in_first.Given as goal

abbrev pub invariant-loop-current : goal.invariant-loop-current
invariant-loop-current g l =
    shadow (Utf8 l.current) × (type_in_first_of (g.V.Visible.files l.seen) l.name (outward l.current) ≡ type_in_first_of (g.V.Visible.files l.seen) l.name (outward l.initial.current))

abbrev pub decreases-loop-current : goal.decreases-loop-current
decreases-loop-current g l = length l.current
