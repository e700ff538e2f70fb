use Rattle.std.proofs.Common.{◌≡◌, ◌++◌, take}
use Rattle.pbx_link_definitions.specs.Definitions.{parts as parts_of}
use Rattle.pbx_link_definitions.proofs.parts.add_parts.Given as goal

abbrev pub invariant-loop-index : goal.invariant-loop-index
invariant-loop-index g l = l.parts ≡ l.initial.parts ++ parts_of l.scope l.place l.number (take l.index l.items)
