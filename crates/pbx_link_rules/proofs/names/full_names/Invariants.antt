use Rattle.std.proofs.Common.{◌≡◌, map, take}
use Rattle.pbx_link_definitions.specs.Definitions.{full_name}
use Rattle.pbx_link_rules.proofs.names.full_names.Given as goal

abbrev pub invariant-loop-definition : goal.invariant-loop-definition
invariant-loop-definition l = l.names ≡ map full_name (take l.definition-index l.definitions)
