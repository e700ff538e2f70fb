use Rattle.std.proofs.Common.{◌&&◌, take}
use Rattle.std.specs.List.{list_any}
use Rattle.std.specs.Str.{bytes_eq}
use Rattle.std.specs.String.{string_bytes}
use Rattle.pbx_link_definitions.specs.Definitions.{full_name, is_scope}
use Rattle.pbx_link_visible.specs.Names.{HasAddedNames}
use Rattle.pbx_link_visible.proofs.own_names.add_scopes.Given as goal

abbrev pub invariant-loop-definition : goal.invariant-loop-definition
invariant-loop-definition l =
    HasAddedNames string_bytes (λ q. list_any (λ d. is_scope d.sort && bytes_eq (full_name d) q) (take l.definition-index l.definitions)) l.initial.names l.names
