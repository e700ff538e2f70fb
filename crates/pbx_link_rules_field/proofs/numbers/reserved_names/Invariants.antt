use Rattle.std.proofs.Common.{◌≡◌, ℕ, List, take, bytes_eq}
use Rattle.std.specs.List.{list_any}
use Rattle.pbx_link_definitions.specs.Names.{among}
use Rattle.pbx_link_rules_field.proofs.numbers.reserved_names.Given as goal

abbrev pub invariant-loop-name : goal.invariant-loop-name
invariant-loop-name l = (q : List ℕ) → list_any (λ k. bytes_eq q k.now) l.names.keys ≡ among (take l.name-index l.name-items) q
