use Rattle.std.proofs.Common.{◌≡◌, ℕ, List, take}
use Rattle.std.specs.List.{list_any}
use Rattle.std.specs.Str.{bytes_eq}
use Rattle.pbx_link_definitions.specs.Names.{among}
use Rattle.pbx_link_rules_record.proofs.enums.name_set.Given as goal

abbrev pub invariant-loop-name : goal.invariant-loop-name
invariant-loop-name l = (q : List ℕ) → list_any (λ k. bytes_eq q k.now) l.set.keys ≡ among (take l.name-index l.names) q
