use Rattle.std.proofs.Common.{◌≡◌, ℕ, List, take}
use Rattle.std.specs.Prelude.{option_map}
use Rattle.std.specs.Option.{option_or}
use Rattle.std.specs.Str.{bytes_eq}
use Rattle.std.specs.BTreeMap.{get_by_text}
use Rattle.pbx_link_definitions.specs.Names.{qualified, text_or_empty}
use Rattle.pbx_link_visible.specs.Names.{first_index}
use Rattle.pbx_link_visible.proofs.own_names.add_first_parts.Given as goal

abbrev pub invariant-loop-index : goal.invariant-loop-index
invariant-loop-index g l =
    (q : List ℕ) → get_by_text l.places q ≡ option_or (get_by_text l.initial.places q)
    (option_map (λ i. (l.sort, i)) (first_index (λ p. bytes_eq (qualified p.scope (text_or_empty (g.T.Named.name p.item))) q) 0 (take l.index l.parts)))
