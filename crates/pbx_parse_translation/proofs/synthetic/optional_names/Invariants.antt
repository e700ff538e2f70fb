use Rattle.std.proofs.Common.{◌≡◌, ◌++◌, drop, map}
use Rattle.std.specs.List.{flat_map}
use Rattle.pbx_parse_tree.specs.View.{item_of}
use Rattle.pbx_parse_translation.specs.Messages.{optional_names_in}
use Rattle.pbx_parse_translation.proofs.synthetic.optional_names.Given as goal

abbrev pub invariant-each : goal.invariant-each
invariant-each l =
    map (λ n. n.now) l.names.items ++ flat_map (λ i. optional_names_in l.version (item_of i)) (drop l.item-index l.items)
    ≡ flat_map (λ i. optional_names_in l.version (item_of i)) l.items
