-- Words of the passes over the items of a tree.
use Rattle.std.specs.Prelude.{List, ◌∷◌, map}
use Rattle.pbx_parse_tree.specs.declared.tree.Separated.{Separated}

-- in their order
abbrev pub listed : {A : Type 0} → Separated A → List A
listed s = s.first ∷ map (λ x. x.1) s.more.items
