-- Places of items that a search in a list of a file's record finds.
use Rattle.std.proofs.Common.{◌≡◌, ℕ, pos, List, [], ◌∷◌, ◌++◌, Bool, Some, None, sym, subst}
use Rattle.std.specs.Prelude.{Contains, position}
use Rattle.pbx_link_definitions.specs.Definitions.{Place, Part, parts}
use Rattle.pbx_link_definitions.specs.Places.{places_where}
use Rattle.pbx_link_definitions.proofs.Indexes.{position_is_index}
use Rattle.pbx_link_rules_record.proofs.ItemPlaces.{where_of_parts, none_of_parts}

module _ {X : Type 0} (test : X → Bool) (n : ℕ) (xs : List X) where
  abbrev places : List Place
  places = places_where (λ (p : Part X). test p.item) (λ p. p.place) (parts [] [] n xs)

  pub item_here : (i : ℕ) (x : X) (there : Place) → Some i ≡ position test xs → there ≡ [] ++ pos n ∷ pos i ∷ [] → Contains places there
  item_here i x there found e =
      let is = position_is_index test xs (Some i) found in
      subst (λ (p : Place). Contains places p) (sym e) (where_of_parts [] [] n xs test i x is.0 is.1)

  pub item_none : None ≡ position test xs → places ≡ []
  item_none found = none_of_parts [] [] n xs test (position_is_index test xs None found)
