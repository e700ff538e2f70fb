-- What is to be added of one file.
use Rattle.std.proofs.Common.{◌≡◌, ℕ, ◌+◌, List, [], ◌∷◌, map, refl, ap}
use Rattle.std.specs.List.{enumerate_from}
use Rattle.pbx_desc_records.specs.declared.service.ServiceDescriptorProto.{ServiceDescriptorProto}
use Rattle.pbx_link_definitions.specs.Names.{qualified, text_or_empty}
use Rattle.pbx_link_definitions.specs.Definitions.{Part, Place, part, parts, service_name}
use Rattle.pbx_link_pool.specs.Items.{place_items}
use Rattle.pbx_link_pool.specs.declared.places.PlaceItems.{PlaceItems}

-- places of parts of four kinds
abbrev pub Kept : Type 0
Kept = List (List ℕ × (ℕ × ℕ))

abbrev pub four_kinds : Kept → Kept → Kept → Kept → PlaceItems
four_kinds ms es xs ss = record { messages = ms; enums = es; extensions = xs; services = ss }

pub same_places : (a b c d a' b' c' d' : Kept) → a ≡ a' → b ≡ b' → c ≡ c' → d ≡ d' → four_kinds a b c d ≡ four_kinds a' b' c' d'
same_places a b c d a' b' c' d' e f g h = cc

-- the item of a service in this scope, and of one that is a part
abbrev item_in : List ℕ → ℕ → ℕ × ServiceDescriptorProto → List ℕ × (ℕ × ℕ)
item_in scope index x = (qualified scope (text_or_empty x.1.name), (index, x.0))

abbrev item_of : ℕ → ℕ × Part ServiceDescriptorProto → List ℕ × (ℕ × ℕ)
item_of index x = (service_name x.1, (index, x.0))

service_items_from : (scope : List ℕ) (place : Place) (n index k : ℕ) (ss : List ServiceDescriptorProto)
    → map (item_in scope index) (enumerate_from k ss) ≡ map (item_of index) (enumerate_from k (map (λ x. part scope place n x.0 x.1) (enumerate_from k ss)))
service_items_from scope place n index k [] = refl
service_items_from scope place n index k (s ∷ ss) = ap (λ (is : Kept). item_in scope index (k, s) ∷ is) (service_items_from scope place n index (k + 1) ss)

-- services have their file's package as scope
pub service_items : (scope : List ℕ) (place : Place) (n index : ℕ) (ss : List ServiceDescriptorProto)
    → place_items (λ s. qualified scope (text_or_empty s.name)) index ss ≡ place_items service_name index (parts scope place n ss)
service_items scope place n index ss = service_items_from scope place n index 0 ss
