-- The index of a pool's files: what is found in it, and what a file adds to it.
use Rattle.std.specs.Prelude.{◌≡◌, ℕ, ℤ, ◌||◌, List, [], ◌∷◌, ◌++◌, length, Some}
use Rattle.std.specs.List.{flat_map}
use Rattle.std.specs.Option.{option_or}
use Rattle.pbx_link_names.specs.Names.{under, first_under, without_items}
use Rattle.pbx_link_names.specs.Numbers.{is_there, is_among}
use Rattle.pbx_link_names.specs.Packages as packaged
use Rattle.pbx_link_names.specs.declared.name_map.NameMap.{NameMap}
use Rattle.pbx_desc_records.specs.declared.file.FileDescriptorProto.{FileDescriptorProto}
use Rattle.pbx_link_definitions.specs.Names.{among}
use Rattle.pbx_link_definitions.specs.Definitions.{definitions, messages, enums, extensions, services, message_name, enum_name, field_name, service_name}
use Rattle.pbx_link_scope.specs.Pooled.{file_index, definition_with_file, scope_with_file, all_packages, is_extended}
use Rattle.pbx_link_pool.specs.Items.{new_items, file_items, definition_items, place_items, extended_item}
use Rattle.pbx_link_pool.specs.Places.{place_with_file}
use Rattle.pbx_link_pool.specs.declared.places.Places.{Places}
use Rattle.pbx_link_pool.specs.declared.places.PlaceItems.{PlaceItems}
use Rattle.pbx_link_pool.specs.declared.index.Index.{Index}
use Rattle.pbx_link_pool.specs.declared.index.Items.{Items}

-- ---- one map

-- the map has what it had, and under other names the first of these items
abbrev pub HasAdded : {V : Type 0} → List (List ℕ × V) → NameMap V → NameMap V → Type 0
HasAdded items old new = (q : List ℕ) → under q new ≡ option_or (under q old) (first_under q items)

-- both have the same under each name that no item has
abbrev pub AreAlikeBut : {V : Type 0} → List (List ℕ × V) → NameMap V → NameMap V → Type 0
AreAlikeBut items old new = (q : List ℕ) → without_items q items (under q new) ≡ without_items q items (under q old)

-- what is under the names of the items is taken out
abbrev pub HasForgotten : {V : Type 0} → List (List ℕ × V) → NameMap V → NameMap V → Type 0
HasForgotten items old new = (q : List ℕ) → under q new ≡ without_items q items (under q old)

-- both have the same under each name
abbrev pub FindTheSame : {V : Type 0} → NameMap V → NameMap V → Type 0
FindTheSame old new = (q : List ℕ) → under q new ≡ under q old

-- ---- places of parts

-- the parts of the file of this index
abbrev pub all_places : ℕ → FileDescriptorProto → PlaceItems
all_places index f = record {
  messages = place_items message_name index (messages f);
  enums = place_items enum_name index (enums f);
  extensions = place_items field_name index (extensions f);
  services = place_items service_name index (services f);
}

-- the items under whose names nothing is
abbrev pub new_places : Places → PlaceItems → PlaceItems
new_places places items = record {
  messages = new_items places.messages items.messages;
  enums = new_items places.enums items.enums;
  extensions = new_items places.extensions items.extensions;
  services = new_items places.services items.services;
}

-- each map has what it had, and under other names the first of its items
pub record HaveAddedPlaces (items : PlaceItems) (old new : Places) : Type 0 where
  pub messages : HasAdded items.messages old.messages new.messages
  pub enums : HasAdded items.enums old.enums new.enums
  pub extensions : HasAdded items.extensions old.extensions new.extensions
  pub services : HasAdded items.services old.services new.services

-- each has the same under each name that no item has
pub record ArePlacesAlikeBut (items : PlaceItems) (old new : Places) : Type 0 where
  pub messages : AreAlikeBut items.messages old.messages new.messages
  pub enums : AreAlikeBut items.enums old.enums new.enums
  pub extensions : AreAlikeBut items.extensions old.extensions new.extensions
  pub services : AreAlikeBut items.services old.services new.services

-- from each what is under the names of its items is taken out
pub record HaveForgottenPlaces (items : PlaceItems) (old new : Places) : Type 0 where
  pub messages : HasForgotten items.messages old.messages new.messages
  pub enums : HasForgotten items.enums old.enums new.enums
  pub extensions : HasForgotten items.extensions old.extensions new.extensions
  pub services : HasForgotten items.services old.services new.services

-- each finds the same under each name
pub record FindTheSamePlaces (old new : Places) : Type 0 where
  pub messages : FindTheSame old.messages new.messages
  pub enums : FindTheSame old.enums new.enums
  pub extensions : FindTheSame old.extensions new.extensions
  pub services : FindTheSame old.services new.services

-- each part of the files is found at its place
pub record ArePlacesOf (places : Places) (files : List FileDescriptorProto) : Type 0 where
  pub messages : (q : List ℕ) → under q places.messages ≡ place_with_file messages message_name files q
  pub enums : (q : List ℕ) → under q places.enums ≡ place_with_file enums enum_name files q
  pub extensions : (q : List ℕ) → under q places.extensions ≡ place_with_file extensions field_name files q
  pub services : (q : List ℕ) → under q places.services ≡ place_with_file services service_name files q

-- ---- the index

-- what is kept of the file of this index besides its package
abbrev pub all_items : ℕ → FileDescriptorProto → Items
all_items index f = record {
  file_names = file_items index f.name;
  definitions = definition_items index (definitions f);
  extended = flat_map extended_item (extensions f);
  places = all_places index f;
}

-- the items under whose names nothing is
abbrev pub new_of : Index → Items → Items
new_of index items = record {
  file_names = new_items index.file_names items.file_names;
  definitions = new_items index.definitions items.definitions;
  extended = items.extended;
  places = new_places index.places items.places;
}

-- each part of the index has what it had, and its items
pub record HasAddedAll (items : Items) (old new : Index) : Type 0 where
  pub file_names : HasAdded items.file_names old.file_names new.file_names
  pub definitions : HasAdded items.definitions old.definitions new.definitions
  pub extended : (q : List ℕ) (z : ℤ) → is_there q z new.extended ≡ (is_there q z old.extended || is_among q z items.extended)
  pub places : HaveAddedPlaces items.places old.places new.places

-- each map has the same under each name that no item has
pub record AreAllAlikeBut (items : Items) (old new : Index) : Type 0 where
  pub file_names : AreAlikeBut items.file_names old.file_names new.file_names
  pub definitions : AreAlikeBut items.definitions old.definitions new.definitions
  pub places : ArePlacesAlikeBut items.places old.places new.places

-- from each map what is under the names of its items is taken out; extensions stay
pub record HasForgottenAll (items : Items) (old new : Index) : Type 0 where
  pub file_names : HasForgotten items.file_names old.file_names new.file_names
  pub definitions : HasForgotten items.definitions old.definitions new.definitions
  pub extended : new.extended ≡ old.extended
  pub places : HaveForgottenPlaces items.places old.places new.places

-- both find the same under each name
pub record FindAllTheSame (old new : Index) : Type 0 where
  pub file_names : FindTheSame old.file_names new.file_names
  pub definitions : FindTheSame old.definitions new.definitions
  pub packages : packaged.IsSound old.packages → packaged.IsSound new.packages × ((q : List ℕ) → packaged.is_there q new.packages ≡ packaged.is_there q old.packages)
  pub extended : (q : List ℕ) (z : ℤ) → is_there q z new.extended ≡ is_there q z old.extended
  pub places : FindTheSamePlaces old.places new.places

-- what the index finds is what stands in the files
pub record IsIndexOf (index : Index) (files : List FileDescriptorProto) : Type 0 where
  pub file_names : (q : List ℕ) → under q index.file_names ≡ file_index files q
  pub definitions : (q : List ℕ) → under q index.definitions ≡ scope_with_file (definition_with_file files q)
  pub sound : packaged.IsSound index.packages
  pub packages : (q : List ℕ) → packaged.is_there q index.packages ≡ among (all_packages files) q
  pub extended : (q : List ℕ) (z : ℤ) → is_there q z index.extended ≡ is_extended files q (Some z)
  pub places : ArePlacesOf index.places files

-- of whatever files the first was the index, of these and the file behind them the second is; the file's index is their count
abbrev pub GoesOnWith : ℕ → FileDescriptorProto → Index → Index → Type 0
GoesOnWith index f old new = (files : List FileDescriptorProto) → IsIndexOf old files → index ≡ length files → IsIndexOf new (files ++ f ∷ [])

-- of whatever files the first was the index, of these the second is
abbrev pub GoesOn : Index → Index → Type 0
GoesOn old new = (files : List FileDescriptorProto) → IsIndexOf old files → IsIndexOf new files
