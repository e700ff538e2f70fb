-- The index before and after a file is added, or refused.
use Rattle.std.proofs.Common.{◌≡◌, ℕ, ℤ, true, List, subst}
use Rattle.std.specs.Prelude.{Result, Ok, Err, OnOk, OnErr, is_err}
use Rattle.pbx_link_names.specs.Numbers.{is_there}
use Rattle.pbx_link_names.specs.Packages as packaged
use Rattle.pbx_link_pool.specs.Index.{HaveAddedPlaces, ArePlacesAlikeBut, HaveForgottenPlaces, FindTheSamePlaces, new_places, HasAddedAll, AreAllAlikeBut, HasForgottenAll, FindAllTheSame, new_of}
use Rattle.pbx_link_pool.specs.declared.places.Places.{Places}
use Rattle.pbx_link_pool.specs.declared.places.PlaceItems.{PlaceItems}
use Rattle.pbx_link_pool.specs.declared.index.Index.{Index}
use Rattle.pbx_link_pool.specs.declared.index.Items.{Items}
use Rattle.pbx_link_pool.proofs.Maps.{added_new, set_back}

-- what holds of a result that is an error
pub on_err_at : {U E : Type 0} {P : Type 0} (r : Result U E) → is_err r ≡ true → OnErr r P → P
on_err_at (Ok u) e h = cc
on_err_at (Err d) e h = h

pub on_ok_of : {U E : Type 0} {P Q : Type 0} (r : Result U E) → (P → Q) → OnOk r P → OnOk r Q
on_ok_of (Ok u) f h = f h
on_ok_of (Err d) f h = tt

pub on_err_of : {U E : Type 0} {P Q : Type 0} (r : Result U E) → (P → Q) → OnErr r P → OnErr r Q
on_err_of (Ok u) f h = tt
on_err_of (Err d) f h = f h

added_places : (all : PlaceItems) (old new : Places) → HaveAddedPlaces (new_places old all) old new → HaveAddedPlaces all old new
added_places all old new h = record {
  messages = added_new all.messages old.messages new.messages h.messages;
  enums = added_new all.enums old.enums new.enums h.enums;
  extensions = added_new all.extensions old.extensions new.extensions h.extensions;
  services = added_new all.services old.services new.services h.services;
}

added_at : (all : Items) (old new : Index) → HasAddedAll (new_of old all) old new → HasAddedAll all old new
added_at all old new h = record {
  file_names = added_new all.file_names old.file_names new.file_names h.file_names;
  definitions = added_new all.definitions old.definitions new.definitions h.definitions;
  extended = h.extended;
  places = added_places all.places old.places new.places h.places;
}

-- adding what is new adds all
pub added_all : (all items : Items) (old new : Index) → items ≡ new_of old all → HasAddedAll items old new → HasAddedAll all old new
added_all all items old new is h = added_at all old new (subst (λ (xs : Items). HasAddedAll xs old new) is h)

back_places : (all : PlaceItems) (old some new : Places) → ArePlacesAlikeBut (new_places old all) old some → HaveForgottenPlaces (new_places old all) some new → FindTheSamePlaces old new
back_places all old some new h k = record {
  messages = set_back all.messages old.messages some.messages new.messages h.messages k.messages;
  enums = set_back all.enums old.enums some.enums new.enums h.enums k.enums;
  extensions = set_back all.extensions old.extensions some.extensions new.extensions h.extensions k.extensions;
  services = set_back all.services old.services some.services new.services h.services k.services;
}

-- the packages are found as before
abbrev pub IsPackageBack : Index → Index → Type 0
IsPackageBack old new = packaged.IsSound old.packages → packaged.IsSound new.packages × ((q : List ℕ) → packaged.is_there q new.packages ≡ packaged.is_there q old.packages)

back_at : (all : Items) (old some new : Index) → AreAllAlikeBut (new_of old all) old some → HasForgottenAll (new_of old all) some new → IsPackageBack old new
    → ((q : List ℕ) (z : ℤ) → is_there q z some.extended ≡ is_there q z old.extended) → FindAllTheSame old new
back_at all old some new h k p same = record {
  file_names = set_back all.file_names old.file_names some.file_names new.file_names h.file_names k.file_names;
  definitions = set_back all.definitions old.definitions some.definitions new.definitions h.definitions k.definitions;
  packages = p;
  extended = λ q z. rw k.extended (same q z);
  places = back_places all.places old.places some.places new.places h.places k.places;
}

-- with what was added taken out again, all is found as before
pub back_all : (all items : Items) (old some new : Index) → items ≡ new_of old all → AreAllAlikeBut items old some → HasForgottenAll items some new → IsPackageBack old new
    → ((q : List ℕ) (z : ℤ) → is_there q z some.extended ≡ is_there q z old.extended) → FindAllTheSame old new
back_all all items old some new is h k p same =
    back_at all old some new (subst (λ (xs : Items). AreAllAlikeBut xs old some) is h) (subst (λ (xs : Items). HasForgottenAll xs some new) is k) p same
