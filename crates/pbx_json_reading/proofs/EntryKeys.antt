-- Keys that are numbers.
use Rattle.std.proofs.Common.{◌≡◌, ℤ, Some, refl}
use Rattle.std.specs.BTreeSet.{BTreeSet, contains}
use Rattle.std.specs.Ordering.{int_cmp}
use Rattle.pbx_content.specs.Content.{Key, truth_key, number_key, text_key}
use Rattle.pbx_json_walk.specs.Walk.{number_of_key, is_used}

-- the key is used if its number is there
pub used_number : (k : Key) (z : ℤ) (numbers : BTreeSet ℤ) → Some z ≡ number_of_key k → contains int_cmp numbers z ≡ is_used k numbers
used_number (truth_key b) z numbers h = absurd (cc)
used_number (number_key y) z numbers h = let same : z ≡ y = cc in rw same refl
used_number (text_key s) z numbers h = absurd (cc)
