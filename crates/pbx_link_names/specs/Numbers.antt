-- Numbers under names.
use Rattle.std.specs.Prelude.{ℕ, ℤ, List, Option, Some, None, Bool, false, ◌&&◌}
use Rattle.std.specs.Borrow.{Bor}
use Rattle.std.specs.BTreeMap.{get_by_text}
use Rattle.std.specs.BTreeSet.{BTreeSet, contains}
use Rattle.std.specs.List.{list_any}
use Rattle.std.specs.Ordering.{int_cmp, int_eq}
use Rattle.std.specs.Str.{bytes_eq}
use Rattle.pbx_link_names.specs.declared.numbered_names.NumberedNames.{NumberedNames}

-- the number is in the set, if there is one
abbrev pub is_in : ℤ → Option (BTreeSet ℤ) → Bool
is_in number None = false
is_in number (Some set) = contains int_cmp set number

-- the name and the number are there together
unfoldable pub is_there : List ℕ → ℤ → NumberedNames → Bool
is_there name number names = is_in number (get_by_text names.numbers name)

-- they are this item
abbrev pub is_item : List ℕ → ℤ → List ℕ × ℤ → Bool
is_item name number item = bytes_eq item.0 name && int_eq item.1 number

-- they are one of the items
abbrev pub is_among : List ℕ → ℤ → List (List ℕ × ℤ) → Bool
is_among name number items = list_any (is_item name number) items

-- they are one of the items that are noted
abbrev pub is_noted : List ℕ → ℤ → List (Bor (List ℕ × ℤ)) → Bool
is_noted name number items = list_any (λ item. is_item name number item.now) items
