-- Names of synthetic oneofs.
use Rattle.std.specs.Prelude.{ℕ, List, [], ◌∷◌, ◌++◌, length, Bool, not, codes}
use Rattle.std.specs.List.{list_any, position_or_len, range_with_len, repeat}
use Rattle.std.specs.Str.{bytes_eq}

-- the name is among these
abbrev pub is_among : List (List ℕ) → List ℕ → Bool
is_among names name = list_any (bytes_eq name) names

-- so many `X`, then `_`, then the field's name
unfoldable pub name_with : ℕ → List ℕ → List ℕ
name_with x_count field = repeat x_count (codes "X") ++ codes "_" ++ field

-- the fewest `X` with which the name is none of these; each count of `X` gives another name, so as many as there are names are enough
abbrev pub fewest_x : List (List ℕ) → List ℕ → ℕ
fewest_x names field = position_or_len (λ x_count. not (is_among names (name_with x_count field))) (range_with_len 0 (length names))

-- the name of the field's synthetic oneof, where these are taken
abbrev pub free_name : List (List ℕ) → List ℕ → List ℕ
free_name names field = name_with (fewest_x names field) field

-- the names of the synthetic oneofs of fields, one after the other, where these are taken and each is taken for those behind it
unfoldable pub synthetic_names : List (List ℕ) → List (List ℕ) → List (List ℕ)
synthetic_names taken [] = []
synthetic_names taken (field ∷ fields) = let name = free_name taken field in name ∷ synthetic_names (taken ++ name ∷ []) fields
