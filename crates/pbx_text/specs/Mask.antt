-- Field masks (ProtoJSON Format: `FieldMask`, paths in lowerCamelCase, joined by commas; google/protobuf/field_mask.proto: "JSON Encoding of
-- Field Masks").
use Rattle.std.specs.Prelude.{ℕ, ◌+◌, ◌-◌, ◌&&◌, ◌||◌, ◌==◌, nat_le, List, [], ◌∷◌, filter, length, Bool, true, false, not, if◌then◌else◌, Option}
use Rattle.std.specs.Prelude.{Some, None, option_map, option_and_then, Result}
use Rattle.std.specs.List.{list_any, flat_map, join_with_byte, slice_split}
use Rattle.pbx_text.specs.Decimal.{or_form}
use Rattle.pbx_text.specs.declared.fault.TextFault.{TextFault}

-- an ASCII letter in upper case
abbrev pub is_upper : ℕ → Bool
is_upper c = nat_le 65 c && nat_le c 90

-- an ASCII letter in lower case
abbrev pub is_lower : ℕ → Bool
is_lower c = nat_le 97 c && nat_le c 122

-- the text has a character
abbrev pub is_filled : List ℕ → Bool
is_filled p = not (length p == 0)

-- an ASCII letter in upper case is `_` and its lower case; all else is itself
abbrev pub snake_char : ℕ → List ℕ
snake_char c = if is_upper c then 95 ∷ (c + 32) ∷ [] else c ∷ []

-- a part in snake_case; None: it has a `_`
abbrev pub snake_of : List ℕ → Option (List ℕ)
snake_of part = if list_any (λ c. c == 95) part then None else Some (flat_map snake_char part)

-- the pieces between commas that are not empty
abbrev pub filled_pieces : List ℕ → List (List ℕ)
filled_pieces text = filter is_filled (slice_split (λ c. c == 44) text)

-- each in its other case, if each has one
abbrev pub each_of : (List ℕ → Option (List ℕ)) → List (List ℕ) → Option (List (List ℕ))
each_of f [] = Some []
each_of f (p ∷ ps) = option_and_then (λ q. option_map (λ qs. q ∷ qs) (each_of f ps)) (f p)

-- the paths that a mask text says: its pieces in snake_case, empty ones dropped; None: no mask text
unfoldable pub mask_of : List ℕ → Option (List (List ℕ))
mask_of text = each_of snake_of (filled_pieces text)

-- `_` and an ASCII letter in lower case are the letter in upper case; a comma, an ASCII letter in upper case and any other `_` have no form
abbrev pub camel_after : Bool → List ℕ → Option (List ℕ)
camel_after false [] = Some []
camel_after true [] = None
camel_after true (c ∷ cs) = if is_lower c then option_map (λ ds. (c - 32) ∷ ds) (camel_after false cs) else None
camel_after false (c ∷ cs) =
    if c == 95 then camel_after true cs
    else if is_upper c || (c == 44) then None
    else option_map (λ ds. c ∷ ds) (camel_after false cs)

-- a path in lowerCamelCase; None: it is empty, or has a comma, an ASCII letter in upper case, or a `_` that no ASCII letter in lower case follows
abbrev pub camel_of : List ℕ → Option (List ℕ)
camel_of path = if is_filled path then camel_after false path else None

-- what the calls answer
abbrev pub snake_read : List ℕ → Result (List ℕ) TextFault
snake_read part = or_form (snake_of part)

-- the same of a path in lowerCamelCase
abbrev pub camel_written : List ℕ → Result (List ℕ) TextFault
camel_written path = or_form (camel_of path)

-- the mask text that is written; None: a path is refused
unfoldable pub mask_text : List (List ℕ) → Option (List ℕ)
mask_text paths = option_map (join_with_byte 44) (each_of camel_of paths)

-- the same of a mask text
abbrev pub mask_read : List ℕ → Result (List (List ℕ)) TextFault
mask_read text = or_form (mask_of text)

-- the same of paths
abbrev pub mask_written : List (List ℕ) → Result (List ℕ) TextFault
mask_written paths = or_form (mask_text paths)
