-- Whole numbers as decimal texts (ProtoJSON Format: 64-bit integers are written as strings, and all integers may be read from strings).
use Rattle.std.specs.Prelude.{ℕ, zero, suc, ◌-◌, ◌+◌, ◌*◌, ◌/◌, ◌%◌, ◌&&◌, nat_le, ◌==◌, ℤ, pos, neg_ℤ, int_le, List, [], ◌∷◌, ◌++◌, Bool, if◌then◌else◌, Option, Some, None, option_map, Result, Ok, Err}
use Rattle.std.specs.List.{list_all, fold}
use Rattle.pbx_text.specs.declared.fault.TextFault.{TextFault}
use Rattle.pbx_text.specs.declared.fault.TextFault.TheVariants.{Form, Range}

-- `0` to `9`
abbrev pub is_digit : ℕ → Bool
is_digit c = nat_le 48 c && nat_le c 57

-- the number that digits spell, the greatest place first
abbrev pub digits_value : List ℕ → ℕ
digits_value ds = fold (λ n c. n * 10 + (c - 48)) 0 ds

-- at least one digit, and nothing else
abbrev pub natural_of : List ℕ → Option ℕ
natural_of [] = None
natural_of (c ∷ cs) = if list_all is_digit (c ∷ cs) then Some (digits_value (c ∷ cs)) else None

-- an optional `+` and digits: a decimal text of an unsigned kind
abbrev pub unsigned_of : List ℕ → Option ℕ
unsigned_of [] = None
unsigned_of (c ∷ cs) = if c == 43 then natural_of cs else natural_of (c ∷ cs)

-- an optional `+` or `-` and digits: a decimal text of a signed kind
abbrev pub signed_of : List ℕ → Option ℤ
signed_of [] = None
signed_of (c ∷ cs) = if c == 45 then option_map (λ n. neg_ℤ (pos n)) (natural_of cs) else option_map pos (unsigned_of (c ∷ cs))

-- the number, if it lies from min to max
abbrev pub within : ℤ → ℤ → ℤ → Result ℤ TextFault
within min max z = if int_le min z && int_le z max then Ok z else Err Range

-- the value of a text that has one
abbrev pub or_form : {X : Type 0} → Option X → Result X TextFault
or_form None = Err Form
or_form (Some x) = Ok x

-- the same of a value that is written
abbrev pub or_range : {X : Type 0} → Option X → Result X TextFault
or_range None = Err Range
or_range (Some x) = Ok x

-- what follows from a value, or the fault
abbrev pub and_then : {X Y : Type 0} → Result X TextFault → (X → Result Y TextFault) → Result Y TextFault
and_then (Ok x) f = f x
and_then (Err e) f = Err e

-- what reading a decimal text of a signed kind answers: `Form` for no such text, `Range` for a number past the limits
abbrev pub signed_read : ℤ → ℤ → List ℕ → Result ℤ TextFault
signed_read min max text = and_then (or_form (signed_of text)) (within min max)

-- what reading a decimal text of an unsigned kind answers
abbrev pub unsigned_read : ℕ → List ℕ → Result ℕ TextFault
unsigned_read max text = and_then (or_form (unsigned_of text)) (λ n. if nat_le n max then Ok n else Err Range)

-- the last w digits of a number, with leading zeros
unfoldable pub padded : ℕ → ℕ → List ℕ
padded zero n = []
padded (suc w) n = padded w (n / 10) ++ (48 + n % 10) ∷ []
