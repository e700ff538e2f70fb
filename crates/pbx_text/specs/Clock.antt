-- Fractions of a second, and texts of a fixed picture (ProtoJSON Format: `Timestamp` and `Duration`; RFC 3339, section 5.6).
use Rattle.std.specs.Prelude.{ℕ, ◌/◌, ◌%◌, ◌&&◌, ◌==◌, List, [], ◌∷◌, ◌++◌, length, take, drop, replicate, Bool, true, false, if◌then◌else◌, Option, Some, None}
use Rattle.std.specs.List.{take_while}
use Rattle.pbx_text.specs.Decimal.{is_digit, digits_value, padded}

-- a character of a picture: `0` stands for any digit, and all else for itself
abbrev pub fits_mark : ℕ → ℕ → Bool
fits_mark mark c = if mark == 48 then is_digit c else mark == c

-- the text has the form of the picture
abbrev pub fits_picture : List ℕ → List ℕ → Bool
fits_picture [] [] = true
fits_picture [] (c ∷ cs) = false
fits_picture (m ∷ ms) [] = false
fits_picture (m ∷ ms) (c ∷ cs) = fits_mark m c && fits_picture ms cs

-- the number of so many digits from a place on
abbrev pub digits_at : ℕ → ℕ → List ℕ → ℕ
digits_at from count text = digits_value (take count (drop from text))

-- the digits at the front
abbrev pub front_digits : List ℕ → List ℕ
front_digits text = take_while is_digit text

-- what comes after them
abbrev pub after_digits : List ℕ → List ℕ
after_digits text = drop (length (front_digits text)) text

-- the nanoseconds that the digits behind a `.` say: the first nine count, and fewer are followed by zeros
abbrev pub nanos_of_digits : List ℕ → ℕ
nanos_of_digits ds = digits_value (take 9 (ds ++ replicate 9 48))

-- digits behind the `.` of a fraction, at least one
abbrev pub dotted : List ℕ → List ℕ → Option (ℕ × List ℕ)
dotted [] rest = None
dotted (d ∷ ds) rest = Some (nanos_of_digits (d ∷ ds), rest)

-- the nanoseconds of an optional fraction, and the text behind it; None: a `.` without a digit behind it
abbrev pub fraction_of : List ℕ → Option (ℕ × List ℕ)
fraction_of [] = Some (0, [])
fraction_of (c ∷ cs) = if c == 46 then dotted (front_digits cs) (after_digits cs) else Some (0, c ∷ cs)

-- the fraction that is written: none, or `.` and 3, 6 or 9 digits, the fewest that suffice
abbrev pub fraction_text : ℕ → List ℕ
fraction_text nanos =
    if nanos == 0 then []
    else if nanos % 1000000 == 0 then 46 ∷ padded 3 (nanos / 1000000)
    else if nanos % 1000 == 0 then 46 ∷ padded 6 (nanos / 1000)
    else 46 ∷ padded 9 nanos
