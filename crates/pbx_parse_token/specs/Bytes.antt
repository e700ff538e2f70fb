-- Classes of bytes: "Letters and digits", "Integer literals" and "String literals" of the language specification.
use Rattle.std.specs.Prelude.{◌≡◌, ℕ, ◌+◌, ◌-◌, ◌*◌, ◌^◌, ◌<◌, List, [], ◌∷◌, length, drop, fold, Bool, true, false, not, ◌==◌, ◌&&◌, ◌||◌, nat_le, nat_lt, if◌then◌else◌}
use Rattle.std.specs.List.{list_all}
use Rattle.pbx_parse_token.specs.declared.run.Run.{Run}
use Rattle.pbx_parse_token.specs.declared.run.Run.TheVariants as runs
use Rattle.pbx_parse_token.specs.declared.piece.Class.{Class}
use Rattle.pbx_parse_token.specs.declared.piece.Class.TheVariants as classes

-- space, tab, line feed, vertical tab, form feed and carriage return
abbrev pub is_blank : ℕ → Bool
is_blank b = (b == 32) || (nat_le 9 b && nat_le b 13)

abbrev pub is_digit : ℕ → Bool
is_digit b = nat_le 48 b && nat_le b 57

-- a letter or `_`, with which an identifier begins
abbrev pub is_start : ℕ → Bool
is_start b = (nat_le 65 b && nat_le b 90) || (nat_le 97 b && nat_le b 122) || (b == 95)

-- ; { } [ ] ( ) < > = , . -
abbrev pub is_mark : ℕ → Bool
is_mark b = (b == 59) || (b == 123) || (b == 125) || (b == 91) || (b == 93) || (b == 40) || (b == 41)
    || (b == 60) || (b == 62) || (b == 61) || (b == 44) || (b == 46) || (b == 45)

-- the value of a hexadecimal digit, and 99 for any other byte
abbrev pub digit_of : ℕ → ℕ
digit_of b = if is_digit b then b - 48 else (if nat_le 97 b && nat_le b 102 then b - 87 else (if nat_le 65 b && nat_le b 70 then b - 55 else 99))

-- the bytes of an identifier, of a number and what may follow it by mistake, of a comment's line, and the digits of a base
abbrev pub passes : Run → ℕ → Bool
passes runs.Identifier b = is_start b || is_digit b
passes runs.Number b = is_start b || is_digit b || (b == 46)
passes runs.Line b = not (b == 10)
passes (runs.Digits base) b = nat_lt (digit_of b) base

-- a line feed or a zero, which no string holds
abbrev pub is_break : ℕ → Bool
is_break b = (b == 10) || (b == 0)

-- what a byte begins
abbrev pub first_class_of : ℕ → Class
first_class_of b = if is_blank b then classes.Blank else (if is_start b then classes.Identifier else (if is_digit b then classes.Number
    else (if (b == 34) || (b == 39) then classes.Quote else (if is_mark b then classes.Mark else classes.Bad))))

-- what two bytes begin: `//` and `/*` begin comments
abbrev pub class_with : ℕ → List ℕ → Class
class_with a [] = first_class_of a
class_with a (b ∷ bs) = if (a == 47) && (b == 47) then classes.Line else (if (a == 47) && (b == 42) then classes.Block else first_class_of a)

abbrev pub class_of : List ℕ → Class
class_of [] = classes.Bad
class_of (a ∷ bs) = class_with a bs

-- ---- integers

-- the number that digits of a base stand for
abbrev pub digits_value : ℕ → List ℕ → ℕ
digits_value base digits = fold (λ n d. n * base + digit_of d) 0 digits

-- one or more digits of a base, and their value, below 2 ^ 64
pub record IsNumeral (base : ℕ) (digits : List ℕ) (n : ℕ) : Type 0 where
  pub some : 0 < length digits
  pub digits_of_base : list_all (passes (runs.Digits base)) digits ≡ true
  pub value : digits_value base digits ≡ n
  pub small : n < 2 ^ 64

abbrev pub begins_zero : List ℕ → Bool
begins_zero [] = false
begins_zero (b ∷ bs) = b == 48

-- `x` or `X`
abbrev pub begins_x : List ℕ → Bool
begins_x [] = false
begins_x (b ∷ bs) = (b == 120) || (b == 88)

-- `0x` or `0X`
abbrev pub begins_hexadecimal : List ℕ → Bool
begins_hexadecimal text = begins_zero text && begins_x (drop 1 text)

-- hexadecimal behind `0x` or `0X`, octal where another 0 comes first, else decimal
abbrev pub base_of : List ℕ → ℕ
base_of text = if begins_hexadecimal text then 16 else (if begins_zero text then 8 else 10)

abbrev pub digits_of : List ℕ → List ℕ
digits_of text = if begins_hexadecimal text then drop 2 text else text

abbrev pub IsInteger : List ℕ → ℕ → Type 0
IsInteger text n = IsNumeral (base_of text) (digits_of text) n
