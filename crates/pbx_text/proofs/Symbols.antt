-- The values of symbols, by computing both for each byte.
use Rattle.std.proofs.Common.{◌≡◌, ℕ, ◌-◌, ◌+◌, ◌<◌, ◌==◌, Bool, true, false, if◌then◌else◌, Option, Some, None, refl, sym, slice_index}
use Rattle.std.specs.Int.{is_in_range}
use Rattle.std.proofs.lemmas.Bool.{eqb-true}
use Rattle.base64.specs.Tables.{all_below}
use Rattle.base64.proofs.Tables.{all_below_at}
use Rattle.pbx_text.specs.Base64.{standard_symbols, symbols_of, value_in}
use Rattle.pbx_text.specs.declared.base_64.Alphabet.{Alphabet}
use Rattle.pbx_text.specs.declared.base_64.Alphabet.TheVariants.{Standard, Url}

-- the symbols of the values 62 and 63
abbrev pub first_mark : Alphabet → ℕ
first_mark Standard = 43
first_mark Url = 45

abbrev pub second_mark : Alphabet → ℕ
second_mark Standard = 47
second_mark Url = 95

-- the value of a byte, as the code has it
abbrev pub coded_value : Alphabet → ℕ → Option ℕ
coded_value a c =
    if is_in_range 65 90 c then Some (c - 65)
    else if is_in_range 97 122 c then Some (c - 97 + 26)
    else if is_in_range 48 57 c then Some (c - 48 + 52)
    else if c == first_mark a then Some 62
    else if c == second_mark a then Some 63
    else None

abbrev same : Option ℕ → Option ℕ → Bool
same None None = true
same None (Some y) = false
same (Some x) None = false
same (Some x) (Some y) = x == y

same_is : (x y : Option ℕ) → same x y ≡ true → x ≡ y
same_is None None h = refl
same_is None (Some y) h = cc h
same_is (Some x) None h = cc h
same_is (Some x) (Some y) h = rw (eqb-true x y h) refl

all_standard : all_below (λ c. same (coded_value Standard c) (value_in (symbols_of Standard) c)) 256 ≡ true
all_standard = refl

all_url : all_below (λ c. same (coded_value Url c) (value_in (symbols_of Url) c)) 256 ≡ true
all_url = refl

pub value_is : (a : Alphabet) (c : ℕ) → c < 256 → coded_value a c ≡ value_in (symbols_of a) c
value_is Standard c h = same_is _ _ (all_below_at (λ c. same (coded_value Standard c) (value_in (symbols_of Standard) c)) 256 c all_standard h)
value_is Url c h = same_is _ _ (all_below_at (λ c. same (coded_value Url c) (value_in (symbols_of Url) c)) 256 c all_url h)

-- a symbol has its value
all_values : all_below (λ v. same (Some v) (value_in standard_symbols (slice_index standard_symbols v))) 64 ≡ true
all_values = refl

pub symbol_value : (v : ℕ) → v < 64 → value_in standard_symbols (slice_index standard_symbols v) ≡ Some v
symbol_value v h = sym (same_is _ _ (all_below_at (λ v. same (Some v) (value_in standard_symbols (slice_index standard_symbols v))) 64 v all_values h))
