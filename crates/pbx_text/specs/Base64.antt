-- Base64 texts (RFC 4648, sections 4 and 5; ProtoJSON Format: bytes are written as standard base64 with padding, and either alphabet is read,
-- with or without padding). The tables of symbols and `encode` are those of the `base64` crate.
use Rattle.std.specs.Prelude.{ℕ, ◌+◌, ◌-◌, ◌*◌, ◌/◌, ◌%◌, ◌==◌, nat_le, List, [], ◌∷◌, length, position, Bool, true, if◌then◌else◌, Option, Some, None, option_map, option_and_then, Result}
use Rattle.std.specs.List.{list_all}
use Rattle.std.specs.Option.{option_or}
use Rattle.base64.specs.Alphabets.{standard, url_safe}
use Rattle.base64.specs.Rfc4648.{encode}
use Rattle.pbx_text.specs.Decimal.{or_form}
use Rattle.pbx_text.specs.declared.base_64.Alphabet.{Alphabet}
use Rattle.pbx_text.specs.declared.base_64.Alphabet.TheVariants.{Standard, Url}
use Rattle.pbx_text.specs.declared.fault.TextFault.{TextFault}

-- the symbols of the standard alphabet, by their values
abbrev pub standard_symbols : List ℕ
standard_symbols = standard.symbols

-- the symbols for URLs and file names, by their values
abbrev pub url_symbols : List ℕ
url_symbols = url_safe.symbols

-- the symbols of an alphabet of the code
abbrev pub symbols_of : Alphabet → List ℕ
symbols_of Standard = standard_symbols
symbols_of Url = url_symbols

-- the text that is written: the standard alphabet, padded with `=`
unfoldable pub base64_text : List ℕ → List ℕ
base64_text bytes = encode standard_symbols 61 true bytes

-- the value of a symbol in an alphabet
abbrev pub value_in : List ℕ → ℕ → Option ℕ
value_in symbols c = position (λ s. s == c) symbols

-- the values of symbols, if all are of the alphabet
abbrev pub values_in : List ℕ → List ℕ → Option (List ℕ)
values_in symbols [] = Some []
values_in symbols (c ∷ cs) = option_and_then (λ v. option_map (λ vs. v ∷ vs) (values_in symbols cs)) (value_in symbols c)

-- the bytes of symbol values: four are three bytes, three at the end two, and two at the end one, whose last unused bits are ignored;
-- no bytes have one symbol left
abbrev pub bytes_of_values : List ℕ → Option (List ℕ)
bytes_of_values [] = Some []
bytes_of_values (a ∷ []) = None
bytes_of_values (a ∷ b ∷ []) = Some ((a * 4 + b / 16) ∷ [])
bytes_of_values (a ∷ b ∷ c ∷ []) = Some ((a * 4 + b / 16) ∷ (b % 16 * 16 + c / 4) ∷ [])
bytes_of_values (a ∷ b ∷ c ∷ d ∷ rest) = option_map (λ bytes. (a * 4 + b / 16) ∷ (b % 16 * 16 + c / 4) ∷ (c % 4 * 64 + d) ∷ bytes) (bytes_of_values rest)

-- the bytes of symbols of an alphabet
abbrev pub bytes_in : List ℕ → List ℕ → Option (List ℕ)
bytes_in symbols cs = option_and_then bytes_of_values (values_in symbols cs)

-- the bytes of symbols of the one alphabet, or else of the other
abbrev pub bytes_of_symbols : List ℕ → Option (List ℕ)
bytes_of_symbols cs = option_or (bytes_in standard_symbols cs) (bytes_in url_symbols cs)

-- how many `=` complete so many symbols
abbrev pub canonical_padding : ℕ → ℕ
canonical_padding n = (4 - n % 4) % 4

-- the text without the `=` at its end
abbrev pub without_padding : List ℕ → List ℕ
without_padding [] = []
without_padding (c ∷ cs) = if list_all (λ d. d == 61) (c ∷ cs) then [] else c ∷ without_padding cs

-- at most the canonical number of `=` stands at the end
abbrev pub is_padded : List ℕ → Bool
is_padded text = nat_le (length text) (length (without_padding text) + canonical_padding (length (without_padding text)))

-- the bytes that a base64 text means; None: it is none
unfoldable pub base64_of : List ℕ → Option (List ℕ)
base64_of text = if is_padded text then bytes_of_symbols (without_padding text) else None

-- what reading answers
abbrev pub base64_read : List ℕ → Result (List ℕ) TextFault
base64_read text = or_form (base64_of text)
