-- What a tree is by the family of its kind.
use Rattle.std.specs.Prelude.{ℕ, ℤ, List, pos, negsuc, Some, Result, Ok, Err}
use Rattle.serde_json.specs.Data.{Data, number, string}
use Rattle.pbx_content.specs.Content as content
use Rattle.pbx_content.specs.Content.{Key, truth_key, number_key}
use Rattle.pbx_json_meaning.specs.Scalars.{Judged, if_ok, truth_read, text_read, bytes_read, whole, in_range, as_number, word_read, integer_read}
use Rattle.pbx_json_meaning.specs.declared.kind.JsonKind.{JsonKind}
use Rattle.pbx_json_meaning.specs.declared.kind.JsonKind.TheVariants as fault

-- a truth value
abbrev pub truth_answer : Data → Judged
truth_answer d = if_ok (truth_read d) (λ b. Ok (Some (content.truth b)))

-- a text
abbrev pub text_answer : Data → Judged
text_answer d = if_ok (text_read d) (λ s. Ok (Some (content.text s)))

-- bytes
abbrev pub bytes_answer : Data → Judged
bytes_answer d = if_ok (bytes_read d) (λ s. Ok (Some (content.octets s)))

-- the number of an enum
abbrev pub enum_number_answer : Data → Judged
enum_number_answer (number n) = as_number (if_ok (whole n) (in_range (negsuc 2147483647) (pos 2147483647)))
enum_number_answer _ = Err fault.WrongKind

-- the key of a bool map
abbrev pub truth_key_answer : List ℕ → Result Key JsonKind
truth_key_answer s = if_ok (word_read s) (λ b. Ok (truth_key b))

-- the key of a map with integers from min to max
abbrev pub number_key_answer : ℤ → ℤ → List ℕ → Result Key JsonKind
number_key_answer min max s = if_ok (integer_read min max (string s)) (λ z. Ok (number_key z))
