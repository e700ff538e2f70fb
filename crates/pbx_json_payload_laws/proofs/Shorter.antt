-- Values of bytes in fields whose bytes are shorter than a number.
use Rattle.std.proofs.Common.{◌≡◌, ℕ, ◌<◌, ◌==◌, length, Bool, true, false, if◌then◌else◌, Option, Some, None, refl, subst}
use Rattle.pbx_content.specs.Content as content
use Rattle.pbx_content.specs.Content.{Fields, no_fields, field as field_of_number, Val, get}
use Rattle.pbx_json_meaning.specs.Forms.{bytes_at}
use Rattle.pbx_json_payload_laws.specs.Inside.{AreFieldsShorter, IsValShorter}

pub bytes_short : (n : ℕ) → 0 < n → (v : Option Val) → ((w : Val) → v ≡ Some w → IsValShorter n w) → length (bytes_at v) < n
bytes_short n some None h = some
bytes_short n some (Some (content.octets b)) h = h (content.octets b) refl
bytes_short n some (Some (content.number z)) h = some
bytes_short n some (Some (content.truth b)) h = some
bytes_short n some (Some (content.text s)) h = some
bytes_short n some (Some (content.message c)) h = some
bytes_short n some (Some (content.many vs)) h = some
bytes_short n some (Some (content.keyed ps)) h = some

pub get_shorter : (n m : ℕ) (fs : Fields) → AreFieldsShorter n fs → (w : Val) → get m fs ≡ Some w → IsValShorter n w
get_shorter n m no_fields h w e = absurd (cc)
get_shorter n m (field_of_number k v fs) h w e = at (m == k) e (get_shorter n m fs h.1 w)
  where
    at : (b : Bool) → (if b then Some v else get m fs) ≡ Some w → (get m fs ≡ Some w → IsValShorter n w) → IsValShorter n w
    at true e ih = let is : v ≡ w = cc in subst (IsValShorter n) is h.0
    at false e ih = ih e
