-- What a write leaves at each number.
use Rattle.std.proofs.Common.{◌≡◌, ℕ, false, ◌==◌, Some, refl, arith}
use Rattle.std.proofs.lemmas.Bool.Decides.{nat_tests}
use Rattle.pbx_content.specs.Content.{Val, Fields, no_fields, field, get}
use Rattle.pbx_json_meaning.specs.Stands.{put}

pub get-put_other : (q n : ℕ) (v : Val) (fs : Fields) → (q == n) ≡ false → get q (put n v fs) ≡ get q fs
get-put_other q n v no_fields h = rw h refl
get-put_other q n v (field m w fs) h = let ih = get-put_other q n v fs h in grind (arith, nat_tests, ih)

pub get-put : (n : ℕ) (v : Val) (fs : Fields) → get n (put n v fs) ≡ Some v
get-put n v no_fields = grind (arith, nat_tests)
get-put n v (field m w fs) = let ih = get-put n v fs in grind (arith, nat_tests, ih)
