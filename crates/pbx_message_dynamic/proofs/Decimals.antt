-- Numbers of declared defaults.
use Rattle.std.proofs.Common.{◌≡◌, ℕ, ◌<◌, ◌^◌, nat_lt, Bool, true, false, if◌then◌else◌, Option, Some, None, refl, arith}
use Rattle.std.proofs.lemmas.Bool.Decides.{nat_tests}
use Rattle.std.specs.Prelude.{unwrap_or}
use Rattle.pbx_link_rules_scope.specs.Digits.{small}

small_at : (n : ℕ) (b : Bool) → nat_lt n (2 ^ 64) ≡ b → n < 2 ^ 64 → unwrap_or (if b then Some n else None) 0 ≡ n
small_at n true e h = refl
small_at n false e h = absurd (grind (arith, nat_tests))

pub small_number : (o : Option ℕ) → unwrap_or o 0 < 2 ^ 64 → unwrap_or (small o) 0 ≡ unwrap_or o 0
small_number None h = refl
small_number (Some n) h = small_at n (nat_lt n (2 ^ 64)) refl h
