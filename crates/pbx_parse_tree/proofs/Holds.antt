-- Tests that hold.
use Rattle.std.proofs.Common.{◌≡◌, List, [], ◌∷◌, Bool, true, false, not, ◌&&◌, ◌||◌, refl}
use Rattle.std.specs.List.{list_all}
use Rattle.std.proofs.lemmas.Bool.{false≢true}

pub both : {a b : Bool} → a && b ≡ true → (a ≡ true) × (b ≡ true)
both {a = true} {b = b} e = (refl, e)
both {a = false} {b = b} e = absurd (false≢true e)

pub joined : {a b : Bool} → a ≡ true → b ≡ true → a && b ≡ true
joined {a = true} {b = b} p q = q
joined {a = false} {b = b} p q = p

-- neither of two holds
pub neither : {a b : Bool} → a || b ≡ false → (a ≡ false) × (b ≡ false)
neither {a = true} {b = b} e = absurd (false≢true (cc))
neither {a = false} {b = b} e = (refl, e)

pub from_not : {b : Bool} → not b ≡ true → b ≡ false
from_not {b = true} e = absurd (false≢true e)
from_not {b = false} e = refl

pub to_not : {b : Bool} → b ≡ false → not b ≡ true
to_not {b = true} e = absurd (false≢true (cc))
to_not {b = false} e = refl

pub always : {A : Type 0} (xs : List A) → list_all (λ x. true) xs ≡ true
always [] = refl
always (x ∷ xs) = always xs
