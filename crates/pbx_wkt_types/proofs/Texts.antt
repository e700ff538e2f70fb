-- Texts that differ.
use Rattle.std.proofs.Common.{◌≡◌, ℕ, List, Bool, true, false, refl}
use Rattle.std.specs.Str.{bytes_eq}
use Rattle.std.proofs.lemmas.Slice.Eq.{bytes_eq-Decides}

-- texts that are not the same
pub differ : (a b : List ℕ) → ¬ (a ≡ b) → bytes_eq a b ≡ false
differ a b n = at (bytes_eq a b) (bytes_eq-Decides a b).0
  where
    at : (c : Bool) → (c ≡ true → a ≡ b) → c ≡ false
    at true h = absurd (n (h refl))
    at false h = refl
