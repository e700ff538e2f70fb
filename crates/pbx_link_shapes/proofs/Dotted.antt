-- What stands behind a leading dot.
use Rattle.std.proofs.Common.{◌≡◌, ◌≢◌, ℕ, List, [], ◌∷◌, Bool, true, false, Option, Some, None, refl, ap, sym, arith, Bor}
use Rattle.std.specs.Prelude.{◌==◌, option_copied, MatchOption, if◌then◌else◌}
use Rattle.std.proofs.lemmas.Bool.Decides.{nat_tests}
use Rattle.pbx_link_meaning.specs.Descriptors.{behind_dot}

no_dot : (bs : List ℕ) → ((rest : List ℕ) → bs ≢ 46 ∷ rest) → behind_dot bs ≡ None
no_dot [] h = refl
no_dot (b ∷ bs) h = at (b == 46) refl
  where
    at : (t : Bool) → (b == 46) ≡ t → (if t then Some bs else None) ≡ None
    at true e = let same : b ≡ 46 = grind (arith, nat_tests, e) in absurd (h bs (ap (λ (d : ℕ). d ∷ bs) same))
    at false e = refl

pub dot_is : (bs : List ℕ) (r : Option (Bor (List ℕ))) → MatchOption r ((rest : List ℕ) → bs ≢ 46 ∷ rest) (λ x. bs ≡ 46 ∷ x.now) → option_copied r ≡ behind_dot bs
dot_is bs (Some x) e = sym (ap behind_dot e)
dot_is bs None h = sym (no_dot bs h)
