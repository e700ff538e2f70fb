-- The text behind the last `/` of a URL.
use Rattle.std.proofs.Common.{◌≡◌, ◌≢◌, ℕ, zero, suc, ◌<◌, List, [], ◌∷◌, length, drop, get_or, Bool, true, false, if◌then◌else◌, Some, None, refl, ap, arith}
use Rattle.std.specs.Prelude.{◌==◌}
use Rattle.std.specs.Option.{option_or}
use Rattle.std.specs.Str.{NoCharPasses}
use Rattle.std.proofs.lemmas.Bool.Decides.{nat_tests}
use Rattle.std.proofs.lemmas.Str.Pattern.{NoCharPasses-char}
use Rattle.pbx_json_meaning.specs.Urls.{after_slash}

none_without : (s : List ℕ) → ((i : ℕ) → i < length s → get_or s i 0 ≢ 47) → after_slash s ≡ None
none_without [] h = refl
none_without (c ∷ cs) h = rw (none_without cs (λ i lt. h (suc i) (omega (arith, lt)))) (at (c == 47) refl)
  where
    at : (b : Bool) → c == 47 ≡ b → (if b then Some cs else None) ≡ None
    at true e = absurd (h 0 (omega arith) (grind (arith, nat_tests, e)))
    at false e = refl

pub no_slash : (s : List ℕ) → NoCharPasses (λ d. d == 47) s → after_slash s ≡ None
no_slash s h = none_without s (λ i lt. NoCharPasses-char 47 s i h (omega arith) lt)

pub slash_at : (s : List ℕ) (i : ℕ) (rest : List ℕ) → drop i s ≡ 47 ∷ rest → after_slash rest ≡ None → after_slash s ≡ Some rest
slash_at [] zero rest e h = absurd (cc)
slash_at [] (suc i) rest e h = absurd (cc)
slash_at (c ∷ cs) zero rest e h =
    let first : c ≡ 47 = cc in
    let same : cs ≡ rest = cc in
    rw (first, same, h) refl
slash_at (c ∷ cs) (suc i) rest e h = rw (slash_at cs i rest e h) refl
