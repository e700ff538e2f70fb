-- Groups of symbols, one behind another.
use Rattle.std.proofs.Common.{◌≡◌, ◌≤◌, ◌<◌, ◌∙◌, arith, length, drop, slice_index, ℕ, List, [], ◌∷◌, ◌++◌, Option, Some, None, option_map, refl, append_assoc}
use Rattle.std.specs.Option.{option_and_then}
use Rattle.pbx_text.specs.Base64.{bytes_in, values_in, value_in, bytes_of_values}

-- a value in front of others
abbrev put : Option ℕ → Option (List ℕ) → Option (List ℕ)
put v vs = option_and_then (λ v. option_map (λ vs. v ∷ vs) vs) v

joined : (a b c d : Option ℕ) (rest : Option (List ℕ))
    → option_and_then bytes_of_values (put a (put b (put c (put d rest))))
    ≡ option_and_then (λ group. option_map (λ bytes. group ++ bytes) (option_and_then bytes_of_values rest))
    (option_and_then bytes_of_values (put a (put b (put c (put d (Some []))))))
joined None b c d rest = refl
joined (Some a) None c d rest = refl
joined (Some a) (Some b) None d rest = refl
joined (Some a) (Some b) (Some c) None rest = refl
joined (Some a) (Some b) (Some c) (Some d) None = refl
joined (Some a) (Some b) (Some c) (Some d) (Some vs) = refl

-- four symbols, and what stands behind them
pub bytes_in_more : (symbols : List ℕ) (a b c d : ℕ) (rest : List ℕ)
    → bytes_in symbols (a ∷ b ∷ c ∷ d ∷ rest)
    ≡ option_and_then (λ group. option_map (λ bytes. group ++ bytes) (bytes_in symbols rest)) (bytes_in symbols (a ∷ b ∷ c ∷ d ∷ []))
bytes_in_more symbols a b c d rest = joined (value_in symbols a) (value_in symbols b) (value_in symbols c) (value_in symbols d) (values_in symbols rest)

abbrev Left : List ℕ → List ℕ → List ℕ → List ℕ → Type 0
Left symbols all out rest = bytes_in symbols all ≡ option_map (λ more. out ++ more) (bytes_in symbols rest)

more_behind : (out group : List ℕ) (r : Option (List ℕ))
    → option_map (λ more. out ++ more) (option_map (λ bytes. group ++ bytes) r) ≡ option_map (λ more. (out ++ group) ++ more) r
more_behind out group None = refl
more_behind out group (Some x) = rw (append_assoc out group x) refl

-- a group of four is read, or no text has one
pub group_goes : (symbols all out rest group : List ℕ) → 4 ≤ length rest → Left symbols all out rest
    → Some group ≡ bytes_in symbols (slice_index rest 0 ∷ slice_index rest 1 ∷ slice_index rest 2 ∷ slice_index rest 3 ∷ [])
    → Left symbols all (out ++ group) (drop 4 rest)
group_goes symbols all out (a ∷ b ∷ c ∷ d ∷ rest) group long left is =
    left ∙ rw (bytes_in_more symbols a b c d rest, ← is) (more_behind out group (bytes_in symbols rest))
group_goes symbols all out [] group long left is = absurd (omega arith)
group_goes symbols all out (a ∷ []) group long left is = absurd (omega arith)
group_goes symbols all out (a ∷ b ∷ []) group long left is = absurd (omega arith)
group_goes symbols all out (a ∷ b ∷ c ∷ []) group long left is = absurd (omega arith)

pub group_fails : (symbols all out rest : List ℕ) → 4 ≤ length rest → Left symbols all out rest
    → None ≡ bytes_in symbols (slice_index rest 0 ∷ slice_index rest 1 ∷ slice_index rest 2 ∷ slice_index rest 3 ∷ [])
    → bytes_in symbols all ≡ None
group_fails symbols all out (a ∷ b ∷ c ∷ d ∷ rest) long left is = left ∙ rw (bytes_in_more symbols a b c d rest, ← is) refl
group_fails symbols all out [] long left is = absurd (omega arith)
group_fails symbols all out (a ∷ []) long left is = absurd (omega arith)
group_fails symbols all out (a ∷ b ∷ []) long left is = absurd (omega arith)
group_fails symbols all out (a ∷ b ∷ c ∷ []) long left is = absurd (omega arith)

-- the last symbols
pub three_are : (rest : List ℕ) → 3 ≤ length rest → length rest < 4 → rest ≡ slice_index rest 0 ∷ slice_index rest 1 ∷ slice_index rest 2 ∷ []
three_are [] low high = absurd (omega arith)
three_are (a ∷ []) low high = absurd (omega arith)
three_are (a ∷ b ∷ []) low high = absurd (omega arith)
three_are (a ∷ b ∷ c ∷ []) low high = refl
three_are (a ∷ b ∷ c ∷ d ∷ rest) low high = absurd (omega arith)

pub two_are : (rest : List ℕ) → 2 ≤ length rest → length rest < 3 → rest ≡ slice_index rest 0 ∷ slice_index rest 1 ∷ []
two_are [] low high = absurd (omega arith)
two_are (a ∷ []) low high = absurd (omega arith)
two_are (a ∷ b ∷ []) low high = refl
two_are (a ∷ b ∷ c ∷ rest) low high = absurd (omega arith)

lone : (v : Option ℕ) → option_and_then bytes_of_values (put v (Some [])) ≡ None
lone None = refl
lone (Some v) = refl

pub one_fails : (symbols all out rest : List ℕ) → 1 ≤ length rest → length rest < 2 → Left symbols all out rest → bytes_in symbols all ≡ None
one_fails symbols all out [] low high left = absurd (omega arith)
one_fails symbols all out (a ∷ []) low high left = left ∙ rw (lone (value_in symbols a)) refl
one_fails symbols all out (a ∷ b ∷ rest) low high left = absurd (omega arith)

pub ends : (symbols all out rest xs group : List ℕ) → Left symbols all out rest → rest ≡ xs → Some group ≡ bytes_in symbols xs
    → bytes_in symbols all ≡ Some (out ++ group)
ends symbols all out rest xs group left are is = left ∙ rw (are, ← is) refl

pub end_fails : (symbols all out rest xs : List ℕ) → Left symbols all out rest → rest ≡ xs → None ≡ bytes_in symbols xs → bytes_in symbols all ≡ None
end_fails symbols all out rest xs left are is = left ∙ rw (are, ← is) refl
