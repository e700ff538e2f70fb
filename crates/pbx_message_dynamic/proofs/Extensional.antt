-- Ascending fields with the same values at each number are the same.
use Rattle.std.proofs.Common.{◌≡◌, ℕ, ◌<◌, ◌≤◌, Bool, true, false, if◌then◌else◌, nat_lt, ◌==◌, Some, None, refl, sym, ◌∙◌, subst, arith}
use Rattle.std.proofs.lemmas.Bool.Decides.{nat_tests}
use Rattle.pbx_content.specs.Content.{Val, Fields, no_fields, field, get, IsAbove, IsAscending}

-- nothing stands at or below a number that all are above
pub get-above : (n m : ℕ) (fs : Fields) → IsAbove m fs → n ≤ m → get n fs ≡ None
get-above n m no_fields h le = refl
get-above n m (field k v fs) h le =
    let low : n < k = omega (arith, h.0) in
    let apart : (n == k) ≡ false = grind (arith, nat_tests) in
    rw apart (get-above n k fs h.1 (omega arith))

above-ascending : (n : ℕ) (fs : Fields) → IsAbove n fs → IsAscending fs
above-ascending n no_fields h = tt
above-ascending n (field m v fs) h = h.1

first_found : (n : ℕ) (v : Val) (fs : Fields) → get n (field n v fs) ≡ Some v
first_found n v fs = let here : (n == n) ≡ true = grind (arith, nat_tests) in rw here refl

tails : (n : ℕ) (v w : Val) (fs gs : Fields) → IsAbove n fs → IsAbove n gs → ((k : ℕ) → get k (field n v fs) ≡ get k (field n w gs)) → (k : ℕ) → get k fs ≡ get k gs
tails n v w fs gs a b h k = at (k == n) refl (h k)
  where
    at : (c : Bool) → (k == n) ≡ c → (if c then Some v else get k fs) ≡ (if c then Some w else get k gs) → get k fs ≡ get k gs
    at true e g = let le : k ≤ n = grind (arith, nat_tests) in get-above k n fs a le ∙ sym (get-above k n gs b le)
    at false e g = g

same_heads : (n : ℕ) (v w : Val) (fs gs : Fields) → IsAbove n fs → IsAbove n gs → ((k : ℕ) → get k (field n v fs) ≡ get k (field n w gs)) → (((k : ℕ) → get k fs ≡ get k gs) → fs ≡ gs)
    → field n v fs ≡ field n w gs
same_heads n v w fs gs a b h rest =
    let values : Some v ≡ Some w = sym (first_found n v fs) ∙ h n ∙ first_found n w gs in
    let tail = rest (tails n v w fs gs a b h) in
    cc

-- a first number that the other fields pass
earlier : (n m : ℕ) (v : Val) (fs gs : Fields) → n < m → IsAbove m gs → (w : Val) → get n (field n v fs) ≡ get n (field m w gs) → ⊥
earlier n m v fs gs lt b w h =
    let none : get n (field m w gs) ≡ None = get-above n n (field m w gs) (lt, b) (omega arith) in
    let bad : Some v ≡ None = sym (first_found n v fs) ∙ h ∙ none in
    cc

pub same_fields : (fs gs : Fields) → IsAscending fs → IsAscending gs → ((n : ℕ) → get n fs ≡ get n gs) → fs ≡ gs
same_fields no_fields no_fields a b h = refl
same_fields no_fields (field m w gs) a b h = let bad : None ≡ Some w = h m ∙ first_found m w gs in absurd (cc)
same_fields (field n v fs) no_fields a b h = let bad : Some v ≡ None = sym (first_found n v fs) ∙ h n in absurd (cc)
same_fields (field n v fs) (field m w gs) a b h = at (λ c d tails. same_fields fs gs c d tails) (nat_lt n m) (nat_lt m n) refl refl
  where
    at : (IsAscending fs → IsAscending gs → ((k : ℕ) → get k fs ≡ get k gs) → fs ≡ gs) → (c d : Bool) → nat_lt n m ≡ c → nat_lt m n ≡ d → field n v fs ≡ field m w gs
    at rest true d e f = absurd (earlier n m v fs gs (grind (arith, nat_tests)) b w (h n))
    at rest false true e f = absurd (earlier m n w gs fs (grind (arith, nat_tests)) a v (sym (h m)))
    at rest false false e f =
        let same : m ≡ n = grind (arith, nat_tests) in
        let b' : IsAbove n gs = let P : ℕ → Type 0 = λ x. IsAbove x gs in subst P same b in
        let h' : (k : ℕ) → get k (field n v fs) ≡ get k (field n w gs) = let Q : ℕ → Type 0 = λ x. (k : ℕ) → get k (field n v fs) ≡ get k (field x w gs) in subst Q same h in
        rw same (same_heads n v w fs gs a b' h' (rest (above-ascending n fs a) (above-ascending n gs b')))
