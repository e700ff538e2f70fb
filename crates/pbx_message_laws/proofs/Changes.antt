-- Fields with the value of a number changed, as pbx_content_codec has it too and keeps to itself.
use Rattle.std.proofs.Common.{◌≡◌, ℕ, ◌<◌, ◌≤◌, Bool, true, false, if◌then◌else◌, nat_lt, Option, Some, None, refl, sym, ◌∙◌, arith}
use Rattle.std.specs.Prelude.{◌==◌}
use Rattle.std.proofs.lemmas.Bool.Decides.{nat_tests}
use Rattle.pbx_content.specs.Content.{Fields, no_fields, field, Val, get, added, without, with_option, IsAbove, IsAscending}
use Rattle.pbx_content.proofs.OntoFields.{get-above}

-- ---- ascending numbers

pub above_ascends : (m : ℕ) (fs : Fields) → IsAbove m fs → IsAscending fs
above_ascends m no_fields h = tt
above_ascends m (field k v fs) h = h.1

above_lower : (m k : ℕ) (fs : Fields) → m < k → IsAbove k fs → IsAbove m fs
above_lower m k no_fields lt h = tt
above_lower m k (field n v fs) lt h = (omega (arith, h.0), h.1)

above-without : (m n : ℕ) (fs : Fields) → IsAbove m fs → IsAbove m (without n fs)
above-without m n no_fields h = tt
above-without m n (field k v fs) h = at (n == k) (above-without k n fs h.1)
  where
    at : (b : Bool) → IsAbove k (without n fs) → IsAbove m (if b then fs else field k v (without n fs))
    at true ih = above_lower m k fs h.0 h.1
    at false ih = (h.0, ih)

pub ascending-without : (n : ℕ) (fs : Fields) → IsAscending fs → IsAscending (without n fs)
ascending-without n no_fields h = tt
ascending-without n (field k v fs) h = at (n == k)
  where
    at : (b : Bool) → IsAscending (if b then fs else field k v (without n fs))
    at true = above_ascends k fs h
    at false = above-without k n fs h

above-added : (m n : ℕ) (v : Val) (fs : Fields) → m < n → IsAbove m fs → get n fs ≡ None → IsAbove m (added n v fs)
above-added m n v no_fields lt h e = (lt, tt)
above-added m n v (field k w fs) lt h e = at (nat_lt n k) refl (n == k) refl e (λ less none. above-added k n v fs less h.1 none)
  where
    at : (a : Bool) → nat_lt n k ≡ a → (b : Bool) → (n == k) ≡ b → (if b then Some w else get n fs) ≡ None
        → (k < n → get n fs ≡ None → IsAbove k (added n v fs))
        → IsAbove m (if a then field n v (field k w fs) else field k w (added n v fs))
    at a d true c e ih = absurd cc
    at true d false c e ih = let less : n < k = grind (arith, nat_tests) in (lt, (less, h.1))
    at false d false c e ih = let less : k < n = grind (arith, nat_tests) in (h.0, ih less e)

pub ascending-added : (n : ℕ) (v : Val) (fs : Fields) → IsAscending fs → get n fs ≡ None → IsAscending (added n v fs)
ascending-added n v no_fields h e = tt
ascending-added n v (field k w fs) h e = at (nat_lt n k) refl (n == k) refl e
  where
    at : (a : Bool) → nat_lt n k ≡ a → (b : Bool) → (n == k) ≡ b → (if b then Some w else get n fs) ≡ None
        → IsAscending (if a then field n v (field k w fs) else field k w (added n v fs))
    at a d true c e = absurd cc
    at true d false c e = let less : n < k = grind (arith, nat_tests) in (less, h)
    at false d false c e = let less : k < n = grind (arith, nat_tests) in above-added k n v fs less h e

-- ---- values by number

either : (b : Bool) (o : Option Val) → o ≡ (if b then o else o)
either true o = refl
either false o = refl

pub get-without : (k n : ℕ) (fs : Fields) → IsAscending fs → get k (without n fs) ≡ (if k == n then None else get k fs)
get-without k n no_fields h = either (k == n) None
get-without k n (field m w fs) h = at (n == m) refl (k == m) refl (k == n) refl (get-without k n fs (above_ascends m fs h))
  where
    at : (a : Bool) → (n == m) ≡ a → (b : Bool) → (k == m) ≡ b → (c : Bool) → (k == n) ≡ c → get k (without n fs) ≡ (if c then None else get k fs)
        → get k (if a then fs else field m w (without n fs)) ≡ (if c then None else (if b then Some w else get k fs))
    at true d b p true q ih = let le : k ≤ m = grind (arith, nat_tests) in get-above k m fs h le
    at true d true p false q ih = absurd (let same : (k == n) ≡ true = grind (arith, nat_tests) in let bad : true ≡ false = sym same ∙ q in cc)
    at true d false p false q ih = refl
    at false d true p true q ih = absurd (let same : (n == m) ≡ true = grind (arith, nat_tests) in let bad : true ≡ false = sym same ∙ d in cc)
    at false d true p false q ih = rw p refl
    at false d false p c q ih = rw p ih

pub get-added : (k n : ℕ) (v : Val) (fs : Fields) → get n fs ≡ None → get k (added n v fs) ≡ (if k == n then Some v else get k fs)
get-added k n v no_fields e = refl
get-added k n v (field m w fs) e = at (nat_lt n m) (n == m) refl (k == m) refl (k == n) refl e (get-added k n v fs)
  where
    at : (a b : Bool) → (n == m) ≡ b → (c : Bool) → (k == m) ≡ c → (d : Bool) → (k == n) ≡ d → (if b then Some w else get n fs) ≡ None
        → (get n fs ≡ None → get k (added n v fs) ≡ (if d then Some v else get k fs))
        → get k (if a then field n v (field m w fs) else field m w (added n v fs)) ≡ (if d then Some v else (if c then Some w else get k fs))
    at a true p c q d s e ih = absurd cc
    at true false p c q d s e ih = rw (s, q) refl
    at false false p true q true s e ih = absurd (let same : (n == m) ≡ true = grind (arith, nat_tests) in let bad : true ≡ false = sym same ∙ p in cc)
    at false false p true q false s e ih = rw q refl
    at false false p false q d s e ih = rw q (ih e)

pub get-with_option : (k n : ℕ) (o : Option Val) (fs : Fields) → IsAscending fs → get k (with_option n o fs) ≡ (if k == n then o else get k fs)
get-with_option k n None fs h = get-without k n fs h
get-with_option k n (Some v) fs h =
    let here : (n == n) ≡ true = grind (arith, nat_tests) in
    get-added k n v (without n fs) (get-without n n fs h ∙ rw here refl) ∙ rw (get-without k n fs h) (at (k == n))
  where
    at : (b : Bool) → (if b then Some v else (if b then None else get k fs)) ≡ (if b then Some v else get k fs)
    at true = refl
    at false = refl

pub ascending-with_option : (n : ℕ) (o : Option Val) (fs : Fields) → IsAscending fs → IsAscending (with_option n o fs)
ascending-with_option n None fs h = ascending-without n fs h
ascending-with_option n (Some v) fs h =
    let here : (n == n) ≡ true = grind (arith, nat_tests) in
    ascending-added n v (without n fs) (ascending-without n fs h) (get-without n n fs h ∙ rw here refl)
