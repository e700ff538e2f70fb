-- The length at the front of bytes.
use Rattle.std.proofs.Common.{◌≡◌, inl, inr, ℕ, zero, suc, ◌+◌, ◌≤◌, ◌<◌, List, [], ◌∷◌, ◌++◌, length, take, get_or, Ok, Err, refl, sym, ap, ◌∙◌, subst, arith}
use Rattle.std.proofs.Common.{append-nil}
use Rattle.std.proofs.lemmas.Bool.{le-ltb}
use Rattle.std.proofs.lemmas.List.{take_more}
use Rattle.pbx_wire.specs.declared.error.DecodeError.{DecodeError}
use Rattle.pbx_wire.specs.declared.error.DecodeError.TheVariants as errors
use Rattle.pbx_wire.specs.Reading.{varint_at}
use Rattle.pbx_wire.specs.Spelling.{IsChain, IsVarint}
use Rattle.pbx_wire.specs.Faults.{GoesOn, EndsInVarint, IsLongVarint}
use Rattle.pbx_wire.proofs.Again.{varint_again}
use Rattle.protox_lines_items.specs.Items.{HasLength}
use Rattle.protox_lines_items.specs.RecordLaws.{length_at, has_length, has_none}

-- ---- what is there is read

pub length_again : (bytes behind : List ℕ) (n : ℕ) → HasLength bytes n behind → length_at bytes ≡ Ok (n, behind)
length_again bytes behind n h = rw h.is (varint_again 0 h.spelled behind n h.is_length)

goes_on_again : (more : ℕ) (bytes : List ℕ) → GoesOn bytes → length bytes ≤ more → varint_at 0 more bytes ≡ Err (errors.Underflow 0)
unfolding varint_at
goes_on_again more [] on short = refl
goes_on_again zero (b ∷ bs) on short = absurd (omega arith)
goes_on_again (suc more) (b ∷ bs) (h, on) short = rw (le-ltb b 128 h, goes_on_again more bs on (omega arith)) refl

long_on_again : (more : ℕ) (front : List ℕ) (tenth : ℕ) (rest : List ℕ) → GoesOn front → length front ≡ more → 1 < tenth
    → varint_at 0 more (front ++ tenth ∷ rest) ≡ Err (errors.Varint 0)
unfolding varint_at
long_on_again zero [] tenth rest on nine large = rw (le-ltb tenth 2 large) refl
long_on_again (suc more) [] tenth rest on nine large = absurd (omega arith)
long_on_again zero (b ∷ front) tenth rest on nine large = absurd (omega arith)
long_on_again (suc more) (b ∷ front) tenth rest (h, on) nine large = rw (le-ltb b 128 h, long_on_again more front tenth rest on (omega arith) large) refl

pub ends_again : (bytes : List ℕ) → EndsInVarint bytes → length_at bytes ≡ Err (errors.Underflow 0)
ends_again bytes (on, short) = goes_on_again 9 bytes on (omega arith)

pub long_again : (bytes : List ℕ) → IsLongVarint bytes → length_at bytes ≡ Err (errors.Varint 0)
long_again bytes (front, tenth, rest, on, nine, large, parts) = rw parts (long_on_again 9 front tenth rest on nine large)

-- ---- bytes that come one after another

pub goes_on-append : (a b : List ℕ) → GoesOn a → GoesOn b → GoesOn (a ++ b)
goes_on-append [] b h k = k
goes_on-append (x ∷ a) b (h, hs) k = (h, goes_on-append a b hs k)

pub chain-append : (a b : List ℕ) → GoesOn a → IsChain b → IsChain (a ++ b)
chain-append [] b h k = k
chain-append (x ∷ []) [] h k = absurd k
chain-append (x ∷ []) (y ∷ b) (h, hs) k = (h, k)
chain-append (x ∷ y ∷ a) b (h, hs) k = (h, chain-append (y ∷ a) b hs k)

chain_stops : (a : List ℕ) → IsChain a → GoesOn a → ⊥
chain_stops [] h k = h
chain_stops (x ∷ []) h (k, ks) = omega arith
chain_stops (x ∷ y ∷ a) (h, hs) (k, ks) = chain_stops (y ∷ a) hs ks

chain_ends : (a x : List ℕ) → IsChain a → IsChain (a ++ x) → x ≡ []
chain_ends [] x h k = absurd h
chain_ends (b ∷ []) [] h k = refl
chain_ends (b ∷ []) (y ∷ x) h (k, ks) = absurd (omega arith)
chain_ends (b ∷ c ∷ a) x (h, hs) (k, ks) = chain_ends (c ∷ a) x hs ks

-- a chain of at most ten bytes is a length, or has a tenth byte that is too large
pub chain_is : (bytes behind : List ℕ) (n : ℕ) → IsChain bytes → length_at bytes ≡ Ok (n, behind) → IsVarint bytes n
chain_is bytes behind n h e =
    let k = has_length bytes behind n e in
    let none : behind ≡ [] = chain_ends k.spelled behind k.is_length.chain (subst IsChain k.is h) in
    let same : k.spelled ≡ bytes = sym (k.is ∙ ap (λ t. k.spelled ++ t) none ∙ append-nil k.spelled) in
    subst (λ t. IsVarint t n) same k.is_length

pub chain_long : (bytes : List ℕ) (e : DecodeError) → IsChain bytes → length_at bytes ≡ Err e → IsLongVarint bytes
chain_long bytes e h f = elim (has_none bytes e f) [ inl k ↦ absurd (chain_stops bytes h k.0) | inr k ↦ k ]

-- the last of bytes that go on
record EndsWith (more : ℕ) (bytes : List ℕ) : Type 0 where
  front : List ℕ
  last : ℕ
  on : GoesOn front
  len : length front ≡ more
  large : 128 ≤ last
  is : bytes ≡ front ++ last ∷ []

ends_with : (more : ℕ) (bytes : List ℕ) → GoesOn bytes → length bytes ≡ suc more → EndsWith more bytes
ends_with more [] h e = absurd (omega arith)
ends_with zero (b ∷ []) (h, hs) e = record { front = []; last = b; on = tt; len = refl; large = h; is = refl }
ends_with zero (b ∷ c ∷ bs) h e = absurd (omega arith)
ends_with (suc more) (b ∷ bs) (h, hs) e =
    let k = ends_with more bs hs (omega arith) in
    record { front = b ∷ k.front; last = k.last; on = (h, k.on); len = omega (arith, k.len); large = k.large; is = ap (λ t. b ∷ t) k.is }

-- ten bytes that go on are no length
pub ten_are_long : (bytes : List ℕ) → GoesOn bytes → length bytes ≡ 10 → IsLongVarint bytes
ten_are_long bytes h e = let k = ends_with 9 bytes h e in (k.front, k.last, [], k.on, k.len, omega (arith, k.large), k.is)

-- ---- a byte more

pub goes_on_at : (bytes : List ℕ) (i : ℕ) → i < length bytes → GoesOn (take i bytes) → 128 ≤ get_or bytes i 0 → GoesOn (take (i + 1) bytes)
goes_on_at bytes i h on large = subst GoesOn (sym (take_more bytes i 0 h)) (goes_on-append (take i bytes) (get_or bytes i 0 ∷ []) on (large, tt))

pub chain_at : (bytes : List ℕ) (i : ℕ) → i < length bytes → GoesOn (take i bytes) → get_or bytes i 0 < 128 → IsChain (take (i + 1) bytes)
chain_at bytes i h on small = subst IsChain (sym (take_more bytes i 0 h)) (chain-append (take i bytes) (get_or bytes i 0 ∷ []) on small)
