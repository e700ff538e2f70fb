-- Two ghost values have one number only where they are one.
--     key_one      handles of one key are of one block and one value
use Rattle.std.proofs.Common.{◌≡◌, ℕ, ap, arith}
use Prim.Native.Nat.{zero, suc}
use base.Stored.{Gv, coded×, gnil, gnum, gcons}
use denote.RattleType.{RattleType}
use denote.RawPtr.{Ptr, coded_ptr}
use Rattle.pbx_shared.specs.Numbering.{counted_on, numbered_on, numbered}
use Rattle.pbx_shared.specs.Ownership.{key}

counted_one : (m n r s : ℕ) → counted_on m r ≡ counted_on n s → (m ≡ n) × (r ≡ s)
unfolding counted_on
counted_one zero zero r s e = (λ _. zero, omega (arith, e))
counted_one (suc m) (suc n) r s e = let both = counted_one m n r s (omega (arith, e)) in (ap suc both.0, both.1)
counted_one zero (suc n) r s e = absurd (omega (arith, e))
counted_one (suc m) zero r s e = absurd (omega (arith, e))

numbered_both : (a b : Gv) (r s : ℕ) → numbered_on a r ≡ numbered_on b s → (a ≡ b) × (r ≡ s)
unfolding numbered_on
numbered_both gnil gnil r s e = (λ _. gnil, omega (arith, e))
numbered_both (gnum m) (gnum n) r s e = let both = counted_one m n r s (omega (arith, e)) in (ap gnum both.0, both.1)
numbered_both (gcons a b) (gcons c d) r s e =
    let first = numbered_both a c (numbered_on b r) (numbered_on d s) (omega (arith, e)) in
    let second = numbered_both b d r s first.1 in
    (λ i. gcons (first.0 i) (second.0 i), second.1)
numbered_both gnil (gnum n) r s e = absurd (omega (arith, e))
numbered_both gnil (gcons c d) r s e = absurd (omega (arith, e))
numbered_both (gnum m) gnil r s e = absurd (omega (arith, e))
numbered_both (gnum m) (gcons c d) r s e = absurd (omega (arith, e))
numbered_both (gcons a b) gnil r s e = absurd (omega (arith, e))
numbered_both (gcons a b) (gnum n) r s e = absurd (omega (arith, e))

numbered_one : (a b : Gv) → numbered a ≡ numbered b → a ≡ b
unfolding numbered
numbered_one a b e = (numbered_both a b 0 0 e).0

pub key_one : (R : RattleType) (p q : Ptr) (x y : R.Denot) → key R p x ≡ key R q y → (p ≡ q) × (x ≡ y)
key_one R p q x y e =
    let both = coded× coded_ptr R.coded in
    let one : (Ptr × R.Denot) → (Ptr × R.Denot) → Type 0 = λ a b. a ≡ b in
    let same : one (p, x) (q, y) = both.inj (p, x) (q, y) (numbered_one (both.code (p, x)) (both.code (q, y)) (λ i. (e i).1)) in
    (λ i. (same i).0, λ i. (same i).1)
