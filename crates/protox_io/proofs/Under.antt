-- The key of a path, one part of the path at a time.
use Rattle.std.proofs.Common.{◌≡◌, ℕ, zero, suc, ◌+◌, ◌-◌, List, [], ◌∷◌, ◌++◌, refl, sym, ap, ◌∙◌, arith, append-nil, add-one}
use Rattle.std.specs.List.{fold}
use Rattle.std.proofs.lemmas.List.Sums.{fold-append}
use Rattle.protox_io.specs.Paths.{Component, Root, Parent, Named, bare, upward, behind}
use Rattle.protox_io.specs.Backwards.{under, key_left}

-- the last component of a path
last : (path front : List ℕ) (c : Component) → bare path ≡ bare front ++ c ∷ [] → fold behind [] (bare path) ≡ behind (fold behind [] (bare front)) c
last path front c e = ap (fold behind []) e ∙ fold-append behind [] (bare front) (c ∷ [])

under_root : (n : ℕ) (before : List Component) → under n (Root ∷ before) ≡ Root ∷ before
under_root zero before = refl
under_root (suc n) before = under_root n before

parents : ℕ → List Component
parents zero = []
parents (suc n) = Parent ∷ parents n

upward_parents : (k : ℕ) → upward (parents k) ≡ Parent ∷ parents k
unfolding parents
upward_parents zero = refl
upward_parents (suc k) = refl

under_parents : (n k : ℕ) → under n (parents k) ≡ parents (n + k)
unfolding parents
under_parents zero k = ap parents (let e : k ≡ 0 + k = omega arith in e)
under_parents (suc n) k =
    ap (under n) (upward_parents k) ∙ under_parents n (suc k) ∙ ap parents (let e : n + suc k ≡ suc n + k = omega arith in e)

-- no part, as a dot or an empty one
pub key_none : (n : ℕ) (path front : List ℕ) → bare path ≡ bare front ++ [] → key_left n path ≡ key_left n front
key_none n path front e = ap (λ l. under n (fold behind [] l)) (e ∙ append-nil (bare front))

pub key_parent : (n : ℕ) (path front : List ℕ) → bare path ≡ bare front ++ Parent ∷ [] → key_left n path ≡ key_left (n + 1) front
key_parent n path front e = ap (under n) (last path front Parent e) ∙ ap (λ k. key_left k front) (sym (add-one n))

pub key_root : (n : ℕ) (path front : List ℕ) → bare path ≡ bare front ++ Root ∷ [] → key_left n path ≡ Root ∷ key_left 0 front
key_root n path front e = ap (under n) (last path front Root e) ∙ under_root n (fold behind [] (bare front))

pub key_named : (path front name : List ℕ) → bare path ≡ bare front ++ Named name ∷ [] → key_left 0 path ≡ Named name ∷ key_left 0 front
key_named path front name e = last path front (Named name) e

pub key_taken : (n : ℕ) (path front name : List ℕ) → ¬ (n ≡ 0) → bare path ≡ bare front ++ Named name ∷ [] → key_left n path ≡ key_left (n - 1) front
key_taken zero path front name h e = absurd (h refl)
key_taken (suc n) path front name h e =
    ap (under (suc n)) (last path front (Named name) e) ∙ ap (λ k. key_left k front) (let one : n ≡ suc n - 1 = omega arith in one)

-- at the start of the path
pub key_end : (n : ℕ) → ¬ (n ≡ 0) → key_left n [] ≡ Parent ∷ key_left (n - 1) []
unfolding parents
key_end zero h = absurd (h refl)
key_end (suc n) h =
    under_parents n (suc zero) ∙ ap parents (let e : n + 1 ≡ suc n = omega arith in e)
    ∙ ap (λ l. Parent ∷ l) (sym (under_parents n zero ∙ ap parents (let e : n + 0 ≡ n = omega arith in e)))
    ∙ ap (λ k. Parent ∷ key_left k []) (let one : n ≡ suc n - 1 = omega arith in one)
