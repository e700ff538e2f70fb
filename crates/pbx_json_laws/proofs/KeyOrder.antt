-- Pairs by ascending key, and pairs that are put among them.
use Rattle.std.proofs.Common.{◌≡◌, Bool, true, false, ◌&&◌, if◌then◌else◌, refl, sym, ap, ◌∙◌, List, Option}
use Rattle.std.specs.List.{list_any}
use Rattle.std.specs.Prelude.{not}
use Rattle.pbx_content.proofs.OntoPairs.{Compared, first, same, later, key_compared, key_follows}
use Rattle.pbx_content.specs.Content.{Key, key_before, Val, Pairs, no_pairs, pair, with_pair}
use Rattle.pbx_content.specs.Sound.{IsBefore}
use Rattle.pbx_json_meaning.specs.Stands.{is_alike}

-- the keys ascend
abbrev pub AreInOrder : Pairs → Type 0
AreInOrder no_pairs = Unit {0}
AreInOrder (pair k v ps) = IsBefore k ps × AreInOrder ps

pub before_with : (l k : Key) (v : Val) (ps : Pairs) → key_before l k ≡ true → IsBefore l ps → IsBefore l (with_pair k v ps)
before_with l k v no_pairs e h = e
before_with l k v (pair m u qs) e h = at (key_before k m) (key_before m k)
  where
    at : (a b : Bool) → IsBefore l (if a then pair k v (pair m u qs) else (if b then pair m u (with_pair k v qs) else pair m u qs))
    at true b = e
    at false true = h
    at false false = h

pub in_order_with : (k : Key) (v : Val) (ps : Pairs) → AreInOrder ps → AreInOrder (with_pair k v ps)
in_order_with k v no_pairs h = (tt, tt)
in_order_with k v (pair m u qs) h = at (key_before k m) refl (key_before m k) refl (in_order_with k v qs h.1)
  where
    at : (a : Bool) → key_before k m ≡ a → (b : Bool) → key_before m k ≡ b → AreInOrder (with_pair k v qs)
        → AreInOrder (if a then pair k v (pair m u qs) else (if b then pair m u (with_pair k v qs) else pair m u qs))
    at true p b q ih = (p, h)
    at false p true q ih = (before_with m k v qs q h.0, ih)
    at false p false q ih = h

-- a key before all others stands in front
pub with_first : (l : Key) (v : Val) (ps : Pairs) → IsBefore l ps → with_pair l v ps ≡ pair l v ps
with_first l v no_pairs h = refl
with_first l v (pair m w ps) h = rw h refl

-- keys that do not read alike stand one before the other
apart : (k l : Key) → is_alike k l ≡ false → Compared key_before k l → (P : Type 0) → (key_before k l ≡ true → key_before l k ≡ false → P)
    → (key_before l k ≡ true → key_before k l ≡ false → P) → P
apart k l e (first p q) P a b = a p q
apart k l e (later p q) P a b = b p q
apart k l e (same s p q) P a b = absurd (let bad : is_alike k l ≡ true = rw (p, q) refl in cc)

pub alike_swaps : (k l : Key) → is_alike k l ≡ is_alike l k
alike_swaps k l = at (key_before k l) (key_before l k)
  where
    at : (a b : Bool) → (not a && not b) ≡ (not b && not a)
    at true true = refl
    at true false = refl
    at false true = refl
    at false false = refl

-- a key that stands before another does not read alike
pub before_apart : (k l : Key) → key_before k l ≡ true → is_alike k l ≡ false
before_apart k l e = rw e refl

pub never_before_itself : (k : Key) → key_before k k ≡ false
never_before_itself k = at (key_compared k k)
  where
    at : Compared key_before k k → key_before k k ≡ false
    at (first p q) = q
    at (later p q) = q
    at (same s p q) = p

-- of two keys the order does not matter
ordered : (k l : Key) (v w : Val) (ps : Pairs) → key_before l k ≡ true → key_before k l ≡ false
    → with_pair k v (with_pair l w ps) ≡ with_pair l w (with_pair k v ps)
ordered k l v w no_pairs e d = rw (d, e) refl
ordered k l v w (pair m u qs) e d = at (key_compared l m) (key_compared k m) (ordered k l v w qs e d)
  where
    at : Compared key_before l m → Compared key_before k m → with_pair k v (with_pair l w qs) ≡ with_pair l w (with_pair k v qs)
        → with_pair k v (with_pair l w (pair m u qs)) ≡ with_pair l w (with_pair k v (pair m u qs))
    at (first p q) (first r s) ih = simp (p, r, d, e) refl
    at (first p q) (later r s) ih = simp (p, s, r, d, e) refl
    at (first p q) (same t r s) ih = simp (p, r, s, d, e) refl
    at (later p q) (later r s) ih = simp (p, q, r, s) (ap (λ (x : Pairs). pair m u x) ih)
    at (later p q) (first r s) ih = absurd (let bad = key_follows m l k p e in cc)
    at (later p q) (same t r s) ih = absurd (let bad = key_follows m l k p e in cc)
    at (same t p q) (later r s) ih = simp (p, q, r, s) refl
    at (same t p q) (first r s) ih = absurd (let here : key_before m k ≡ true = ap (λ x. key_before x k) (sym t) ∙ e in cc)
    at (same t p q) (same u r s) ih = absurd (let here : key_before m k ≡ true = ap (λ x. key_before x k) (sym t) ∙ e in cc)

pub commutes : (k l : Key) (v w : Val) (ps : Pairs) → is_alike k l ≡ false → with_pair k v (with_pair l w ps) ≡ with_pair l w (with_pair k v ps)
commutes k l v w ps e =
    apart k l e (key_compared k l) (with_pair k v (with_pair l w ps) ≡ with_pair l w (with_pair k v ps))
    (λ p q. sym (ordered l k w v ps p q)) (λ p q. ordered k l v w ps p q)

-- what stands before a key stands before all that the key stands before
pub before_through : (j l : Key) (ps : Pairs) → key_before j l ≡ true → IsBefore l ps → IsBefore j ps
before_through j l no_pairs e h = tt
before_through j l (pair m w qs) e h = key_follows j l m e h

-- ---- keys with their values, where they were not dropped

abbrev pub Found : Type 0
Found = List (Key × Option Val)

-- a key passes
abbrev pub any_key : (Key → Bool) → Found → Bool
any_key p es = list_any (λ (e : Key × Option Val). p e.0) es
