-- Keys of a sorted set.
use Rattle.std.proofs.Common.{◌≡◌, ◌∙◌, Bool, true, false, not, ◌||◌, List, [], ◌∷◌, Ordering, Less, Equal, Greater, is_eq, refl, ap, sym, Decides, ◌&&◌, arith}
use Rattle.std.specs.Prelude.{ℤ, int_le}
use Rattle.std.specs.List.{list_any}
use Rattle.std.specs.Ordering.{match_ordering, int_cmp}
use Rattle.std.specs.BTreeMap.{is_at}
use Rattle.std.specs.BTreeSet.{insert_key}
use Rattle.std.proofs.lemmas.Int.{ints}

twice : (a b : Bool) → (a || b) ≡ (a || (a || b))
twice true b = refl
twice false b = refl

turn : (a b c : Bool) → (a || (b || c)) ≡ (b || (a || c))
turn true true c = refl
turn true false c = refl
turn false true c = refl
turn false false c = refl

pub swap : (a b : Bool) → (a || b) ≡ (b || a)
swap true true = refl
swap true false = refl
swap false true = refl
swap false false = refl

-- what an insert says of what was there
pub was_there : (added there : Bool) → added ≡ not there → added ≡ false → there ≡ true
was_there added true e h = refl
was_there added false e h = absurd (cc)

pub was_new : (added there : Bool) → added ≡ not there → added ≡ true → there ≡ false
was_new added false e h = refl
was_new added true e h = absurd (cc)

pub either_way : {N : Type 0} (eq : N → N → Bool) → ((a b : N) → Decides (eq a b) (a ≡ b)) → (a b : N) → eq a b ≡ eq b a
either_way eq decides a b = at (eq a b) (eq b a) refl refl
  where
    at : (s t : Bool) → eq a b ≡ s → eq b a ≡ t → s ≡ t
    at true true p q = refl
    at false false p q = refl
    at true false p q = absurd (let yes = (decides b a).1 (sym ((decides a b).0 p)) in cc)
    at false true p q = absurd (let yes = (decides a b).1 (sym ((decides b a).0 q)) in cc)

-- a set of what has keys, and a test of keys that the order agrees with
module _ {K N : Type 0} (cmp : K → K → Ordering) (key : K → N) (eq : N → N → Bool)
    (tied : (x y : K) → is_eq (cmp x y) ≡ eq (key x) (key y)) (decides : (a b : N) → Decides (eq a b) (a ≡ b)) where
  -- whether one of the set's keys is this
  abbrev pub has : List K → N → Bool
  has ks q = list_any (λ k. eq q (key k)) ks

  pub contains_is : (k : K) (ks : List K) → list_any (is_at (cmp k)) ks ≡ has ks (key k)
  contains_is k [] = refl
  contains_is k (x ∷ ks) = rw (tied k x, contains_is k ks) refl

  same : (x y : K) → cmp x y ≡ Equal → key x ≡ key y
  same x y e = (decides (key x) (key y)).0 (sym (tied x y) ∙ ap is_eq e)

  pub has_inserted : (q : N) (k : K) (ks : List K) → has (insert_key cmp ks k) q ≡ (eq q (key k) || has ks q)
  has_inserted q k [] = refl
  has_inserted q k (x ∷ ks) = at (cmp k x) refl (has_inserted q k ks)
    where
      at : (o : Ordering) → cmp k x ≡ o → has (insert_key cmp ks k) q ≡ (eq q (key k) || has ks q)
          → has (match_ordering o (k ∷ x ∷ ks) (x ∷ ks) (x ∷ insert_key cmp ks k)) q ≡ (eq q (key k) || (eq q (key x) || has ks q))
      at Less e ih = refl
      at Equal e ih = ap (λ n. eq q n || has ks q) (sym (same k x e)) ∙ twice (eq q (key k)) (has ks q)
          ∙ ap (λ n. eq q (key k) || (eq q n || has ks q)) (same k x e)
      at Greater e ih = ap (λ b. eq q (key x) || b) ih ∙ turn (eq q (key x)) (eq q (key k)) (has ks q)

-- ---- numbers

abbrev pub equal : ℤ → ℤ → Bool
equal a b = int_le a b && int_le b a

pub tied : (x y : ℤ) → is_eq (int_cmp x y) ≡ equal x y
tied x y = grind (arith, ints)

pub decides : (a b : ℤ) → Decides (equal a b) (a ≡ b)
decides a b = (λ h. grind (arith, ints), λ e. grind (arith, ints))
