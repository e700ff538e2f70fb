-- Tests of all fields of a type, and sets of numbers.
use Rattle.std.proofs.Common.{◌≡◌, ◌⊎◌, ◌∙◌, ℕ, ◌&&◌, ◌||◌, List, [], ◌∷◌, Bool, true, false, ◌==◌, if◌then◌else◌, Option, Some, None, find, map, refl, ap, sym, inl, inr, arith}
use Rattle.std.specs.List.{list_all, IsDistinct, AllByRecursion}
use Rattle.std.specs.Option.{option_or}
use Rattle.std.specs.BTreeMap.{is_at}
use Rattle.std.specs.BTreeSet.{contains, insert_key}
use Rattle.std.specs.Ordering.{nat_cmp, match_ordering, is_eq}
use Rattle.std.specs.FinMap.{nat_cmp-IsAntisymmetric}
use Rattle.std.specs.declared.cmp.Ordering.{Ordering}
use Rattle.std.specs.declared.cmp.Ordering.TheVariants.{Less, Equal, Greater}
use Rattle.std.proofs.lemmas.Bool.Decides.{nat_tests}
use Rattle.std.proofs.lemmas.Map.Keys.{IsDistinct-head, IsDistinct-tail}
use Rattle.pbx_content.specs.declared.shape.FieldShape.{FieldShape}
use Rattle.pbx_json_meaning.specs.Names.{field_named, json_name_is, name_is, extension_is}

-- the field is one of these
abbrev pub Among : FieldShape → List FieldShape → Type 0
Among f [] = ⊥
Among f (g ∷ gs) = (f ≡ g) ⊎ Among f gs

pub all_true : (p : FieldShape → Bool) (fs : List FieldShape) → ((f : FieldShape) → Among f fs → p f ≡ true) → list_all p fs ≡ true
all_true p [] h = refl
all_true p (f ∷ fs) h = rw (h f (inl refl), all_true p fs (λ g i. h g (inr i))) refl

both : (a b : Bool) → (a && b) ≡ true → (a ≡ true) × (b ≡ true)
both true b h = (refl, h)
both false b h = absurd (cc)

pub all_at : (p : FieldShape → Bool) (fs : List FieldShape) (f : FieldShape) → Among f fs → list_all p fs ≡ true → p f ≡ true
all_at p [] f i h = absurd i
all_at p (g ∷ fs) f (inl same) h = ap p same ∙ (both (p g) (list_all p fs) h).0
all_at p (g ∷ fs) f (inr i) h = all_at p fs f i (both (p g) (list_all p fs) h).1

pub all_false : (p : FieldShape → Bool) (fs : List FieldShape) (f : FieldShape) → Among f fs → p f ≡ false → list_all p fs ≡ false
all_false p fs f i e = at (list_all p fs) refl
  where
    at : (b : Bool) → list_all p fs ≡ b → b ≡ false
    at false h = refl
    at true h = let yes = all_at p fs f i h in absurd (cc (sym yes ∙ e))

find_among : (p : FieldShape → Bool) (fs : List FieldShape) (g : FieldShape) → find p fs ≡ Some g → Among g fs
find_among p [] g h = absurd (cc)
find_among p (x ∷ fs) g h = at (p x) h (find_among p fs g)
  where
    at : (b : Bool) → (if b then Some x else find p fs) ≡ Some g → (find p fs ≡ Some g → Among g fs) → Among g (x ∷ fs)
    at true e later = let same : x ≡ g = cc in inl (sym same)
    at false e later = inr (later e)

-- a field that a key names is one of the type
pub named_among : (key : List ℕ) (m : List FieldShape) (g : FieldShape) → field_named key m ≡ Some g → Among g m
named_among key m g h = at (find (json_name_is key) m) (find (name_is key) m) refl refl h
  where
    at : (o q : Option FieldShape) → find (json_name_is key) m ≡ o → find (name_is key) m ≡ q → option_or o (option_or q (find (extension_is key) m)) ≡ Some g
        → Among g m
    at None None e r k = find_among (extension_is key) m g k
    at None (Some f) e r k = find_among (name_is key) m g (r ∙ k)
    at (Some f) q e r k = find_among (json_name_is key) m g (e ∙ k)

-- fields by distinct numbers
abbrev pub AreDistinct : List FieldShape → Type 0
AreDistinct fs = IsDistinct (λ m n. m == n) (map (λ f. f.number) fs)

apart : (n : ℕ) (fs : List FieldShape) (f : FieldShape) → AllByRecursion (λ k. (n == k) ≡ false) (map (λ f. f.number) fs) → Among f fs → (n == f.number) ≡ false
apart n [] f h i = absurd i
apart n (g ∷ fs) f h (inl same) = ap (λ (x : FieldShape). n == x.number) same ∙ h.0
apart n (g ∷ fs) f h (inr i) = apart n fs f h.1 i

turned : (m n : ℕ) → (m == n) ≡ (n == m)
turned m n = grind (arith, nat_tests)

pub same_field : (fs : List FieldShape) (f g : FieldShape) → AreDistinct fs → Among f fs → Among g fs → (f.number == g.number) ≡ true → f ≡ g
same_field [] f g d i j e = absurd i
same_field (x ∷ fs) f g d (inl a) (inl b) e = a ∙ sym b
same_field (x ∷ fs) f g d (inl a) (inr j) e =
    let no : (x.number == g.number) ≡ false = apart x.number fs g (IsDistinct-head (λ m n. m == n) x.number (map (λ f. f.number) fs) d) j in
    let yes : (x.number == g.number) ≡ true = ap (λ (y : FieldShape). y.number == g.number) (sym a) ∙ e in absurd (cc)
same_field (x ∷ fs) f g d (inr i) (inl b) e =
    let no : (x.number == f.number) ≡ false = apart x.number fs f (IsDistinct-head (λ m n. m == n) x.number (map (λ f. f.number) fs) d) i in
    let yes : (x.number == f.number) ≡ true = turned x.number f.number ∙ ap (λ (y : FieldShape). f.number == y.number) (sym b) ∙ e in absurd (cc)
same_field (x ∷ fs) f g d (inr i) (inr j) e = same_field fs f g (IsDistinct-tail (λ m n. m == n) x.number (map (λ f. f.number) fs) d) i j e

-- ---- sets of numbers

here_is : (n : ℕ) → nat_cmp n n ≡ Equal
here_is n = grind (arith, nat_tests)

pub at_is : (n k : ℕ) → is_at (nat_cmp n) k ≡ (k == n)
at_is n k = at (k == n) refl
  where
    at : (b : Bool) → (k == n) ≡ b → is_eq (nat_cmp n k) ≡ b
    at true e = let same : k ≡ n = grind (arith, nat_tests) in rw (same, here_is n) refl
    at false e = go (nat_cmp n k) refl
      where
        go : (o : Ordering) → nat_cmp n k ≡ o → is_eq o ≡ false
        go Less h = refl
        go Greater h = refl
        go Equal h = let same : n ≡ k = nat_cmp-IsAntisymmetric n k h in let yes : (k == n) ≡ true = grind (arith, nat_tests) in absurd (cc)

swap : (a b c : Bool) → (a || (b || c)) ≡ (b || (a || c))
swap true true c = refl
swap true false c = refl
swap false b c = refl

twice : (a c : Bool) → (a || c) ≡ (a || (a || c))
twice true c = refl
twice false c = refl

-- the number is in the set where it was put in, or was there
pub put_in : (ks : List ℕ) (k n : ℕ) → contains nat_cmp (record { keys = insert_key nat_cmp ks k }) n ≡ ((k == n) || contains nat_cmp (record { keys = ks }) n)
put_in [] k n = ap (λ b. b || false) (at_is n k)
put_in (x ∷ xs) k n = at (nat_cmp k x) refl (put_in xs k n)
  where
    at : (o : Ordering) → nat_cmp k x ≡ o
        → contains nat_cmp (record { keys = insert_key nat_cmp xs k }) n ≡ ((k == n) || contains nat_cmp (record { keys = xs }) n)
        → contains nat_cmp (record { keys = match_ordering o (k ∷ x ∷ xs) (x ∷ xs) (x ∷ insert_key nat_cmp xs k) }) n
        ≡ ((k == n) || contains nat_cmp (record { keys = x ∷ xs }) n)
    at Less e ih = ap (λ b. b || contains nat_cmp (record { keys = x ∷ xs }) n) (at_is n k)
    at Equal e ih =
        let same : k ≡ x = nat_cmp-IsAntisymmetric k x e in
        let own : is_at (nat_cmp n) x ≡ (k == n) = at_is n x ∙ ap (λ (y : ℕ). y == n) (sym same) in
        rw own (twice (k == n) (contains nat_cmp (record { keys = xs }) n))
    at Greater e ih = ap (λ b. is_at (nat_cmp n) x || b) ih ∙ swap (is_at (nat_cmp n) x) (k == n) (contains nat_cmp (record { keys = xs }) n)
