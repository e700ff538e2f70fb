-- Fields that are put under their names, one after another.
use Rattle.std.proofs.Common.{◌≡◌, ◌∙◌, ℕ, ◌+◌, ◌<◌, Bool, true, false, cond, if◌then◌else◌, List, [], ◌∷◌, ◌++◌, length, take, get_or, refl, ap, sym, subst}
use Rattle.std.specs.Prelude.{Option, Some, None, find, slice_get, is_some}
use Rattle.std.specs.Option.{option_or}
use Rattle.std.specs.Str.{bytes_eq}
use Rattle.std.specs.Cmp.Lexicographic.{bytes_decides}
use Rattle.std.specs.BTreeMap.{BTreeMap, is_at, get}
use Rattle.std.specs.Map.{lookup}
use Rattle.std.specs.Ordering.{nat_cmp, is_eq}
use Rattle.std.specs.FinMap.{nat_cmp-IsAntisymmetric}
use Rattle.std.specs.declared.cmp.Ordering.{Ordering}
use Rattle.std.specs.declared.cmp.Ordering.TheVariants.{Less, Equal, Greater}
use Rattle.std.proofs.lemmas.List.{take_more}
use Rattle.std.proofs.lemmas.Option.{slice_get_read}

pub or_twice : {V : Type 0} (x y z : Option V) → option_or (option_or x y) z ≡ option_or x (option_or y z)
or_twice None y z = refl
or_twice (Some v) y z = refl

or_none : {V : Type 0} (x : Option V) → x ≡ option_or x None
or_none None = refl
or_none (Some v) = refl

-- what is found where one element more stands behind
pub find_push : {X : Type 0} (p : X → Bool) (xs : List X) (x : X) → find p (xs ++ x ∷ []) ≡ option_or (find p xs) (cond (p x) (Some x) None)
find_push p [] x = at (p x)
  where
    at : (b : Bool) → (if b then Some x else None) ≡ cond b (Some x) None
    at true = refl
    at false = refl
find_push p (y ∷ ys) x = at (p y) (find_push p ys x)
  where
    at : (b : Bool) → find p (ys ++ x ∷ []) ≡ option_or (find p ys) (cond (p x) (Some x) None)
        → (if b then Some y else find p (ys ++ x ∷ [])) ≡ option_or (if b then Some y else find p ys) (cond (p x) (Some x) None)
    at true h = refl
    at false h = h

-- what is found among one element more
pub found_more : {X : Type 0} (p : X → Bool) (xs : List X) (i : ℕ) (x : X) (before now after last : Option X) → i < length xs → x ≡ get_or xs i x
    → now ≡ option_or before (find p (take i xs)) → after ≡ option_or now last → last ≡ cond (p x) (Some x) None
    → after ≡ option_or before (find p (take (i + 1) xs))
found_more {X} p xs i x before now after last lt is so_far here value =
    let all : find p (take (i + 1) xs) ≡ option_or (find p (take i xs)) (cond (p x) (Some x) None) =
    ap (find p) (take_more xs i x lt ∙ ap (λ (y : X). take i xs ++ y ∷ []) (sym is)) ∙ find_push p (take i xs) x in
    here ∙ ap (λ (o : Option X). option_or o last) so_far ∙ ap (option_or (option_or before (find p (take i xs)))) value
    ∙ or_twice before (find p (take i xs)) (cond (p x) (Some x) None) ∙ ap (option_or before) (sym all)

-- nothing is added for a field without such a name
pub none_more : {X : Type 0} (p : X → Bool) (xs : List X) (i : ℕ) (x : X) (before now : Option X) → i < length xs → x ≡ get_or xs i x
    → now ≡ option_or before (find p (take i xs)) → false ≡ p x → now ≡ option_or before (find p (take (i + 1) xs))
none_more {X} p xs i x before now lt is so_far value =
    found_more p xs i x before now now None lt is so_far (or_none now) (ap (λ (b : Bool). cond b (Some x) None) value)

kept_some : {V : Type 0} (x y : Option V) → is_some x ≡ true → x ≡ option_or x y
kept_some None y h = absurd (cc)
kept_some (Some v) y h = refl

put_none : {V : Type 0} (x y : Option V) → is_some x ≡ false → y ≡ option_or x y
put_none None y h = refl
put_none (Some v) y h = absurd (cc)

-- what stands under a name stays
pub kept : {V : Type 0} (f : List ℕ → Option V) (n q : List ℕ) (o : Option V) → is_some (f n) ≡ true → f q ≡ option_or (f q) (cond (bytes_eq n q) o None)
kept {V} f n q o h = at (bytes_eq n q) refl
  where
    at : (b : Bool) → bytes_eq n q ≡ b → f q ≡ option_or (f q) (cond b o None)
    at true e = subst (λ (x : List ℕ). f x ≡ option_or (f x) o) ((bytes_decides n q).0 e) (kept_some (f n) o h)
    at false e = or_none (f q)

-- a value is put under a name where none was
pub put_new : {V : Type 0} (f g : List ℕ → Option V) (n q : List ℕ) (o : Option V) → is_some (f n) ≡ false → g q ≡ cond (bytes_eq n q) o (f q)
    → g q ≡ option_or (f q) (cond (bytes_eq n q) o None)
put_new {V} f g n q o h new = new ∙ at (bytes_eq n q) refl
  where
    at : (b : Bool) → bytes_eq n q ≡ b → cond b o (f q) ≡ option_or (f q) (cond b o None)
    at true e = subst (λ (x : List ℕ). o ≡ option_or (f x) o) ((bytes_decides n q).0 e) (put_none (f n) o h)
    at false e = or_none (f q)

-- the element at an index
pub got : {X : Type 0} (xs : List X) (i : ℕ) (x : X) → i < length xs → x ≡ get_or xs i x → slice_get xs i ≡ Some x
got xs i x lt is = slice_get_read xs (length xs) i x refl lt is

-- places that compare as equal are equal
pub same_place : (a b : ℕ) → is_at (nat_cmp a) b ≡ true → a ≡ b
same_place a b h = at (nat_cmp a b) refl h
  where
    at : (o : Ordering) → nat_cmp a b ≡ o → is_eq o ≡ true → a ≡ b
    at Equal e k = nat_cmp-IsAntisymmetric a b e
    at Less e k = absurd (cc)
    at Greater e k = absurd (cc)

-- what is kept at a place holds there, where one is put in that holds at its own
pub kept_at : {N : Type 0} (P : ℕ → N → Type 0) (a t : ℕ) (new it : N) (old : Option N) → P a new → (old ≡ Some it → P t it) → cond (is_at (nat_cmp a) t) (Some new) old ≡ Some it → P t it
kept_at {N} P a t new it old here there got = at (is_at (nat_cmp a) t) refl got
  where
    at : (b : Bool) → is_at (nat_cmp a) t ≡ b → cond b (Some new) old ≡ Some it → P t it
    at true e k = let same : new ≡ it = cc in subst (P t) same (subst (λ (s : ℕ). P s new) (same_place a t e) here)
    at false e k = there k

-- what a map holds depends on its entries alone
pub kept_by_entries : {N : Type 0} (m n : BTreeMap ℕ N) (t : ℕ) (it : N) → m.entries ≡ n.entries → get nat_cmp m t ≡ Some it → get nat_cmp n t ≡ Some it
kept_by_entries m n t it same had = ap (lookup (is_at (nat_cmp t))) (sym same) ∙ had
