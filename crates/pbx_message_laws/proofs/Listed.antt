-- Fields by number and in declared order.
use Rattle.std.proofs.Common.{◌≡◌, ◌⊎◌, inl, inr, ℕ, zero, suc, nat_lt, Bool, true, false, if◌then◌else◌, List, [], ◌∷◌, map, refl, ap, subst, arith}
use Rattle.std.specs.Prelude.{Contains}
use Rattle.pbx_content.specs.declared.shape.Shape.{Shape}
use Rattle.pbx_content.specs.declared.shape.FieldShape.{FieldShape}
use Rattle.pbx_content.specs.Shape.{declared_of, inserted, by_number, fields_of}
use Rattle.std.specs.List.{IsDistinct}
use Rattle.pbx_content.specs.Sound.{AreProper}
use Rattle.pbx_content.proofs.OntoFields.{AreAbove, fields_ascend}
use Rattle.pbx_link_rules.proofs.Lists.{here, there}
use Rattle.pbx_link_meaning.proofs.PoolParts.{found_there}
use Rattle.pbx_message_laws.specs.Pools.{DeclaredIsListed, ListedIsDeclared, FoundIsListed}
use Rattle.pbx_message_laws.proofs.Members.{listed, found}

-- ---- items of lists

pub split : {X : Type 0} (x : X) (xs : List X) (y : X) → Contains (x ∷ xs) y → (x ≡ y) ⊎ Contains xs y
split x xs y (zero, lt, same) = inl same
split x xs y (suc i, lt, same) = inr (i, omega (arith, lt), same)

pub mapped : {X Y : Type 0} (h : X → Y) (xs : List X) (x : X) → Contains xs x → Contains (map h xs) (h x)
mapped h [] x c = absurd (omega (arith, c.1))
mapped {X} {Y} h (y ∷ ys) x c = at (split y ys x c) (mapped h ys x)
  where
    at : (y ≡ x) ⊎ Contains ys x → (Contains ys x → Contains (map h ys) (h x)) → Contains (map h (y ∷ ys)) (h x)
    at (inl e) ih = subst (λ (z : Y). Contains (map h (y ∷ ys)) z) (ap h e) (here (h y) (map h ys))
    at (inr d) ih = there (h y) (h x) (map h ys) (ih d)

-- ---- by ascending number

in-inserted : (f g : FieldShape) (gs : List FieldShape) → (f ≡ g) ⊎ Contains gs g → Contains (inserted f gs) g
in-inserted f g [] (inl e) = (0, omega arith, e)
in-inserted f g [] (inr c) = absurd (omega (arith, c.1))
in-inserted f g (h ∷ hs) o = at (nat_lt h.number f.number) o (in-inserted f g hs)
  where
    at : (b : Bool) → (f ≡ g) ⊎ Contains (h ∷ hs) g → ((f ≡ g) ⊎ Contains hs g → Contains (inserted f hs) g)
        → Contains (if b then h ∷ inserted f hs else f ∷ h ∷ hs) g
    at true (inl e) ih = there h g (inserted f hs) (ih (inl e))
    at true (inr c) ih = by (split h hs g c)
      where
        by : (h ≡ g) ⊎ Contains hs g → Contains (h ∷ inserted f hs) g
        by (inl e) = (0, omega arith, e)
        by (inr d) = there h g (inserted f hs) (ih (inr d))
    at false (inl e) ih = (0, omega arith, e)
    at false (inr c) ih = there f g (h ∷ hs) c

from-inserted : (f g : FieldShape) (gs : List FieldShape) → Contains (inserted f gs) g → (f ≡ g) ⊎ Contains gs g
from-inserted f g [] c = split f [] g c
from-inserted f g (h ∷ hs) c = at (nat_lt h.number f.number) c (from-inserted f g hs)
  where
    at : (b : Bool) → Contains (if b then h ∷ inserted f hs else f ∷ h ∷ hs) g → (Contains (inserted f hs) g → (f ≡ g) ⊎ Contains hs g)
        → (f ≡ g) ⊎ Contains (h ∷ hs) g
    at true c ih = by (split h (inserted f hs) g c)
      where
        more : (f ≡ g) ⊎ Contains hs g → (f ≡ g) ⊎ Contains (h ∷ hs) g
        more (inl e) = inl e
        more (inr d) = inr (there h g hs d)

        by : (h ≡ g) ⊎ Contains (inserted f hs) g → (f ≡ g) ⊎ Contains (h ∷ hs) g
        by (inl e) = inr (0, omega arith, e)
        by (inr d) = more (ih d)
    at false c ih = split f (h ∷ hs) g c

in-by_number : (fs : List FieldShape) (g : FieldShape) → Contains fs g → Contains (by_number fs) g
in-by_number [] g c = c
in-by_number (f ∷ fs) g c = in-inserted f g (by_number fs) (at (split f fs g c) (in-by_number fs g))
  where
    at : (f ≡ g) ⊎ Contains fs g → (Contains fs g → Contains (by_number fs) g) → (f ≡ g) ⊎ Contains (by_number fs) g
    at (inl e) ih = inl e
    at (inr d) ih = inr (ih d)

from-by_number : (fs : List FieldShape) (g : FieldShape) → Contains (by_number fs) g → Contains fs g
from-by_number [] g c = c
from-by_number (f ∷ fs) g c = at (from-inserted f g (by_number fs) c) (from-by_number fs g)
  where
    at : (f ≡ g) ⊎ Contains (by_number fs) g → (Contains (by_number fs) g → Contains fs g) → Contains (f ∷ fs) g
    at (inl e) ih = (0, omega arith, e)
    at (inr d) ih = there f g fs (ih d)

-- the shape with the one type alone
abbrev alone : Shape → ℕ → Shape
alone shape t = record { messages = record { full_name = []; fields = declared_of shape t; keeps_order = false; proto3 = false } ∷ []; enums = [] }

only_proper : (shape : Shape) (t : ℕ) → AreProper (declared_of shape t) → (s : ℕ) → AreProper (declared_of (alone shape t) s)
unfolding IsDistinct
only_proper shape t proper zero = proper
only_proper shape t proper (suc s) = record { numbered = refl; distinct = tt; keyed = refl }

-- the fields of a proper type ascend
pub type_ascends : (shape : Shape) (t : ℕ) → AreProper (declared_of shape t) → AreAbove 0 (fields_of shape t)
type_ascends shape t proper =
    fields_ascend (alone shape t) (record { types = only_proper shape t proper; enums = λ e. record { sfits = omega arith } }) 0

pub declared_is_listed : DeclaredIsListed
declared_is_listed shape t f proper c =
    listed 0 (fields_of shape t) f (type_ascends shape t proper) (in-by_number (declared_of shape t) f c)

pub listed_is_declared : ListedIsDeclared
listed_is_declared shape t n f e =
    let own = found n (fields_of shape t) f e in
    (from-by_number (declared_of shape t) f own.within, own.is)

pub found_is_listed : FoundIsListed
found_is_listed shape t test f proper e = declared_is_listed shape t f proper (found_there test (declared_of shape t) f e)
