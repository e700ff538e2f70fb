-- What a test of two parts and a step of two steps say of the parts.
use Rattle.std.proofs.Common.{◌≡◌, List, [], ◌∷◌, Bool, true, false, ◌&&◌, ◌||◌, if◌then◌else◌, Option, Some, None, option_map, option_and_then, find, refl}
use Rattle.std.specs.Prelude.{not, Result, Ok, Err}
use Rattle.std.specs.List.{list_all}
use Rattle.pbx_json_meaning.specs.Stands.{ok_of}
use Rattle.pbx_json_meaning.specs.Scalars.{if_ok}
use Rattle.pbx_json_meaning.specs.declared.kind.JsonKind.{JsonKind}
use Rattle.pbx_json_meaning.specs.Faults.{SomeWith}

pub both : (a b : Bool) → (a && b) ≡ true → (a ≡ true) × (b ≡ true)
both true b h = (refl, h)
both false b h = absurd (cc)

pub and_of : (a b : Bool) → a ≡ true → b ≡ true → (a && b) ≡ true
and_of a b p q = rw (p, q) refl

pub neither : (a b : Bool) → (a || b) ≡ false → (a ≡ false) × (b ≡ false)
neither true b h = absurd (cc)
neither false b h = (refl, h)

pub nor_of : (a b : Bool) → a ≡ false → b ≡ false → (a || b) ≡ false
nor_of a b p q = rw (p, q) refl

pub from_not : (b : Bool) → not b ≡ true → b ≡ false
from_not true h = absurd (cc)
from_not false h = refl

-- what is there where a test passes
pub if_some : {X : Type 0} (b : Bool) (o : Option X) (x : X) → (if b then o else None) ≡ Some x → (b ≡ true) × (o ≡ Some x)
if_some true o x h = (refl, h)
if_some false o x h = absurd (cc)

-- what is there where a test fails
pub unless_some : {X : Type 0} (b : Bool) (o : Option X) (x : X) → (if b then None else o) ≡ Some x → (b ≡ false) × (o ≡ Some x)
unless_some true o x h = absurd (cc)
unless_some false o x h = (refl, h)

pub of_some : {X : Type 0} (x y : X) → Some x ≡ Some y → x ≡ y
of_some x y h = cc

-- a step that gave something came from something
pub from_then : {A B : Type 0} (f : A → Option B) (o : Option A) (b : B) → option_and_then f o ≡ Some b → (a : A) × (o ≡ Some a) × (f a ≡ Some b)
from_then f None b h = absurd (cc)
from_then f (Some a) b h = (a, refl, h)

pub from_map : {A B : Type 0} (f : A → B) (o : Option A) (b : B) → option_map f o ≡ Some b → (a : A) × (o ≡ Some a) × (f a ≡ b)
from_map f None b h = absurd (cc)
from_map f (Some a) b h = (a, refl, of_some (f a) b h)

pub from_ok_of : {X E : Type 0} (r : Result X E) (x : X) → ok_of r ≡ Some x → r ≡ Ok x
from_ok_of (Err e) x h = absurd (cc)
from_ok_of (Ok y) x h = cc

pub from_if_ok : {X Y : Type 0} (r : Result X JsonKind) (f : X → Result Y JsonKind) (y : Y) → if_ok r f ≡ Ok y → (x : X) × (r ≡ Ok x) × (f x ≡ Ok y)
from_if_ok (Err k) f y h = absurd (cc)
from_if_ok (Ok x) f y h = (x, refl, h)

pub one_ok : {X : Type 0} (r : Result X JsonKind) (x y : X) → r ≡ Ok x → r ≡ Ok y → x ≡ y
one_ok r x y p q = cc

pub or_right : (b c : Bool) → c ≡ true → (b || c) ≡ true
or_right true c e = refl
or_right false c e = e

-- what holds of a value that may be there
pub some_with : {X : Type 0} (P Q : X → Type 0) (o : Option X) → ((x : X) → P x → Q x) → SomeWith o P → SomeWith o Q
some_with P Q None f h = h
some_with P Q (Some x) f h = f x h

-- ---- lists

-- what is found passes the test, and every test that all pass
pub found_passes : {X : Type 0} (p : X → Bool) (xs : List X) (x : X) → find p xs ≡ Some x → p x ≡ true
found_passes p [] x h = absurd (cc)
found_passes p (y ∷ ys) x h = at (p y) refl h (found_passes p ys x)
  where
    at : (b : Bool) → p y ≡ b → (if b then Some y else find p ys) ≡ Some x → (find p ys ≡ Some x → p x ≡ true) → p x ≡ true
    at true e k ih = let same : y ≡ x = of_some y x k in rw (← same) e
    at false e k ih = ih k

pub found_with : {X : Type 0} (p q : X → Bool) (xs : List X) (x : X) → list_all q xs ≡ true → find p xs ≡ Some x → q x ≡ true
found_with p q [] x a h = absurd (cc)
found_with p q (y ∷ ys) x a h = at (p y) h (found_with p q ys x parts.1)
  where
    parts : (q y ≡ true) × (list_all q ys ≡ true)
    parts = both (q y) (list_all q ys) a

    at : (b : Bool) → (if b then Some y else find p ys) ≡ Some x → (find p ys ≡ Some x → q x ≡ true) → q x ≡ true
    at true k ih = let same : y ≡ x = of_some y x k in rw (← same) parts.0
    at false k ih = ih k
