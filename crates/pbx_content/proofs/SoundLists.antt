-- What holds of each element of a list.
use Rattle.std.proofs.Common.{◌≡◌, Bool, true, false, if◌then◌else◌, List, [], ◌∷◌, ◌++◌, map, Option, Some, None, option_map, refl, subst}
use Rattle.std.specs.Prelude.{option_and_then}
use Rattle.std.specs.List.{AllByRecursion, filter}
use Rattle.pbx_content.specs.Records.{each, flat, last_of}

pub all-append : {X : Type 0} (P : X → Type 0) (xs ys : List X) → AllByRecursion P xs → AllByRecursion P ys → AllByRecursion P (xs ++ ys)
all-append P [] ys p q = q
all-append P (x ∷ xs) ys p q = (p.0, all-append P xs ys p.1 q)

pub all-flat : {X : Type 0} (P : X → Type 0) (xss : List (List X)) → AllByRecursion (AllByRecursion P) xss → AllByRecursion P (flat xss)
all-flat P [] p = tt
all-flat P (xs ∷ xss) p = all-append P xs (flat xss) p.0 (all-flat P xss p.1)

pub all-map : {X Y : Type 0} (P : Y → Type 0) (Q : X → Type 0) (f : X → Y) → ((x : X) → Q x → P (f x)) → (xs : List X) → AllByRecursion Q xs
    → AllByRecursion P (map f xs)
all-map P Q f g [] h = tt
all-map P Q f g (x ∷ xs) h = (g x h.0, all-map P Q f g xs h.1)

pub all-last : {X : Type 0} (P : X → Type 0) (xs : List X) (y : X) → AllByRecursion P xs → last_of xs ≡ Some y → P y
all-last P [] y h e = absurd cc
all-last P (x ∷ []) y h e = let is : x ≡ y = cc in subst P is h.0
all-last P (x ∷ z ∷ xs) y h e = all-last P (z ∷ xs) y h.1 e

-- what each record gives has what one gives has
pub all-each : {X Y : Type 0} (Q : X → Type 0) (P : Y → Type 0) (f : X → Option Y) → ((x : X) (y : Y) → Q x → f x ≡ Some y → P y)
    → (xs : List X) (ys : List Y) → AllByRecursion Q xs → each f xs ≡ Some ys → AllByRecursion P ys
all-each {Y = Y} Q P f g [] ys h e =
    let nothing : List Y = [] in
    let is : nothing ≡ ys = cc in
    subst (AllByRecursion P) is tt
all-each {Y = Y} Q P f g (x ∷ xs) ys h e = at (f x) (each f xs) refl refl e (λ zs. all-each Q P f g xs zs h.1)
  where
    at : (a : Option Y) (b : Option (List Y)) → f x ≡ a → each f xs ≡ b → option_and_then (λ y. option_map (λ zs. y ∷ zs) b) a ≡ Some ys
        → ((zs : List Y) → each f xs ≡ Some zs → AllByRecursion P zs) → AllByRecursion P ys
    at None b p q e ih = absurd cc
    at (Some y) None p q e ih = absurd cc
    at (Some y) (Some zs) p q e ih =
        let is : (y ∷ zs) ≡ ys = cc in
        subst (AllByRecursion P) is (g x y h.0 p, ih zs q)

-- the same where what one gives has it, whatever it comes from
pub each-all : {X Y : Type 0} (P : Y → Type 0) (f : X → Option Y) → ((x : X) (y : Y) → f x ≡ Some y → P y)
    → (xs : List X) (ys : List Y) → each f xs ≡ Some ys → AllByRecursion P ys
each-all {X = X} P f g xs ys e = all-each (λ x. Unit {0}) P f (λ x y h d. g x y d) xs ys (any_all xs) e
  where
    any_all : (xs : List X) → AllByRecursion (λ x. Unit {0}) xs
    any_all [] = tt
    any_all (x ∷ xs) = (tt, any_all xs)

pub all-filter : {X : Type 0} (P : X → Type 0) (p : X → Bool) (xs : List X) → AllByRecursion P xs → AllByRecursion P (filter p xs)
all-filter P p [] h = tt
all-filter P p (x ∷ xs) h = at (p x) (all-filter P p xs h.1)
  where
    at : (b : Bool) → AllByRecursion P (filter p xs) → AllByRecursion P (if b then x ∷ filter p xs else filter p xs)
    at true ih = (h.0, ih)
    at false ih = ih

pub all-right : {X : Type 0} (P : X → Type 0) (xs ys : List X) → AllByRecursion P (xs ++ ys) → AllByRecursion P ys
all-right P [] ys h = h
all-right P (x ∷ xs) ys h = all-right P xs ys h.1

pub all-weaken : {X : Type 0} (P Q : X → Type 0) → ((x : X) → P x → Q x) → (xs : List X) → AllByRecursion P xs → AllByRecursion Q xs
all-weaken P Q f [] h = tt
all-weaken P Q f (x ∷ xs) h = (f x h.0, all-weaken P Q f xs h.1)

pub all-both : {X : Type 0} (P Q : X → Type 0) (xs : List X) → AllByRecursion P xs → AllByRecursion Q xs → AllByRecursion (λ x. P x × Q x) xs
all-both P Q [] h k = tt
all-both P Q (x ∷ xs) h k = ((h.0, k.0), all-both P Q xs h.1 k.1)
