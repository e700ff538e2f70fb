-- When keys are equal, and what the latest file of a key is.
use Rattle.std.proofs.Common.{◌≡◌, ℕ, List, [], ◌∷◌, Bool, true, false, Option, reverse, ◌&&◌, refl, sym, ap, ◌∙◌}
use Rattle.std.specs.Bool.{Decides}
use Rattle.std.specs.Cmp.Lexicographic.{pointwise_decides, bytes_decides}
use Rattle.std.proofs.lemmas.Bool.Decides.{same_from_decides, Decides-like}
use Rattle.std.proofs.lemmas.List.{reverse-reverse}
use Rattle.protox_io.specs.Backwards.{key_left}
use Rattle.protox_io.specs.Paths.{Component, Root, Current, Parent, Named, component_eq, key_eq, disk_key}
use Rattle.protox_io.specs.Memory.{told_by, content}

pub component_decides : (a b : Component) → Decides (component_eq a b) (a ≡ b)
component_decides Root Root = (λ _. refl, λ _. refl)
component_decides Root Current = (λ e. (cc), λ e. (cc))
component_decides Root Parent = (λ e. (cc), λ e. (cc))
component_decides Root (Named b) = (λ e. (cc), λ e. (cc))
component_decides Current Root = (λ e. (cc), λ e. (cc))
component_decides Current Current = (λ _. refl, λ _. refl)
component_decides Current Parent = (λ e. (cc), λ e. (cc))
component_decides Current (Named b) = (λ e. (cc), λ e. (cc))
component_decides Parent Root = (λ e. (cc), λ e. (cc))
component_decides Parent Current = (λ e. (cc), λ e. (cc))
component_decides Parent Parent = (λ _. refl, λ _. refl)
component_decides Parent (Named b) = (λ e. (cc), λ e. (cc))
component_decides (Named a) Root = (λ e. (cc), λ e. (cc))
component_decides (Named a) Current = (λ e. (cc), λ e. (cc))
component_decides (Named a) Parent = (λ e. (cc), λ e. (cc))
component_decides (Named a) (Named b) =
    (λ e. ap Named ((bytes_decides a b).0 e), λ e. let same : a ≡ b = cc in (bytes_decides a b).1 same)

pub key_decides : (a b : List Component) → Decides (key_eq a b) (a ≡ b)
key_decides = pointwise_decides component_decides

-- the file of the path that was put last
pub told_put : (path : List ℕ) (file : Option (List ℕ)) (files : List (List ℕ × Option (List ℕ))) → told_by ((path, file) ∷ files) (disk_key path) ≡ content file
told_put path file files =
    let same : key_eq (disk_key path) (disk_key path) ≡ true = (key_decides (disk_key path) (disk_key path)).1 refl in
    rw same refl

apart : (b : Bool) → ¬ (b ≡ true) → b ≡ false
apart true n = absurd (n refl)
apart false n = refl

pub not_equal : (a b : List Component) → ¬ (b ≡ a) → key_eq a b ≡ false
not_equal a b n = apart (key_eq a b) (λ e. n (sym ((key_decides a b).0 e)))

pub told_other : (path : List ℕ) (file : Option (List ℕ)) (files : List (List ℕ × Option (List ℕ))) (key : List Component) → ¬ (key ≡ disk_key path) → told_by ((path, file) ∷ files) key ≡ told_by files key
told_other path file files key n = rw (not_equal (disk_key path) key n) refl

pub key_eq_reverse : (a b : List Component) → key_eq (reverse a) (reverse b) ≡ key_eq a b
key_eq_reverse a b =
    let back : reverse a ≡ reverse b → a ≡ b = λ e. sym (reverse-reverse a) ∙ ap reverse e ∙ reverse-reverse b in
    same_from_decides {P = a ≡ b} (key_eq (reverse a) (reverse b)) (key_eq a b) (Decides-like (key_eq (reverse a) (reverse b)) back (λ e. ap reverse e) (key_decides (reverse a) (reverse b))) (key_decides a b)

-- what walks over both paths from their ends find out of their keys
pub found_out : (a b : List ℕ) (answer : Bool) → key_eq (key_left 0 a) (key_left 0 b) ≡ answer → answer ≡ key_eq (disk_key a) (disk_key b)
found_out a b answer e = sym e ∙ sym (key_eq_reverse (key_left 0 a) (key_left 0 b))

pub both_end : (l r : List Component) → l ≡ [] → r ≡ [] → key_eq l r ≡ true
both_end l r p q = λ i. key_eq (p i) (q i)

pub left_ends : (l r rest : List Component) (c : Component) → l ≡ [] → r ≡ c ∷ rest → key_eq l r ≡ false
left_ends l r rest c p q = λ i. key_eq (p i) (q i)

pub right_ends : (l r rest : List Component) (c : Component) → l ≡ c ∷ rest → r ≡ [] → key_eq l r ≡ false
right_ends l r rest c p q = λ i. key_eq (p i) (q i)

pub parts_differ : (l r l' r' : List Component) (c d : Component) → l ≡ c ∷ l' → r ≡ d ∷ r' → component_eq c d ≡ false → key_eq l r ≡ false
parts_differ l r l' r' c d p q apart =
    let both : key_eq l r ≡ (component_eq c d && key_eq l' r') = λ i. key_eq (p i) (q i) in
    both ∙ ap (λ v. v && key_eq l' r') apart
