-- Lines that are put to an object one after the other.
use Rattle.std.proofs.Common.{◌≡◌, ℕ, zero, suc, ◌+◌, ◌<◌, ◌≤◌, List, [], ◌∷◌, ◌++◌, map, length, take, drop, get_or, Bool, true, false, ◌||◌}
use Rattle.std.proofs.Common.{Option, Some, None, refl, sym, ap, ◌∙◌, arith}
use Rattle.std.specs.List.{list_any}
use Rattle.std.specs.Str.{bytes_eq}
use Rattle.serde_json.specs.Data.{Data, Members, no_members, put}
use Rattle.pbx_json_meaning.specs.Canonical.{Line, has_key, with_line, with_member, members_of_lines}
use Rattle.pbx_json_writing.specs.Lines.{with_lines, collected}
use Rattle.pbx_json_writing.proofs.OfMembers.{has_key-put, with_line_swap}

-- a list round one of its elements
pub split_at : {X : Type 0} (xs : List X) (i : ℕ) (x : X) → i < length xs → x ≡ get_or xs i x → xs ≡ take i xs ++ x ∷ drop (suc i) xs
split_at [] i x h is = absurd (omega arith)
split_at (y ∷ xs) zero x h is = ap (λ z. z ∷ xs) (sym is)
split_at (y ∷ xs) (suc i) x h is = ap (λ zs. y ∷ zs) (split_at xs i x (omega arith) is)

pub length-take : {X : Type 0} (xs : List X) (i : ℕ) → i ≤ length xs → length (take i xs) ≡ i
length-take xs zero h = refl
length-take [] (suc i) h = absurd (omega arith)
length-take (x ∷ xs) (suc i) h = ap suc (length-take xs i (omega arith))

take_next : {X : Type 0} (xs : List X) (i : ℕ) (x : X) → i < length xs → x ≡ get_or xs i x → take (suc i) xs ≡ take i xs ++ x ∷ []
take_next [] i x h is = absurd (omega arith)
take_next (y ∷ xs) zero x h is = ap (λ z. z ∷ []) (sym is)
take_next (y ∷ xs) (suc i) x h is = ap (λ zs. y ∷ zs) (take_next xs i x (omega arith) is)

pub take_more : {X : Type 0} (xs : List X) (i : ℕ) (x : X) → i < length xs → x ≡ get_or xs i x → take (i + 1) xs ≡ take i xs ++ x ∷ []
take_more xs i x h is = let next : i + 1 ≡ suc i = omega arith in ap (λ n. take n xs) next ∙ take_next xs i x h is

pub take_all : {X : Type 0} (xs : List X) (i : ℕ) → length xs ≤ i → take i xs ≡ xs
take_all [] zero h = refl
take_all [] (suc i) h = refl
take_all (x ∷ xs) zero h = absurd (omega arith)
take_all (x ∷ xs) (suc i) h = ap (λ zs. x ∷ zs) (take_all xs i (omega arith))

pub map-append : {X Y : Type 0} (f : X → Y) (xs ys : List X) → map f (xs ++ ys) ≡ map f xs ++ map f ys
map-append f [] ys = refl
map-append f (x ∷ xs) ys = ap (λ zs. f x ∷ zs) (map-append f xs ys)

-- ---- lines

no_line : (k : List ℕ) (x : Option Data) → with_line k x None ≡ None
no_line k None = refl
no_line k (Some d) = refl

pub with_lines_none : (ls : List Line) → with_lines ls None ≡ None
with_lines_none [] = refl
with_lines_none (l ∷ ls) = rw (no_line l.0 l.1) (with_lines_none ls)

pub with_lines-append : (ls ks : List Line) (r : Option Members) → with_lines (ls ++ ks) r ≡ with_lines ks (with_lines ls r)
with_lines-append [] ks r = refl
with_lines-append (l ∷ ls) ks r = with_lines-append ls ks (with_line l.0 l.1 r)

with_lines_through : (ls : List Line) (k : List ℕ) (x : Option Data) (r : Option Members) → with_lines ls (with_line k x r) ≡ with_line k x (with_lines ls r)
with_lines_through [] k x r = refl
with_lines_through (l ∷ ls) k x r = ap (with_lines ls) (with_line_swap l.0 k l.1 x r) ∙ with_lines_through ls k x (with_line l.0 l.1 r)

-- in whatever order lines are put, the members are the same
pub collected_is : (ls : List Line) → members_of_lines ls ≡ collected ls
collected_is [] = refl
collected_is (l ∷ ls) = ap (with_line l.0 l.1) (collected_is ls) ∙ sym (with_lines_through ls l.0 l.1 (Some no_members))

absent : (k : List ℕ) (x : Option Data) (r : Option Members) → x ≡ None → with_line k x r ≡ None
absent k x r h = rw h (at r)
  where
    at : (r : Option Members) → with_line k None r ≡ None
    at None = refl
    at (Some ms) = refl

-- a line without a tree
pub with_lines_absent : (ls : List Line) (l : Line) (ks : List Line) (r : Option Members) → l.1 ≡ None → with_lines (ls ++ l ∷ ks) r ≡ None
with_lines_absent ls l ks r h = with_lines-append ls (l ∷ ks) r ∙ ap (with_lines ks) (absent l.0 l.1 (with_lines ls r) h) ∙ with_lines_none ks

there : (k : List ℕ) (x : Option Data) (ms : Members) → has_key k ms ≡ true → with_line k x (Some ms) ≡ None
there k None ms h = refl
there k (Some d) ms h = rw h refl

-- a line whose key is there already
pub with_lines_twice : (ls : List Line) (l : Line) (ks : List Line) (r : Option Members) (ms : Members) → with_lines ls r ≡ Some ms → has_key l.0 ms ≡ true
    → with_lines (ls ++ l ∷ ks) r ≡ None
with_lines_twice ls l ks r ms so h =
    with_lines-append ls (l ∷ ks) r ∙ ap (λ s. with_lines ks (with_line l.0 l.1 s)) so ∙ ap (with_lines ks) (there l.0 l.1 ms h) ∙ with_lines_none ks

-- one line more
pub with_lines_more : (ls : List Line) (l : Line) (r : Option Members) (d : Data) (ms ns : Members) → with_lines ls r ≡ Some ms → l.1 ≡ Some d
    → with_member l.0 d ms ≡ Some ns → with_lines (ls ++ l ∷ []) r ≡ Some ns
with_lines_more ls l r d ms ns so is more =
    with_lines-append ls (l ∷ []) r ∙ ap (λ s. with_line l.0 l.1 s) so ∙ ap (λ x. with_line l.0 x (Some ms)) is ∙ more

-- ---- the keys of lines

or_assoc : (a b c : Bool) → (a || (b || c)) ≡ ((a || b) || c)
or_assoc true b c = refl
or_assoc false b c = refl

or_turn : (a b c : Bool) → (a || (b || c)) ≡ ((b || a) || c)
or_turn true true c = refl
or_turn true false c = refl
or_turn false true c = refl
or_turn false false c = refl

-- the keys of members are those of their lines
pub keys_of_lines : (s : List ℕ) (ls : List Line) (ns ms : Members) → with_lines ls (Some ns) ≡ Some ms
    → has_key s ms ≡ (list_any (λ l. bytes_eq l.0 s) ls || has_key s ns)
keys_of_lines s [] ns ms so = let same : ns ≡ ms = cc in ap (has_key s) (sym same)
keys_of_lines s (l ∷ ls) ns ms so = at l.1 (has_key l.0 ns) refl so (λ d. keys_of_lines s ls (put l.0 d ns) ms)
  where
    at : (x : Option Data) (b : Bool) → has_key l.0 ns ≡ b → with_lines ls (with_line l.0 x (Some ns)) ≡ Some ms
        → ((d : Data) → with_lines ls (Some (put l.0 d ns)) ≡ Some ms → has_key s ms ≡ (list_any (λ l. bytes_eq l.0 s) ls || has_key s (put l.0 d ns)))
        → has_key s ms ≡ ((bytes_eq l.0 s || list_any (λ l. bytes_eq l.0 s) ls) || has_key s ns)
    at None b p h ih = let none : None ≡ Some ms = sym (with_lines_none ls) ∙ h in absurd (cc)
    at (Some d) true p h ih =
        let none : None ≡ Some ms = sym (with_lines_none ls) ∙ ap (with_lines ls) (sym (there l.0 (Some d) ns p)) ∙ h in
        absurd (cc)
    at (Some d) false p h ih =
        ih d (rw p at h)
        ∙ rw (has_key-put s l.0 d ns) (or_turn (list_any (λ l. bytes_eq l.0 s) ls) (bytes_eq l.0 s) (has_key s ns))
