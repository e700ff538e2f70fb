-- Sets and maps whose keys are looked up as texts.
use Rattle.std.proofs.Common.{◌≡◌, ◌∙◌, ℕ, zero, suc, ◌+◌, ◌<◌, ◌≤◌, List, [], ◌∷◌, ◌++◌, length, take, get_or, Bool, true, false, ◌||◌, if◌then◌else◌, Option, Some, None, refl, ap, sym, arith}
use Rattle.std.specs.Prelude.{◌==◌, slice_get, find, option_map}
use Rattle.std.specs.List.{list_any, flat_map}
use Rattle.std.specs.Option.{option_or}
use Rattle.std.specs.Ordering.{nat_cmp, is_eq}
use Rattle.std.proofs.lemmas.Bool.Decides.{nat_tests}
use Rattle.std.specs.Prelude.{String}
use Rattle.std.specs.String.{string_bytes, string_cmp}
use Rattle.std.specs.Str.{bytes_eq}
use Rattle.std.specs.BTreeSet.{BTreeSet, Updates}
use Rattle.std.proofs.lemmas.List.{take_more, length-take-le, append-nil, append_assoc}
use Rattle.std.proofs.lemmas.Grind.{flat_map-append}
use Rattle.std.proofs.lemmas.List.Folds.{list_any_more, list_any-append}
use Rattle.std.proofs.lemmas.Map.Text.{btree_set_updates_text}
use Rattle.pbx_link_definitions.specs.Names.{among}
use Rattle.pbx_link_visible.specs.Names.{has_text, HasAddedNames, first_index}

-- ---- one name more

if_or : (b c : Bool) → (if b then true else c) ≡ (b || c)
if_or true c = refl
if_or false c = refl

pub key_inserted : {Y : Type 0} (key : String Y) (name : List ℕ) (s n : BTreeSet (String Y)) → string_bytes key ≡ name → Updates string_cmp s n key true → HasAddedNames string_bytes (bytes_eq name) s n
key_inserted key name s n is updates q =
    btree_set_updates_text (string_bytes key) s n true updates q ∙ ap (λ (t : List ℕ). if bytes_eq t q then true else has_text string_bytes s q) is ∙ if_or (bytes_eq name q) (has_text string_bytes s q)

-- ---- items one after another

either_first : (a b c : Bool) → (b || (a || c)) ≡ ((a || b) || c)
either_first true true c = refl
either_first true false c = refl
either_first false true c = refl
either_first false false c = refl

pub any_more : {K X : Type 0} (text : K → List ℕ) (test : X → List ℕ → Bool) (xs : List X) (i : ℕ) (x : X) (s t u : BTreeSet K) → i < length xs → x ≡ get_or xs i x
    → HasAddedNames text (λ q. list_any (λ y. test y q) (take i xs)) s t → HasAddedNames text (test x) t u → HasAddedNames text (λ q. list_any (λ y. test y q) (take (i + 1) xs)) s u
any_more {K} {X} text test xs i x s t u lt is before after q =
    after q ∙ ap (λ (b : Bool). test x q || b) (before q)
    ∙ either_first (list_any (λ y. test y q) (take i xs)) (test x q) (has_text text s q)
    ∙ ap (λ (b : Bool). b || has_text text s q) (ap (λ (y : X). list_any (λ z. test z q) (take i xs) || test y q) is ∙ sym (list_any_more (λ y. test y q) xs i x lt))

-- names of items, one after another
pub names_more : {X : Type 0} (names : X → List (List ℕ)) (first : List (List ℕ)) (xs : List X) (i : ℕ) (x : X) (before now : List ℕ → Bool) → i < length xs → x ≡ get_or xs i x
    → ((q : List ℕ) → before q ≡ among (first ++ flat_map names (take i xs)) q) → ((q : List ℕ) → now q ≡ (among (names x) q || before q))
    → (q : List ℕ) → now q ≡ among (first ++ flat_map names (take (i + 1) xs)) q
names_more {X} names first xs i x before now lt is so_far after q =
    after q ∙ ap (λ (b : Bool). any (names x) || b) (so_far q) ∙ swap (any (names x)) (any (first ++ flat_map names (take i xs)))
    ∙ sym (list_any-append (λ n. bytes_eq n q) (first ++ flat_map names (take i xs)) (names x))
    ∙ ap any (append_assoc first (flat_map names (take i xs)) (names x)
    ∙ ap (λ (ns : List (List ℕ)). first ++ ns) (ap (λ (ns : List (List ℕ)). flat_map names (take i xs) ++ ns) (sym (append-nil (names x))) ∙ sym (flat_map-append names (take i xs) (x ∷ []))
    ∙ ap (flat_map names) (ap (λ (y : X). take i xs ++ y ∷ []) is ∙ sym (take_more xs i x lt))))
  where
    any : List (List ℕ) → Bool
    any ns = among ns q

    swap : (a b : Bool) → (a || b) ≡ (b || a)
    swap true true = refl
    swap true false = refl
    swap false true = refl
    swap false false = refl

pub names_first : (names : List (List ℕ)) (before now : List ℕ → Bool) → ((q : List ℕ) → before q ≡ false) → ((q : List ℕ) → now q ≡ (among names q || before q)) → (q : List ℕ) → now q ≡ among (names ++ []) q
names_first names before now none after q =
    after q ∙ ap (λ (b : Bool). among names q || b) (none q) ∙ or_false (among names q) ∙ ap (λ (ns : List (List ℕ)). among ns q) (sym (append-nil names))
  where
    or_false : (b : Bool) → (b || false) ≡ b
    or_false true = refl
    or_false false = refl

-- ---- first indexes

pub first_push : {X : Type 0} (test : X → Bool) (k : ℕ) (xs : List X) (x : X) → first_index test k (xs ++ x ∷ []) ≡ option_or (first_index test k xs) (if test x then Some (k + length xs) else None)
first_push test k [] x = ap (λ (n : ℕ). if test x then Some n else None) (omega arith)
first_push {X} test k (y ∷ xs) x = by_test (test y) (first_push test (k + 1) xs x)
  where
    by_test : (b : Bool) → first_index test (k + 1) (xs ++ x ∷ []) ≡ option_or (first_index test (k + 1) xs) (if test x then Some ((k + 1) + length xs) else None)
        → (if b then Some k else first_index test (k + 1) (xs ++ x ∷ [])) ≡ option_or (if b then Some k else first_index test (k + 1) xs) (if test x then Some (k + length (y ∷ xs)) else None)
    by_test true ih = refl
    by_test false ih = ih ∙ ap (λ (n : ℕ). option_or (first_index test (k + 1) xs) (if test x then Some n else None)) (omega arith)

pub first_more : {X : Type 0} (test : X → Bool) (xs : List X) (i : ℕ) (x : X) → i < length xs → x ≡ get_or xs i x
    → option_or (first_index test 0 (take i xs)) (if test x then Some i else None) ≡ first_index test 0 (take (i + 1) xs)
first_more {X} test xs i x lt is =
    let long : 0 + length (take i xs) ≡ i = omega (arith, length-take-le i xs (omega (arith, lt))) in
    ap (λ (n : ℕ). option_or (first_index test 0 (take i xs)) (if test x then Some n else None)) (sym long)
    ∙ sym (first_push test 0 (take i xs) x) ∙ ap (first_index test 0) (ap (λ (y : X). take i xs ++ y ∷ []) is ∙ sym (take_more xs i x lt))

-- the item at the first index is the first item
pub first_found : {X : Type 0} (test : X → Bool) (k : ℕ) (xs : List X) (i : ℕ) → first_index test k xs ≡ Some i → (n : ℕ) × (i ≡ k + n) × (slice_get xs n ≡ find test xs)
first_found test k [] i e = absurd (cc)
first_found {X} test k (x ∷ xs) i e = by_test (test x) e (first_found test (k + 1) xs i)
  where
    by_test : (b : Bool) → (if b then Some k else first_index test (k + 1) xs) ≡ Some i
        → (first_index test (k + 1) xs ≡ Some i → (n : ℕ) × (i ≡ (k + 1) + n) × (slice_get xs n ≡ find test xs))
        → (n : ℕ) × (i ≡ k + n) × (slice_get (x ∷ xs) n ≡ (if b then Some x else find test xs))
    by_test true e ih = let same : k ≡ i = cc in (0, omega (arith, same), refl)
    by_test false e ih = let at = ih e in (suc at.0, omega (arith, at.1), at.2)

pub none_first : {X : Type 0} (test : X → Bool) (k : ℕ) (xs : List X) → first_index test k xs ≡ None → find test xs ≡ None
none_first test k [] e = refl
none_first {X} test k (x ∷ xs) e = by_test (test x) e (none_first test (k + 1) xs)
  where
    by_test : (b : Bool) → (if b then Some k else first_index test (k + 1) xs) ≡ None → (first_index test (k + 1) xs ≡ None → find test xs ≡ None) → (if b then Some x else find test xs) ≡ None
    by_test true e ih = absurd (cc)
    by_test false e ih = ih e

or_twice : {X : Type 0} (a b c : Option X) → option_or (option_or a b) c ≡ option_or a (option_or b c)
or_twice None b c = refl
or_twice (Some x) b c = refl

mapped_or : {X Y : Type 0} (f : X → Y) (a : Option X) (b : Bool) (x : X) → option_or (option_map f a) (if b then Some (f x) else None) ≡ option_map f (option_or a (if b then Some x else None))
mapped_or f None true x = refl
mapped_or f None false x = refl
mapped_or f (Some y) b x = refl

-- one named item more
pub first_named : {X Y : Type 0} (name : X → List ℕ) (place : ℕ → Y) (q key : List ℕ) (xs : List X) (i : ℕ) (x : X) (start old new : Option Y) → i < length xs → x ≡ get_or xs i x → key ≡ name x
    → old ≡ option_or start (option_map place (first_index (λ y. bytes_eq (name y) q) 0 (take i xs))) → new ≡ option_or old (if bytes_eq key q then Some (place i) else None)
    → new ≡ option_or start (option_map place (first_index (λ y. bytes_eq (name y) q) 0 (take (i + 1) xs)))
first_named {X} {Y} name place q key xs i x start old new lt is same before after =
    let test : X → Bool = λ y. bytes_eq (name y) q in
    let first : Option ℕ = first_index test 0 (take i xs) in
    after ∙ ap (λ (o : Option Y). option_or o (if bytes_eq key q then Some (place i) else None)) before
    ∙ ap (λ (n : List ℕ). option_or (option_or start (option_map place first)) (if bytes_eq n q then Some (place i) else None)) same
    ∙ or_twice start (option_map place first) (if test x then Some (place i) else None)
    ∙ ap (option_or start) (mapped_or place first (test x) i ∙ ap (option_map place) (first_more test xs i x lt is))

pub found_at : {X : Type 0} (test : X → Bool) (xs : List X) (i : ℕ) → first_index test 0 xs ≡ Some i → slice_get xs i ≡ find test xs
found_at test xs i e =
    let at = first_found test 0 xs i e in
    let same : at.0 ≡ i = omega (arith, at.1) in
    ap (slice_get xs) (sym same) ∙ at.2

-- where an index is found, an item is
pub some_first : {X : Type 0} (test : X → Bool) (k : ℕ) (xs : List X) (i : ℕ) → first_index test k xs ≡ Some i → (x : X) × (find test xs ≡ Some x)
some_first test k [] i e = absurd (cc)
some_first {X} test k (x ∷ xs) i e = by_test (test x) e (some_first test (k + 1) xs i)
  where
    by_test : (b : Bool) → (if b then Some k else first_index test (k + 1) xs) ≡ Some i → (first_index test (k + 1) xs ≡ Some i → (y : X) × (find test xs ≡ Some y))
        → (y : X) × ((if b then Some x else find test xs) ≡ Some y)
    by_test true e ih = (x, refl)
    by_test false e ih = ih e

abbrev pub by_index : {X Y B : Type 0} → (X → B) → (Y → B) → List X → List Y → Option ℕ → Option ℕ → Option B
by_index of_x of_y xs ys (Some i) p = option_map of_x (slice_get xs i)
by_index of_x of_y xs ys None (Some j) = option_map of_y (slice_get ys j)
by_index of_x of_y xs ys None None = None

-- what is found first among items of one kind, and else among those of another, by its index
pub either_found : {X Y B : Type 0} (of_x : X → B) (of_y : Y → B) (test_x : X → Bool) (test_y : Y → Bool) (xs : List X) (ys : List Y) (o p : Option ℕ) → first_index test_x 0 xs ≡ o → first_index test_y 0 ys ≡ p
    → option_or (option_map of_x (find test_x xs)) (option_map of_y (find test_y ys)) ≡ by_index of_x of_y xs ys o p
either_found {X} {Y} {B} of_x of_y test_x test_y xs ys (Some i) p e g =
    let some = some_first test_x 0 xs i e in
    ap (λ (x : Option X). option_or (option_map of_x x) (option_map of_y (find test_y ys))) some.1 ∙ ap (option_map of_x) (sym some.1 ∙ sym (found_at test_x xs i e))
either_found {X} {Y} {B} of_x of_y test_x test_y xs ys None (Some j) e g =
    ap (λ (x : Option X). option_or (option_map of_x x) (option_map of_y (find test_y ys))) (none_first test_x 0 xs e) ∙ ap (option_map of_y) (sym (found_at test_y ys j g))
either_found {X} {Y} {B} of_x of_y test_x test_y xs ys None None e g =
    ap (λ (x : Option X). option_or (option_map of_x x) (option_map of_y (find test_y ys))) (none_first test_x 0 xs e) ∙ ap (option_map of_y) (none_first test_y 0 ys g)

pub added_index : (i j : ℕ) (xs : List ℕ) (k : ℕ) (before after : Bool) → k < length xs → j ≡ get_or xs k j → before ≡ list_any (λ x. i == x) (take k xs) → after ≡ (if is_eq (nat_cmp j i) then true else before)
    → after ≡ list_any (λ x. i == x) (take (k + 1) xs)
added_index i j xs k before after lt is so_far added =
    added ∙ by_tests (is_eq (nat_cmp j i)) (i == j) refl refl ∙ ap (λ (b : Bool). b || (i == j)) so_far
    ∙ ap (λ (x : ℕ). list_any (λ x. i == x) (take k xs) || (i == x)) is ∙ sym (list_any_more (λ x. i == x) xs k j lt)
  where
    always : (b : Bool) → true ≡ (b || true)
    always true = refl
    always false = refl

    never : (b : Bool) → b ≡ (b || false)
    never true = refl
    never false = refl

    by_tests : (a b : Bool) → is_eq (nat_cmp j i) ≡ a → (i == j) ≡ b → (if a then true else before) ≡ (before || b)
    by_tests true true w v = always before
    by_tests true false w v = absurd (grind (arith, nat_tests, w, v))
    by_tests false true w v = absurd (grind (arith, nat_tests, w, v))
    by_tests false false w v = never before

-- ---- items by their index

pub slice_at : {X : Type 0} (xs : List X) (i : ℕ) (x : X) → i < length xs → x ≡ get_or xs i x → Some x ≡ slice_get xs i
slice_at [] i x lt e = absurd (omega (arith, lt))
slice_at {X} (y ∷ xs) zero x lt e = ap (λ (z : X). Some z) e
slice_at (y ∷ xs) (suc i) x lt e = slice_at xs i x (omega (arith, lt)) e

pub slice_past : {X : Type 0} (xs : List X) (i : ℕ) → length xs ≤ i → None ≡ slice_get xs i
slice_past [] i le = refl
slice_past (x ∷ xs) zero le = absurd (omega (arith, le))
slice_past (x ∷ xs) (suc i) le = slice_past xs i (omega (arith, le))
