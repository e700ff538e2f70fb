-- Numbers under names before and after a change.
use Rattle.std.proofs.Common.{◌≡◌, ◌∙◌, ℕ, ◌+◌, ◌<◌, ◌++◌, length, take, get_or, Bor, ℤ, Bool, true, false, cond, not, ◌&&◌, ◌||◌, List, [], ◌∷◌, refl, ap, sym, subst}
use Rattle.std.specs.Prelude.{Option, Some, None, Result, Ok, Err, OnErr, OnOk}
use Rattle.std.specs.BTreeMap.{is_at}
use Rattle.std.specs.BTreeSet.{BTreeSet, contains}
use Rattle.std.specs.List.{list_any}
use Rattle.std.specs.Cmp.Lexicographic.{bytes_decides}
use Rattle.std.specs.Ordering.{int_cmp, int_eq}
use Rattle.std.specs.Str.{bytes_eq}
use Rattle.std.specs.Cmp.{signed_Decides}
use Rattle.std.proofs.lemmas.List.{take_more}
use Rattle.std.proofs.lemmas.List.Folds.{list_any-append}
use Rattle.pbx_link_names.specs.Numbers.{is_in, is_item, is_noted, is_among}

-- what stands under names
abbrev pub Sets : Type 0
Sets = List ℕ → Option (BTreeSet ℤ)

changed_at : (g : Bool → Bool) (f : Sets) (n q : List ℕ) (z : ℤ) (set : BTreeSet ℤ) → is_in z (Some set) ≡ g (is_in z (f n)) → (b : Bool) → bytes_eq n q ≡ b
    → is_in z (cond b (Some set) (f q)) ≡ cond b (g (is_in z (f q))) (is_in z (f q))
changed_at g f n q z set h true e = subst (λ (x : List ℕ). is_in z (Some set) ≡ g (is_in z (f x))) ((bytes_decides n q).0 e) h
changed_at g f n q z set h false e = refl

-- another set is under one name
changed : (g : Bool → Bool) (f after : Sets) (n q : List ℕ) (z : ℤ) (set : BTreeSet ℤ) → is_in z (Some set) ≡ g (is_in z (f n)) → ((p : List ℕ) → after p ≡ cond (bytes_eq n p) (Some set) (f p))
    → is_in z (after q) ≡ cond (bytes_eq n q) (g (is_in z (f q))) (is_in z (f q))
changed g f after n q z set h sets = ap (is_in z) (sets q) ∙ changed_at g f n q z set h (bytes_eq n q) refl

with_one : (a b x : Bool) → cond a (cond b true x) x ≡ (x || (a && b))
with_one true true true = refl
with_one true true false = refl
with_one true false true = refl
with_one true false false = refl
with_one false b true = refl
with_one false b false = refl

without_one : (a b x : Bool) → cond a (cond b false x) x ≡ (x && not (a && b))
without_one true true true = refl
without_one true true false = refl
without_one true false true = refl
without_one true false false = refl
without_one false b true = refl
without_one false b false = refl

either_way : (a x : Bool) → cond a x x ≡ x
either_way true x = refl
either_way false x = refl

-- a number more is under the name
pub one_more : (f after : Sets) (n q : List ℕ) (k z : ℤ) (set : BTreeSet ℤ) → is_in z (Some set) ≡ cond (int_eq k z) true (is_in z (f n)) → ((p : List ℕ) → after p ≡ cond (bytes_eq n p) (Some set) (f p))
    → is_in z (after q) ≡ (is_in z (f q) || is_item q z (n, k))
one_more f after n q k z set h sets = changed (cond (int_eq k z) true) f after n q z set h sets ∙ with_one (bytes_eq n q) (int_eq k z) (is_in z (f q))

-- a number less is under the name
pub one_less : (f after : Sets) (n q : List ℕ) (k z : ℤ) (set : BTreeSet ℤ) → is_in z (Some set) ≡ cond (int_eq k z) false (is_in z (f n)) → ((p : List ℕ) → after p ≡ cond (bytes_eq n p) (Some set) (f p))
    → is_in z (after q) ≡ (is_in z (f q) && not (is_item q z (n, k)))
one_less f after n q k z set h sets = changed (cond (int_eq k z) false) f after n q z set h sets ∙ without_one (bytes_eq n q) (int_eq k z) (is_in z (f q))

-- the same numbers are under the name
pub the_same : (f after : Sets) (n q : List ℕ) (z : ℤ) (set : BTreeSet ℤ) → is_in z (Some set) ≡ is_in z (f n) → ((p : List ℕ) → after p ≡ cond (bytes_eq n p) (Some set) (f p)) → is_in z (after q) ≡ is_in z (f q)
the_same f after n q z set h sets = changed (λ b. b) f after n q z set h sets ∙ either_way (bytes_eq n q) (is_in z (f q))

absent_at : (f : Sets) (n q : List ℕ) (k z : ℤ) → f n ≡ None → (b : Bool) → bytes_eq n q ≡ b → is_in z (f q) ≡ (is_in z (f q) && not (b && int_eq k z))
absent_at f n q k z h true e =
    let none : f q ≡ None = subst (λ (x : List ℕ). f x ≡ None) ((bytes_decides n q).0 e) h in
    ap (is_in z) none ∙ ap (λ (o : Option (BTreeSet ℤ)). is_in z o && not (true && int_eq k z)) (sym none)
absent_at f n q k z h false e = and_true (is_in z (f q))
  where
    and_true : (b : Bool) → b ≡ (b && true)
    and_true true = refl
    and_true false = refl

-- nothing is under the name, so no number is taken out
pub none_less : (f : Sets) (n q : List ℕ) (k z : ℤ) → f n ≡ None → is_in z (f q) ≡ (is_in z (f q) && not (is_item q z (n, k)))
none_less f n q k z h = absent_at f n q k z h (bytes_eq n q) refl

-- a set that was nothing and then has one number
pub first_one : (z k : ℤ) (empty set : BTreeSet ℤ) (o : Option (BTreeSet ℤ)) → empty.keys ≡ [] → contains int_cmp set z ≡ cond (int_eq k z) true (contains int_cmp empty z) → o ≡ None → is_in z (Some set) ≡ cond (int_eq k z) true (is_in z o)
first_one z k empty set o none has absent =
    has ∙ ap (λ (ks : List ℤ). cond (int_eq k z) true (list_any (is_at (int_cmp z)) ks)) none ∙ ap (λ (p : Option (BTreeSet ℤ)). cond (int_eq k z) true (is_in z p)) (sym absent)

-- ---- items that are noted

less_twice : (x a b : Bool) → ((x && not a) && not b) ≡ (x && not (a || (b || false)))
less_twice true true b = refl
less_twice true false true = refl
less_twice true false false = refl
less_twice false a b = refl

-- what is left, where one item more is taken out
pub removed_more : (q : List ℕ) (z : ℤ) (items : List (Bor (List ℕ × ℤ))) (i : ℕ) (item : Bor (List ℕ × ℤ)) (before now after : Bool) → i < length items → item ≡ get_or items i item
    → now ≡ (before && not (is_noted q z (take i items))) → after ≡ (now && not (is_item q z item.now)) → after ≡ (before && not (is_noted q z (take (i + 1) items)))
removed_more q z items i item before now after lt is so_far here =
    let t : Bor (List ℕ × ℤ) → Bool = λ x. is_item q z x.now in
    let a : is_noted q z (take (i + 1) items) ≡ (is_noted q z (take i items) || (is_item q z item.now || false)) =
    ap (list_any t) (take_more items i item lt) ∙ list_any-append t (take i items) (get_or items i item ∷ [])
    ∙ ap (λ (x : Bor (List ℕ × ℤ)). is_noted q z (take i items) || (is_item q z x.now || false)) (sym is) in
    here ∙ ap (λ (b : Bool). b && not (is_item q z item.now)) so_far ∙ less_twice before (is_noted q z (take i items)) (is_item q z item.now) ∙ ap (λ (b : Bool). before && not b) (sym a)

none_left : (x : Bool) → false ≡ (x && false)
none_left true = refl
none_left false = refl

-- a name and a number
abbrev pub There : Type 0
There = List ℕ → ℤ → Bool

item_at : (f : There) (n q : List ℕ) (k z : ℤ) → f n k ≡ false → (a b : Bool) → bytes_eq n q ≡ a → int_eq k z ≡ b → (a && b) ≡ true → f q z ≡ false
item_at f n q k z h true true e d is =
    subst (λ (y : ℤ). f q y ≡ false) ((signed_Decides k z).0 d) (subst (λ (x : List ℕ). f x k ≡ false) ((bytes_decides n q).0 e) h)
item_at f n q k z h true false e d is = cc
item_at f n q k z h false b e d is = cc

undone_at : (f g : There) (n q : List ℕ) (k z : ℤ) (a b : Bool) → is_item q z (n, k) ≡ b → f n k ≡ false → (is_item q z (n, k) ≡ false → g q z ≡ f q z) → (g q z && not (a || (b || false))) ≡ (f q z && not a)
undone_at f g n q k z true b e h same = sym (none_left (g q z)) ∙ none_left (f q z)
undone_at f g n q k z false true e h same = sym (none_left (g q z)) ∙ ap (λ (x : Bool). x && true) (sym (item_at f n q k z h (bytes_eq n q) (int_eq k z) refl refl e))
undone_at f g n q k z false false e h same = ap (λ (x : Bool). x && true) (same e)

-- with one item more taken out, which was not there
pub undone : (f g : There) (items : List (Bor (List ℕ × ℤ))) (x : Bor (List ℕ × ℤ)) (q : List ℕ) (z : ℤ) → f x.now.0 x.now.1 ≡ false → (is_item q z x.now ≡ false → g q z ≡ f q z)
    → (g q z && not (is_noted q z (items ++ x ∷ []))) ≡ (f q z && not (is_noted q z items))
undone f g items x q z h same =
    let t : Bor (List ℕ × ℤ) → Bool = λ y. is_item q z y.now in
    ap (λ (b : Bool). g q z && not b) (list_any-append t items (x ∷ [])) ∙ undone_at f g x.now.0 q x.now.1 z (is_noted q z items) (is_item q z x.now) refl h same

or_false : (x : Bool) → (x || false) ≡ x
or_false true = refl
or_false false = refl

-- others stay as they are, whether the item was added or refused
pub elsewhere : {U E : Type 0} (r : Result U E) (f g : There) (x : List ℕ × ℤ) (q : List ℕ) (z : ℤ) → OnOk r ((p : List ℕ) (y : ℤ) → g p y ≡ (f p y || is_item p y x)) → OnErr r ((p : List ℕ) (y : ℤ) → g p y ≡ f p y)
    → is_item q z x ≡ false → g q z ≡ f q z
elsewhere (Ok u) f g x q z ok err other = ok q z ∙ ap (λ (b : Bool). f q z || b) other ∙ or_false (f q z)
elsewhere (Err e) f g x q z ok err other = err q z

or_twice : (x a b : Bool) → ((x || a) || b) ≡ (x || (a || (b || false)))
or_twice true a b = refl
or_twice false true b = refl
or_twice false false true = refl
or_twice false false false = refl

-- what is there after one item more
pub item_more : (q : List ℕ) (z : ℤ) (items : List (List ℕ × ℤ)) (i : ℕ) (x : List ℕ × ℤ) (before now after : Bool) → i < length items → x ≡ get_or items i x
    → now ≡ (before || is_among q z (take i items)) → after ≡ (now || is_item q z x) → after ≡ (before || is_among q z (take (i + 1) items))
item_more q z items i x before now after lt is so_far here =
    let a : is_among q z (take (i + 1) items) ≡ (is_among q z (take i items) || (is_item q z x || false)) =
    ap (is_among q z) (take_more items i x lt) ∙ list_any-append (is_item q z) (take i items) (get_or items i x ∷ []) ∙ ap (λ (y : List ℕ × ℤ). is_among q z (take i items) || (is_item q z y || false)) (sym is) in
    here ∙ ap (λ (b : Bool). b || is_item q z x) so_far ∙ or_twice before (is_among q z (take i items)) (is_item q z x) ∙ ap (λ (b : Bool). before || b) (sym a)
