-- The first index of a name, with one name more and one less.
use Rattle.std.proofs.Common.{◌≡◌, ◌∙◌, ◌<◌, ◌≤◌, ◌+◌, ℕ, zero, suc, Bool, true, false, cond, List, [], ◌∷◌, ◌++◌, ◌||◌, length, length-take, take, get_or, add-one, refl, ap, sym, subst, arith}
use Rattle.std.specs.Prelude.{Option, Some, None, Result, Ok, Err, OnErr, OnOk, is_some, is_err, option_map, if◌then◌else◌, ◌==◌, nat_lt}
use Rattle.std.specs.Option.{option_eq}
use Rattle.std.proofs.lemmas.Bool.Decides.{nat_tests}
use Rattle.std.specs.Str.{bytes_eq}
use Rattle.std.specs.Cmp.Lexicographic.{bytes_decides}
use Rattle.std.proofs.Math.Seq.{take-suc}
use Rattle.std.proofs.lemmas.List.{take_all}
use Rattle.pbx_link_definitions.specs.Names.{among}
use Rattle.protox_compile_walk.specs.declared.indexes.Indexes.{Indexes}
use Rattle.protox_compile_walk.specs.Indexes.{first_index, AreIndexed, is_below}

-- a fact that holds, whatever the result
pub on_any_err : {U E : Type 0} {P : Type 0} (result : Result U E) → P → OnErr result P
on_any_err (Ok u) p = tt
on_any_err (Err e) p = p

-- the index of the first of some names
abbrev pub front : Option ℕ
front = Some 0

abbrev pub behind : Option ℕ → Option ℕ
behind o = option_map (λ i. suc i) o

pub on_err_at : {U E P : Type 0} (result : Result U E) → is_err result ≡ true → OnErr result P → P
on_err_at (Ok u) e h = cc
on_err_at (Err d) e h = h

pub on_ok_map : {U E P Q : Type 0} (result : Result U E) → (P → Q) → OnOk result P → OnOk result Q
on_ok_map (Ok u) f p = f p
on_ok_map (Err e) f p = tt

-- the first index with one name more
last : (name n : List ℕ) (ns : List (List ℕ)) → first_index name (ns ++ n ∷ []) ≡ (if is_some (first_index name ns) then first_index name ns else cond (bytes_eq n name) (Some (length ns)) None)
last name n [] = at (bytes_eq n name)
  where
    at : (b : Bool) → (if b then front else None) ≡ cond b front None
    at true = refl
    at false = refl
last name n (m ∷ ns) = at (bytes_eq m name) (first_index name ns) (last name n ns)
  where
    at : (b : Bool) (o : Option ℕ) → first_index name (ns ++ n ∷ []) ≡ (if is_some o then o else cond (bytes_eq n name) (Some (length ns)) None)
        → (if b then front else behind (first_index name (ns ++ n ∷ [])))
        ≡ (if is_some (if b then front else behind o) then (if b then front else behind o) else cond (bytes_eq n name) (Some (suc (length ns))) None)
    at true o h = refl
    at false (Some i) h = ap behind h
    at false None h = ap behind h ∙ under (bytes_eq n name)
      where
        under : (b : Bool) → behind (cond b (Some (length ns)) None) ≡ cond b (Some (suc (length ns))) None
        under true = refl
        under false = refl

-- an index is below the number of names
pub below : (name : List ℕ) (ns : List (List ℕ)) (i : ℕ) → first_index name ns ≡ Some i → i < length ns
below name [] i h = absurd (cc)
below name (n ∷ ns) i h = at (bytes_eq n name) (first_index name ns) refl (λ j e. below name ns j e) h
  where
    at : (b : Bool) (o : Option ℕ) → first_index name ns ≡ o → ((j : ℕ) → first_index name ns ≡ Some j → j < length ns) → (if b then front else behind o) ≡ Some i
        → i < suc (length ns)
    at true o e rest k = let zero_is : 0 ≡ i = cc in omega (arith, zero_is)
    at false None e rest k = absurd (cc)
    at false (Some j) e rest k =
        let one_more : suc j ≡ i = cc in
        let less : j < length ns = rest j e in
        omega (arith, one_more, less)

-- a name that is there stays where it is
pub same_with : (name n : List ℕ) (ns : List (List ℕ)) → is_some (first_index n ns) ≡ true → first_index name ns ≡ first_index name (ns ++ n ∷ [])
same_with name n ns there = sym (last name n ns ∙ at (bytes_eq n name) refl)
  where
    at : (b : Bool) → bytes_eq n name ≡ b → (if is_some (first_index name ns) then first_index name ns else cond b (Some (length ns)) None) ≡ first_index name ns
    at true e =
        let found : is_some (first_index name ns) ≡ true = subst (λ (x : List ℕ). is_some (first_index x ns) ≡ true) ((bytes_decides n name).0 e) there in
        rw found refl
    at false e = other (first_index name ns)
      where
        other : (o : Option ℕ) → (if is_some o then o else None) ≡ o
        other (Some i) = refl
        other None = refl

-- a new name has the index behind all others
pub new_with : (name n : List ℕ) (ns : List (List ℕ)) → is_some (first_index n ns) ≡ false → cond (bytes_eq n name) (Some (length ns)) (first_index name ns) ≡ first_index name (ns ++ n ∷ [])
new_with name n ns new = sym (last name n ns ∙ at (bytes_eq n name) refl)
  where
    at : (b : Bool) → bytes_eq n name ≡ b → (if is_some (first_index name ns) then first_index name ns else cond b (Some (length ns)) None) ≡ cond b (Some (length ns)) (first_index name ns)
    at true e =
        let none : is_some (first_index name ns) ≡ false = subst (λ (x : List ℕ). is_some (first_index x ns) ≡ false) ((bytes_decides n name).0 e) new in
        rw none refl
    at false e = other (first_index name ns)
      where
        other : (o : Option ℕ) → (if is_some o then o else None) ≡ o
        other (Some i) = refl
        other None = refl

is_none_of : {X : Type 0} (o : Option X) → is_some o ≡ false → o ≡ None
is_none_of None h = refl
is_none_of (Some x) h = absurd (cc)

-- with the last name taken out, where it is found behind all others
pub without_last : (name n : List ℕ) (ns : List (List ℕ)) → first_index n (ns ++ n ∷ []) ≡ Some (length ns) → cond (bytes_eq n name) None (first_index name (ns ++ n ∷ [])) ≡ first_index name ns
without_last name n ns found = at (bytes_eq n name) refl
  where
    new : (b : Bool) → is_some (first_index n ns) ≡ b → b ≡ false
    new false e = refl
    new true e =
        let i : first_index n ns ≡ Some (length ns) = same_with n n ns e ∙ found in
        let less : length ns < length ns = below n ns (length ns) i in
        absurd (omega (arith, less))

    none : is_some (first_index n ns) ≡ false
    none = new (is_some (first_index n ns)) refl

    at : (b : Bool) → bytes_eq n name ≡ b → cond b None (first_index name (ns ++ n ∷ [])) ≡ first_index name ns
    at true e = sym (subst (λ (x : List ℕ). first_index x ns ≡ None) ((bytes_decides n name).0 e) (is_none_of (first_index n ns) none))
    at false e = sym (ap (λ b. cond b (Some (length ns)) (first_index name ns)) (sym e) ∙ new_with name n ns none)

-- with the last name taken out, where an earlier one is found
pub without_later : (name n : List ℕ) (ns : List (List ℕ)) → ¬ (first_index n (ns ++ n ∷ []) ≡ Some (length ns)) → first_index name (ns ++ n ∷ []) ≡ first_index name ns
without_later name n ns other = sym (same_with name n ns (there (is_some (first_index n ns)) refl))
  where
    itself : bytes_eq n n ≡ true
    itself = (bytes_decides n n).1 refl

    there : (b : Bool) → is_some (first_index n ns) ≡ b → b ≡ true
    there true e = refl
    there false e = absurd (other (sym (new_with n n ns e) ∙ ap (λ b. cond b (Some (length ns)) (first_index n ns)) itself))

-- two indexes that a test finds equal, or not
pub is_at : (o : Option ℕ) (i : ℕ) → true ≡ option_eq (λ x y. x == y) o (Some i) → o ≡ Some i
is_at None i h = absurd (cc)
is_at (Some x) i h = let e : x ≡ i = grind (arith, nat_tests, h) in ap Some e

pub is_not_at : (o : Option ℕ) (i : ℕ) → false ≡ option_eq (λ x y. x == y) o (Some i) → ¬ (o ≡ Some i)
is_not_at None i h e = absurd (cc)
is_not_at (Some x) i h e =
    let same : x ≡ i = cc in
    let no : ⊥ = grind (arith, nat_tests, h, same) in
    no

-- ---- names that are found

-- a name is found exactly if it is one of them
pub found_among : (name : List ℕ) (ns : List (List ℕ)) → is_some (first_index name ns) ≡ among ns name
found_among name [] = refl
found_among name (n ∷ ns) = at (bytes_eq n name) (first_index name ns) (found_among name ns)
  where
    at : (b : Bool) (o : Option ℕ) → is_some o ≡ among ns name → is_some (if b then front else behind o) ≡ (b || among ns name)
    at true o h = refl
    at false (Some i) h = h
    at false None h = h

none_below : (o : Option ℕ) → false ≡ is_below 0 o
none_below None = refl
none_below (Some i) = at (nat_lt i 0) refl
  where
    at : (b : Bool) → nat_lt i 0 ≡ b → false ≡ b
    at true e = let no : ⊥ = grind (arith, nat_tests, e) in absurd no
    at false e = refl

one_lower : (i k : ℕ) → nat_lt i k ≡ nat_lt (suc i) (suc k)
one_lower i k = at (nat_lt i k) (nat_lt (suc i) (suc k)) refl refl
  where
    at : (a b : Bool) → nat_lt i k ≡ a → nat_lt (suc i) (suc k) ≡ b → a ≡ b
    at true true e f = refl
    at true false e f = let no : ⊥ = grind (arith, nat_tests, e, f) in absurd no
    at false true e f = let no : ⊥ = grind (arith, nat_tests, e, f) in absurd no
    at false false e f = refl

first_lower : (k : ℕ) → true ≡ nat_lt 0 (suc k)
first_lower k = at (nat_lt 0 (suc k)) refl
  where
    at : (b : Bool) → nat_lt 0 (suc k) ≡ b → true ≡ b
    at true e = refl
    at false e = let no : ⊥ = grind (arith, nat_tests, e) in absurd no

-- a name is one of the first exactly if its index is below their number
pub among_take : (name : List ℕ) (k : ℕ) (ns : List (List ℕ)) → among (take k ns) name ≡ is_below k (first_index name ns)
among_take name zero ns = none_below (first_index name ns)
among_take name (suc k) [] = refl
among_take name (suc k) (n ∷ ns) = at (bytes_eq n name) (first_index name ns) (among_take name k ns)
  where
    at : (b : Bool) (o : Option ℕ) → among (take k ns) name ≡ is_below k o → (b || among (take k ns) name) ≡ is_below (suc k) (if b then front else behind o)
    at true o h = first_lower k
    at false None h = h
    at false (Some i) h = h ∙ one_lower i k

-- one of the names more is indexed
pub indexed_more : (names : List (List ℕ)) (i : ℕ) (x : List ℕ) (first now : Indexes) → i < length names → x ≡ get_or names i x → AreIndexed first (take i names)
    → ((ns : List (List ℕ)) → length ns ≡ i → AreIndexed first ns → AreIndexed now (ns ++ x ∷ [])) → AreIndexed now (take (i + 1) names)
indexed_more names i x first now fits is so_far more =
    let e : take (suc i) names ≡ take i names ++ x ∷ [] = take-suc names i x fits ∙ ap (λ y. take i names ++ y ∷ []) (sym is) in
    let long : length (take i names) ≡ i = rw length-take (omega arith) in
    rw (add-one, e) (more (take i names) long so_far)

-- all of the names are indexed
pub indexed_all : (names : List (List ℕ)) (i : ℕ) (first : Indexes) → length names ≤ i → AreIndexed first (take i names) → AreIndexed first names
indexed_all names i first fits h = let P : List (List ℕ) → Type 0 = λ ns. AreIndexed first ns in subst P (take_all i names fits) h
