-- Uses of keys, and the keys that have two meanings.
use Rattle.std.proofs.Common.{◌≡◌, ℕ, zero, suc, ◌+◌, ◌<◌, List, [], ◌∷◌, ◌++◌, map, filter, length, ◌==◌, take, drop, get_or, Bool, true, false, not, ◌||◌, ◌&&◌}
use Rattle.std.proofs.Common.{if◌then◌else◌, cond, nat_le, Option, Some, None, refl, sym, ap, ◌∙◌, arith}
use Rattle.std.specs.List.{list_all, list_any}
use Rattle.std.specs.Str.{bytes_eq}
use Rattle.std.proofs.lemmas.Bool.Decides.{nat_tests}
use Rattle.std.proofs.lemmas.Slice.Eq.{bytes_eq-Decides}
use Rattle.pbx_content.specs.declared.shape.FieldShape.{FieldShape}
use Rattle.pbx_json_meaning.specs.Names.{json_name_is, name_is}
use Rattle.pbx_json_meaning.specs.Clash.{ByAnyName, is_shared, is_of_extension, is_name_of_another, clashes, least_key}
use Rattle.pbx_json_meaning.specs.Urls.{is_type_key}
use Rattle.pbx_json_check_names.specs.Uses.{with_use, used_by, is_of_another, named, named_by, use_by_names, is_clash, is_clashing, least_with}
use Rattle.pbx_json_check_names.specs.declared.uses.KeyUse.{KeyUse}
use Rattle.pbx_json_check_names.specs.declared.uses.KeyUse.TheVariants as use_of

-- how many fields of the message itself have the key
abbrev own : List ℕ → List FieldShape → ℕ
own q fs = length (filter (json_name_is q) fs)

-- one field more: an extension or not, with the key or not
abbrev own_more : Bool → Bool → ℕ → ℕ
own_more e b n = if not e && b then suc n else n

own_cons : (q : List ℕ) (f : FieldShape) (fs : List FieldShape) → own q (f ∷ fs) ≡ own_more f.is_extension (bytes_eq f.json_name q) (own q fs)
own_cons q f fs = at (not f.is_extension && bytes_eq f.json_name q)
  where
    at : (b : Bool) → length (if b then f ∷ filter (json_name_is q) fs else filter (json_name_is q) fs) ≡ (if b then suc (own q fs) else own q fs)
    at true = refl
    at false = refl

at_least_one : (n : ℕ) → nat_le 1 (suc n) ≡ true
at_least_one n = grind (arith, nat_tests)

at_least_two : (n : ℕ) → nat_le 2 (suc n) ≡ nat_le 1 n
at_least_two zero = refl
at_least_two (suc n) = let a : nat_le 2 (suc (suc n)) ≡ true = grind (arith, nat_tests) in let b : nat_le 1 (suc n) ≡ true = grind (arith, nat_tests) in a ∙ sym b

clash_stays : (q : List ℕ) (fs : List FieldShape) → is_clash (used_by q fs (Some use_of.Clash)) ≡ true
clash_stays q [] = refl
clash_stays q (f ∷ fs) = at f.is_extension (bytes_eq f.json_name q) (clash_stays q fs)
  where
    at : (e b : Bool) → is_clash (used_by q fs (Some use_of.Clash)) ≡ true
        → is_clash (used_by q fs (if b then Some (with_use e f.number (Some use_of.Clash)) else Some use_of.Clash)) ≡ true
    at true true ih = ih
    at false true ih = ih
    at e false ih = ih

clash_extension : (q : List ℕ) (fs : List FieldShape) → is_clash (used_by q fs (Some use_of.Extension)) ≡ nat_le 1 (own q fs)
clash_extension q [] = refl
clash_extension q (f ∷ fs) = at f.is_extension (bytes_eq f.json_name q) (clash_extension q fs) ∙ ap (nat_le 1) (sym (own_cons q f fs))
  where
    at : (e b : Bool) → is_clash (used_by q fs (Some use_of.Extension)) ≡ nat_le 1 (own q fs)
        → is_clash (used_by q fs (if b then Some (with_use e f.number (Some use_of.Extension)) else Some use_of.Extension)) ≡ nat_le 1 (own_more e b (own q fs))
    at true true ih = ih
    at false true ih = clash_stays q fs ∙ sym (at_least_one (own q fs))
    at true false ih = ih
    at false false ih = ih

or_true : (a : Bool) → (a || true) ≡ true
or_true true = refl
or_true false = refl

clash_own : (q : List ℕ) (n : ℕ) (fs : List FieldShape) → is_clash (used_by q fs (Some (use_of.Own n))) ≡ (nat_le 1 (own q fs) || is_of_extension fs q)
clash_own q n [] = refl
clash_own q n (f ∷ fs) =
    at f.is_extension (bytes_eq f.json_name q) (clash_own q n fs) ∙ ap (λ m. nat_le 1 m || is_of_extension (f ∷ fs) q) (sym (own_cons q f fs))
  where
    at : (e b : Bool) → is_clash (used_by q fs (Some (use_of.Own n))) ≡ (nat_le 1 (own q fs) || is_of_extension fs q)
        → is_clash (used_by q fs (if b then Some (with_use e f.number (Some (use_of.Own n))) else Some (use_of.Own n)))
        ≡ (nat_le 1 (own_more e b (own q fs)) || ((e && b) || is_of_extension fs q))
    at true true ih = clash_stays q fs ∙ sym (or_true (nat_le 1 (own q fs)))
    at false true ih = clash_stays q fs ∙ sym (ap (λ b. b || is_of_extension fs q) (at_least_one (own q fs)))
    at true false ih = ih
    at false false ih = ih

-- a key has two meanings where it is that of a field of the message itself, and of another or of an extension
clash_is : (q : List ℕ) (fs : List FieldShape) → is_clash (used_by q fs None) ≡ (nat_le 2 (own q fs) || (nat_le 1 (own q fs) && is_of_extension fs q))
clash_is q [] = refl
clash_is q (f ∷ fs) =
    at f.is_extension (bytes_eq f.json_name q) (clash_is q fs)
    ∙ ap (λ n. nat_le 2 n || (nat_le 1 n && is_of_extension (f ∷ fs) q)) (sym (own_cons q f fs))
  where
    two_one : (n : ℕ) → nat_le 1 n ≡ (nat_le 2 n || (nat_le 1 n && true))
    two_one zero = refl
    two_one (suc n) = rw (at_least_one n) (sym (or_true (nat_le 2 (suc n))))

    at : (e b : Bool) → is_clash (used_by q fs None) ≡ (nat_le 2 (own q fs) || (nat_le 1 (own q fs) && is_of_extension fs q))
        → is_clash (used_by q fs (if b then Some (with_use e f.number None) else None))
        ≡ (nat_le 2 (own_more e b (own q fs)) || (nat_le 1 (own_more e b (own q fs)) && ((e && b) || is_of_extension fs q)))
    at true true ih = clash_extension q fs ∙ two_one (own q fs)
    at false true ih = clash_own q f.number fs ∙ rw (at_least_two (own q fs), at_least_one (own q fs)) refl
    at true false ih = ih
    at false false ih = ih

-- ---- the uses so far

used_by-append : (q : List ℕ) (xs ys : List FieldShape) (u : Option KeyUse) → used_by q (xs ++ ys) u ≡ used_by q ys (used_by q xs u)
used_by-append q [] ys u = refl
used_by-append q (x ∷ xs) ys u = used_by-append q xs ys _

take_next : {X : Type 0} (xs : List X) (i : ℕ) (x : X) → i < length xs → x ≡ get_or xs i x → take (suc i) xs ≡ take i xs ++ x ∷ []
take_next [] i x h is = absurd (omega arith)
take_next (y ∷ xs) zero x h is = ap (λ z. z ∷ []) (sym is)
take_next (y ∷ xs) (suc i) x h is = ap (λ zs. y ∷ zs) (take_next xs i x (omega arith) is)

-- the uses with one field more
pub used_more : (fs : List FieldShape) (i : ℕ) (f : FieldShape) (name : List ℕ) (old new : List ℕ → Option KeyUse) → i < length fs → f ≡ get_or fs i f
    → name ≡ f.json_name → ((q : List ℕ) → old q ≡ used_by q (take i fs) None)
    → ((q : List ℕ) → new q ≡ cond (bytes_eq name q) (Some (with_use f.is_extension f.number (old name))) (old q))
    → (q : List ℕ) → new q ≡ used_by q (take (i + 1) fs) None
used_more fs i f name old new within is named so set q =
    set q ∙ at (bytes_eq name q) refl
    ∙ ap (λ n. if bytes_eq n q then Some (with_use f.is_extension f.number (used_by q (take i fs) None)) else used_by q (take i fs) None) named
    ∙ sym (used_by-append q (take i fs) (f ∷ []) None)
    ∙ ap (λ xs. used_by q xs None) (sym (ap (λ n. take n fs) next ∙ take_next fs i f within is))
  where
    next : i + 1 ≡ suc i
    next = omega arith

    at : (b : Bool) → bytes_eq name q ≡ b
        → cond b (Some (with_use f.is_extension f.number (old name))) (old q) ≡ (if b then Some (with_use f.is_extension f.number (used_by q (take i fs) None)) else used_by q (take i fs) None)
    at true e = let same : name ≡ q = (bytes_eq-Decides name q).0 e in ap (λ u. Some (with_use f.is_extension f.number u)) (ap old same ∙ so q)
    at false e = so q

-- ---- the names of other fields

named_by-append : (q : List ℕ) (xs ys : List FieldShape) (u : Option KeyUse) → named_by q (xs ++ ys) u ≡ named_by q ys (named_by q xs u)
named_by-append q [] ys u = refl
named_by-append q (x ∷ xs) ys u = named_by-append q xs ys _

-- the uses with the name of one field more
pub names_more : (fs : List FieldShape) (i : ℕ) (f : FieldShape) (first old new : List ℕ → Option KeyUse) → i < length fs → f ≡ get_or fs i f
    → ((q : List ℕ) → old q ≡ named_by q (take i fs) (first q)) → ((q : List ℕ) → new q ≡ named q f (old q))
    → (q : List ℕ) → new q ≡ named_by q (take (i + 1) fs) (first q)
names_more fs i f first old new within is so set q =
    set q ∙ ap (named q f) (so q)
    ∙ sym (named_by-append q (take i fs) (f ∷ []) (first q))
    ∙ ap (λ xs. named_by q xs (first q)) (sym (ap (λ n. take n fs) next ∙ take_next fs i f within is))
  where
    next : i + 1 ≡ suc i
    next = omega arith

-- a name that is another field's key gives it two meanings
pub name_marked : (f : FieldShape) (name : List ℕ) (old new : List ℕ → Option KeyUse) → name ≡ f.name → is_of_another (old f.name) f ≡ true
    → ((q : List ℕ) → new q ≡ cond (bytes_eq name q) (Some use_of.Clash) (old q)) → (q : List ℕ) → new q ≡ named q f (old q)
name_marked f name old new is another set q =
    set q ∙ ap (λ n. cond (bytes_eq n q) (Some use_of.Clash) (old q)) is ∙ at f.is_extension (bytes_eq f.name q) refl refl
  where
    at : (x e : Bool) → f.is_extension ≡ x → bytes_eq f.name q ≡ e
        → cond e (Some use_of.Clash) (old q) ≡ (if (not x && e) && is_of_another (old q) f then Some use_of.Clash else old q)
    at false true x e =
        let same : f.name ≡ q = (bytes_eq-Decides f.name q).0 e in
        let yes' : is_of_another (old q) f ≡ true = ap (λ k. is_of_another (old k) f) (sym same) ∙ another in
        rw yes' refl
    at false false x e = refl
    at true false x e = refl
    at true true x e = let none : is_of_another (old f.name) f ≡ false = rw x refl in absurd (let bad : true ≡ false = sym another ∙ none in cc)

-- any other name does not
pub name_kept : (f : FieldShape) (old : List ℕ → Option KeyUse) → is_of_another (old f.name) f ≡ false → (q : List ℕ) → old q ≡ named q f (old q)
name_kept f old none q = at f.is_extension (bytes_eq f.name q) refl
  where
    at : (x e : Bool) → bytes_eq f.name q ≡ e → old q ≡ (if (not x && e) && is_of_another (old q) f then Some use_of.Clash else old q)
    at true e k = refl
    at false false k = refl
    at false true k =
        let same : f.name ≡ q = (bytes_eq-Decides f.name q).0 k in
        let no : is_of_another (old q) f ≡ false = ap (λ k. is_of_another (old k) f) (sym same) ∙ none in
        rw no refl

-- two meanings stay so
named_stays : (q : List ℕ) (fs : List FieldShape) → named_by q fs (Some use_of.Clash) ≡ Some use_of.Clash
named_stays q [] = refl
named_stays q (f ∷ fs) = at (name_is q f && is_of_another (Some use_of.Clash) f) (named_stays q fs)
  where
    at : (b : Bool) → named_by q fs (Some use_of.Clash) ≡ Some use_of.Clash
        → named_by q fs (if b then Some use_of.Clash else Some use_of.Clash) ≡ Some use_of.Clash
    at true ih = ih
    at false ih = ih

-- the key of one field, of number m, has another meaning where it is the name of a field of another number, and not its key
named_own : (q : List ℕ) (m : ℕ) (fs : List FieldShape)
    → is_clash (named_by q fs (Some (use_of.Own m))) ≡ list_any (λ g. name_is q g && is_of_another (Some (use_of.Own m)) g) fs
named_own q m [] = refl
named_own q m (f ∷ fs) = at (name_is q f && is_of_another (Some (use_of.Own m)) f) (named_own q m fs)
  where
    at : (b : Bool) → is_clash (named_by q fs (Some (use_of.Own m))) ≡ list_any (λ g. name_is q g && is_of_another (Some (use_of.Own m)) g) fs
        → is_clash (named_by q fs (if b then Some use_of.Clash else Some (use_of.Own m)))
        ≡ (b || list_any (λ g. name_is q g && is_of_another (Some (use_of.Own m)) g) fs)
    at true ih = ap is_clash (named_stays q fs)
    at false ih = ih

-- the key of one field stays that, or has two meanings
own_stays : (q : List ℕ) (n : ℕ) (fs : List FieldShape) → is_clash (used_by q fs (Some (use_of.Own n))) ≡ false → used_by q fs (Some (use_of.Own n)) ≡ Some (use_of.Own n)
own_stays q n [] h = refl
own_stays q n (f ∷ fs) h = at f.is_extension (bytes_eq f.json_name q) h (own_stays q n fs)
  where
    at : (e b : Bool) → is_clash (used_by q fs (if b then Some (with_use e f.number (Some (use_of.Own n))) else Some (use_of.Own n))) ≡ false
        → (is_clash (used_by q fs (Some (use_of.Own n))) ≡ false → used_by q fs (Some (use_of.Own n)) ≡ Some (use_of.Own n))
        → used_by q fs (if b then Some (with_use e f.number (Some (use_of.Own n))) else Some (use_of.Own n)) ≡ Some (use_of.Own n)
    at true true k ih = absurd (let bad : true ≡ false = sym (clash_stays q fs) ∙ k in cc)
    at false true k ih = absurd (let bad : true ≡ false = sym (clash_stays q fs) ∙ k in cc)
    at e false k ih = ih k

-- so it is the key of the field that is there
own_held : (xs : List FieldShape) (f : FieldShape) (ys : List FieldShape) → f.is_extension ≡ false
    → is_clash (used_by f.json_name (xs ++ f ∷ ys) None) ≡ false → used_by f.json_name (xs ++ f ∷ ys) None ≡ Some (use_of.Own f.number)
own_held xs f ys e h = split ∙ at (used_by f.json_name xs None) (ap is_clash (sym split) ∙ h)
  where
    q : List ℕ
    q = f.json_name

    self : bytes_eq f.json_name f.json_name ≡ true
    self = (bytes_eq-Decides f.json_name f.json_name).1 refl

    split : used_by q (xs ++ f ∷ ys) None ≡ used_by q ys (Some (with_use false f.number (used_by q xs None)))
    split = used_by-append q xs (f ∷ ys) None ∙ rw (e, self) refl

    at : (u : Option KeyUse) → is_clash (used_by q ys (Some (with_use false f.number u))) ≡ false
        → used_by q ys (Some (with_use false f.number u)) ≡ Some (use_of.Own f.number)
    at None k = own_stays q f.number ys k
    at (Some (use_of.Own m)) k = absurd (let bad : true ≡ false = sym (clash_stays q ys) ∙ k in cc)
    at (Some use_of.Extension) k = absurd (let bad : true ≡ false = sym (clash_stays q ys) ∙ k in cc)
    at (Some use_of.Clash) k = absurd (let bad : true ≡ false = sym (clash_stays q ys) ∙ k in cc)

-- the field has this number, if it has the key
abbrev is_it : List ℕ → ℕ → FieldShape → Bool
is_it q m g = not (json_name_is q g) || (g.number == m)

-- and no other field has the key
alone : (q : List ℕ) (m : ℕ) (fs : List FieldShape) (u : Option KeyUse) → used_by q fs u ≡ Some (use_of.Own m) → list_all (is_it q m) fs ≡ true
alone q m [] u h = refl
alone q m (g ∷ fs) u h = at g.is_extension (bytes_eq g.json_name q) u h (alone q m fs)
  where
    clash_is_not : used_by q fs (Some use_of.Clash) ≡ Some (use_of.Own m) → ⊥
    clash_is_not k = let bad : true ≡ false = sym (clash_stays q fs) ∙ ap is_clash k in cc

    at : (x b : Bool) (u : Option KeyUse) → used_by q fs (if b then Some (with_use x g.number u) else u) ≡ Some (use_of.Own m)
        → ((u : Option KeyUse) → used_by q fs u ≡ Some (use_of.Own m) → list_all (is_it q m) fs ≡ true)
        → ((not (not x && b) || (g.number == m)) && list_all (is_it q m) fs) ≡ true
    at true b u k ih = ih (if b then Some (with_use true g.number u) else u) k
    at false false u k ih = ih u k
    at false true None k ih =
        let stays : used_by q fs (Some (use_of.Own g.number)) ≡ Some (use_of.Own g.number) = own_stays q g.number fs (ap is_clash k) in
        let same : g.number ≡ m = (let e : Some (use_of.Own g.number) ≡ Some (use_of.Own m) = sym stays ∙ k in cc) in
        let yes' : (g.number == m) ≡ true = grind (arith, nat_tests) in
        rw (yes', ih (Some (use_of.Own g.number)) k) refl
    at false true (Some (use_of.Own n)) k ih = absurd (clash_is_not k)
    at false true (Some use_of.Extension) k ih = absurd (clash_is_not k)
    at false true (Some use_of.Clash) k ih = absurd (clash_is_not k)

-- so its key is the name of another field where it is that, and not that field's key
same_others : (q : List ℕ) (m : ℕ) (fs : List FieldShape) → list_all (is_it q m) fs ≡ true
    → list_any (λ g. name_is q g && is_of_another (Some (use_of.Own m)) g) fs ≡ list_any (λ g. name_is q g && not (g.number == m)) fs
same_others q m [] h = refl
same_others q m (g ∷ fs) h =
    ap (λ b. b || list_any (λ g. name_is q g && is_of_another (Some (use_of.Own m)) g) fs)
    (at g.is_extension (bytes_eq g.name q) (bytes_eq g.name g.json_name) refl refl (g.number == m) parts.0)
    ∙ ap (λ b. (name_is q g && not (g.number == m)) || b) (same_others q m fs parts.1)
  where
    and_parts : (a b : Bool) → (a && b) ≡ true → (a ≡ true) × (b ≡ true)
    and_parts true b k = (refl, k)
    and_parts false b k = absurd (cc)

    parts : (is_it q m g ≡ true) × (list_all (is_it q m) fs ≡ true)
    parts = and_parts (is_it q m g) (list_all (is_it q m) fs) h

    at : (x e s : Bool) → bytes_eq g.name q ≡ e → bytes_eq g.name g.json_name ≡ s → (n : Bool) → (not (not x && bytes_eq g.json_name q) || n) ≡ true
        → ((not x && e) && (not x && (not s && not n))) ≡ ((not x && e) && not n)
    at true e s k l n h = refl
    at false false s k l n h = refl
    at false true false k l n h = refl
    at false true true k l true h = refl
    at false true true k l false h =
        let key : g.name ≡ q = (bytes_eq-Decides g.name q).0 k in
        let json : g.name ≡ g.json_name = (bytes_eq-Decides g.name g.json_name).0 l in
        let same : bytes_eq g.json_name q ≡ true = (bytes_eq-Decides g.json_name q).1 (sym json ∙ key) in
        absurd (let bad : false ≡ true = sym (ap (λ b. not (not false && b) || false) same) ∙ h in cc)

clash_only : (u : Option KeyUse) → is_clash u ≡ true → u ≡ Some use_of.Clash
clash_only None h = absurd (cc)
clash_only (Some (use_of.Own n)) h = absurd (cc)
clash_only (Some use_of.Extension) h = absurd (cc)
clash_only (Some use_of.Clash) h = refl

-- the key of a field has two meanings by all names where it has so by the JSON names, or is the name of another field
meaning_is : (xs : List FieldShape) (f : FieldShape) (ys : List FieldShape) → f.is_extension ≡ false
    → is_clash (use_by_names f.json_name (xs ++ f ∷ ys))
    ≡ (is_clash (used_by f.json_name (xs ++ f ∷ ys) None) || is_name_of_another (xs ++ f ∷ ys) f)
meaning_is xs f ys e = at (is_clash (used_by f.json_name (xs ++ f ∷ ys) None)) refl
  where
    fs : List FieldShape
    fs = xs ++ f ∷ ys

    at : (b : Bool) → is_clash (used_by f.json_name fs None) ≡ b
        → is_clash (named_by f.json_name fs (used_by f.json_name fs None)) ≡ (b || is_name_of_another fs f)
    at true k = ap (λ u. is_clash (named_by f.json_name fs u)) (clash_only (used_by f.json_name fs None) k) ∙ ap is_clash (named_stays f.json_name fs)
    at false k =
        let is : used_by f.json_name fs None ≡ Some (use_of.Own f.number) = own_held xs f ys e k in
        ap (λ u. is_clash (named_by f.json_name fs u)) is
        ∙ named_own f.json_name f.number fs
        ∙ same_others f.json_name f.number fs (alone f.json_name f.number fs None is)

-- ---- the least key

in_order : (a b c d : Bool) → (((a || (true && b)) || d) || c) ≡ (((a || c) || b) || (true && d))
in_order true b c d = refl
in_order false true true d = refl
in_order false true false d = refl
in_order false false true true = refl
in_order false false true false = refl
in_order false false false true = refl
in_order false false false false = refl

own_there : (xs : List FieldShape) (f : FieldShape) (ys : List FieldShape) → f.is_extension ≡ false → nat_le 1 (own f.json_name (xs ++ f ∷ ys)) ≡ true
own_there [] f ys e = ap (nat_le 1) (own_cons f.json_name f ys) ∙ rw (e, (bytes_eq-Decides f.json_name f.json_name).1 refl) (at_least_one (own f.json_name ys))
own_there (x ∷ xs) f ys e =
    ap (nat_le 1) (own_cons f.json_name x (xs ++ f ∷ ys)) ∙ at (not x.is_extension && bytes_eq x.json_name f.json_name) (own_there xs f ys e)
  where
    at : (b : Bool) → nat_le 1 (own f.json_name (xs ++ f ∷ ys)) ≡ true
        → nat_le 1 (if b then suc (own f.json_name (xs ++ f ∷ ys)) else own f.json_name (xs ++ f ∷ ys)) ≡ true
    at true ih = at_least_one (own f.json_name (xs ++ f ∷ ys))
    at false ih = ih

clashing_seam : (xs : List FieldShape) (f : FieldShape) (ys : List FieldShape)
    → is_clashing (use_by_names f.json_name (xs ++ f ∷ ys)) f ≡ clashes ByAnyName (xs ++ f ∷ ys) f
clashing_seam xs f ys = at f.is_extension refl
  where
    at : (e : Bool) → f.is_extension ≡ e
        → (not e && (is_clash (use_by_names f.json_name (xs ++ f ∷ ys)) || is_type_key f.json_name))
        ≡ (not e && (((is_shared (xs ++ f ∷ ys) f.json_name || is_type_key f.json_name) || is_of_extension (xs ++ f ∷ ys) f.json_name)
        || (true && is_name_of_another (xs ++ f ∷ ys) f)))
    at true e = refl
    at false e =
        rw (meaning_is xs f ys e, clash_is f.json_name (xs ++ f ∷ ys), own_there xs f ys e)
        (in_order (is_shared (xs ++ f ∷ ys) f.json_name) (is_of_extension (xs ++ f ∷ ys) f.json_name) (is_type_key f.json_name)
        (is_name_of_another (xs ++ f ∷ ys) f))

split_at : {X : Type 0} (xs : List X) (i : ℕ) (x : X) → i < length xs → x ≡ get_or xs i x → xs ≡ take i xs ++ x ∷ drop (suc i) xs
split_at [] i x h is = absurd (omega arith)
split_at (y ∷ xs) zero x h is = ap (λ z. z ∷ xs) (sym is)
split_at (y ∷ xs) (suc i) x h is = ap (λ zs. y ∷ zs) (split_at xs i x (omega arith) is)

drop_here : {X : Type 0} (xs : List X) (i : ℕ) (x : X) → i < length xs → x ≡ get_or xs i x → drop i xs ≡ x ∷ drop (suc i) xs
drop_here [] i x h is = absurd (omega arith)
drop_here (y ∷ xs) zero x h is = ap (λ z. z ∷ xs) (sym is)
drop_here (y ∷ xs) (suc i) x h is = drop_here xs i x (omega arith) is

clashing_is : (fs : List FieldShape) (i : ℕ) (f : FieldShape) → i < length fs → f ≡ get_or fs i f → is_clashing (use_by_names f.json_name fs) f ≡ clashes ByAnyName fs f
clashing_is fs i f within is =
    let e = split_at fs i f within is in
    ap (λ xs. is_clashing (use_by_names f.json_name xs) f) e ∙ clashing_seam (take i fs) f (drop (suc i) fs) ∙ ap (λ xs. clashes ByAnyName xs f) (sym e)

-- the least key at fault of these fields
abbrev pub least_in : List FieldShape → List FieldShape → Option (List ℕ)
least_in fs gs = least_key (map (λ f. f.json_name) (filter (clashes ByAnyName fs) gs))

least_cons : (fs : List FieldShape) (g : FieldShape) (gs : List FieldShape) → least_in fs (g ∷ gs) ≡ least_with (clashes ByAnyName fs g) g.json_name (least_in fs gs)
least_cons fs g gs = at (clashes ByAnyName fs g)
  where
    at : (b : Bool) → least_key (map (λ (f : FieldShape). f.json_name) (if b then g ∷ filter (clashes ByAnyName fs) gs else filter (clashes ByAnyName fs) gs))
        ≡ least_with b g.json_name (least_in fs gs)
    at true = refl
    at false = refl

-- the least key with the field before
pub least_more : (fs : List FieldShape) (left i : ℕ) (f : FieldShape) (u : List ℕ → Option KeyUse) (old new : Option (List ℕ)) → left ≡ i + 1 → i < length fs
    → f ≡ get_or fs i f → ((q : List ℕ) → u q ≡ use_by_names q fs) → old ≡ least_in fs (drop left fs)
    → new ≡ least_with (is_clashing (u f.json_name) f) f.json_name old → new ≡ least_in fs (drop i fs)
least_more fs left i f u old new next within is uses so step =
    let after : left ≡ suc i = omega arith in
    step
    ∙ ap (λ b. least_with b f.json_name old) (ap (λ v. is_clashing v f) (uses f.json_name) ∙ clashing_is fs i f within is)
    ∙ ap (least_with (clashes ByAnyName fs f) f.json_name) (so ∙ ap (λ n. least_in fs (drop n fs)) after)
    ∙ sym (least_cons fs f (drop (suc i) fs))
    ∙ ap (least_in fs) (sym (drop_here fs i f within is))
