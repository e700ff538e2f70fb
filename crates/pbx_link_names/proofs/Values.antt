-- Values under names before and after a change.
use Rattle.std.proofs.Common.{◌≡◌, ◌∙◌, ℕ, ◌+◌, ◌<◌, Bool, true, false, cond, List, [], ◌∷◌, ◌++◌, ◌||◌, length, take, get_or, Bor, refl, ap, sym, subst}
use Rattle.std.specs.Prelude.{Option, Some, None, Result, Ok, Err, OnErr, OnOk, is_some, is_err}
use Rattle.std.specs.Str.{bytes_eq}
use Rattle.std.specs.Cmp.Lexicographic.{bytes_decides, nat_list_eq_equiv}
use Rattle.std.specs.List.{list_any}
use Rattle.std.specs.Option.{option_or, option_to_list, IsSome}
use Rattle.std.proofs.lemmas.List.{take_more}
use Rattle.std.proofs.lemmas.List.Folds.{list_any-append}
use Rattle.pbx_link_names.specs.Names.{first_under, without, without_items}

-- a fact that holds, whatever the result
pub on_any_err : {U E : Type 0} {P : Type 0} (result : Result U E) → P → OnErr result P
on_any_err (Ok u) p = tt
on_any_err (Err e) p = p

-- equal names are equal either way
pub turned : (a b : List ℕ) → bytes_eq a b ≡ bytes_eq b a
turned = nat_list_eq_equiv.symm

any_not : {V : Type 0} (a b : Bool) (v : Option V) → cond b None (cond a None v) ≡ cond (a || (b || false)) None v
any_not true true v = refl
any_not true false v = refl
any_not false true v = refl
any_not false false v = refl

-- what is left under a name, where what is under one name more is taken out
pub removed_more : {V : Type 0} (q : List ℕ) (names : List (Bor (List ℕ))) (i : ℕ) (name : Bor (List ℕ)) (before now after : Option V) → i < length names → name ≡ get_or names i name
    → now ≡ cond (list_any (λ n. bytes_eq q n.now) (take i names)) None before → after ≡ cond (bytes_eq name.now q) None now
    → after ≡ cond (list_any (λ n. bytes_eq q n.now) (take (i + 1) names)) None before
removed_more {V} q names i name before now after lt is so_far here =
    let t : Bor (List ℕ) → Bool = λ n. bytes_eq q n.now in
    let a : list_any t (take (i + 1) names) ≡ list_any t (take i names) || (bytes_eq q name.now || false) =
    ap (list_any t) (take_more names i name lt) ∙ list_any-append t (take i names) (get_or names i name ∷ []) ∙ ap (λ (n : Bor (List ℕ)). list_any t (take i names) || (bytes_eq q n.now || false)) (sym is) in
    here ∙ ap (λ (b : Bool). cond b None now) (turned name.now q) ∙ ap (cond (bytes_eq q name.now) None) so_far ∙ any_not (list_any t (take i names)) (bytes_eq q name.now) before ∙ ap (λ (b : Bool). cond b None before) (sym a)

or_none : {V : Type 0} (x : Option V) → x ≡ option_or x None
or_none None = refl
or_none (Some v) = refl

or_some : {V : Type 0} (x y : Option V) → is_some x ≡ true → x ≡ option_or x y
or_some None y h = cc
or_some (Some v) y h = refl

or_twice : {V : Type 0} (x y z : Option V) → option_or (option_or x y) z ≡ option_or x (option_or y z)
or_twice None y z = refl
or_twice (Some v) y z = refl

or_put : {V : Type 0} (x y : Option V) → is_some x ≡ false → y ≡ option_or x y
or_put None y h = refl
or_put (Some v) y h = cc

none_of : {V : Type 0} (x : Option V) → is_some x ≡ false → x ≡ None
none_of None h = refl
none_of (Some v) h = cc

kept_at : {V : Type 0} (f : List ℕ → Option V) (n q : List ℕ) (v : V) → is_some (f n) ≡ true → (b : Bool) → bytes_eq n q ≡ b → f q ≡ option_or (f q) (cond b (Some v) None)
kept_at {V} f n q v h true e = subst (λ (x : List ℕ). f x ≡ option_or (f x) (Some v)) ((bytes_decides n q).0 e) (or_some (f n) (Some v) h)
kept_at {V} f n q v h false e = or_none (f q)

-- what is under the name stays
pub kept : {V : Type 0} (f : List ℕ → Option V) (n q : List ℕ) (v : V) → is_some (f n) ≡ true → f q ≡ option_or (f q) (cond (bytes_eq n q) (Some v) None)
kept f n q v h = kept_at f n q v h (bytes_eq n q) refl

put_at : {V : Type 0} (f : List ℕ → Option V) (n q : List ℕ) (v : V) → is_some (f n) ≡ false → (b : Bool) → bytes_eq n q ≡ b → cond b (Some v) (f q) ≡ option_or (f q) (cond b (Some v) None)
put_at {V} f n q v h true e = subst (λ (x : List ℕ). Some v ≡ option_or (f x) (Some v)) ((bytes_decides n q).0 e) (or_put (f n) (Some v) h)
put_at {V} f n q v h false e = or_none (f q)

-- the value is put under the name
pub put : {V : Type 0} (f : List ℕ → Option V) (n q : List ℕ) (v : V) → is_some (f n) ≡ false → cond (bytes_eq n q) (Some v) (f q) ≡ option_or (f q) (cond (bytes_eq n q) (Some v) None)
put f n q v h = put_at f n q v h (bytes_eq n q) refl

undone_at : {V : Type 0} (f g : List ℕ → Option V) (n q : List ℕ) (a b : Bool) → bytes_eq n q ≡ b → is_some (f n) ≡ false → (bytes_eq n q ≡ false → g q ≡ f q) → cond (a || (b || false)) None (g q) ≡ cond a None (f q)
undone_at f g n q true true e h same = refl
undone_at f g n q true false e h same = refl
undone_at {V} f g n q false true e h same = subst (λ (x : List ℕ). None ≡ f x) ((bytes_decides n q).0 e) (sym (none_of (f n) h))
undone_at f g n q false false e h same = same e

-- with one name more taken out, under which nothing was
pub undone : {V : Type 0} (f g : List ℕ → Option V) (names : List (Bor (List ℕ))) (n : Bor (List ℕ)) (q : List ℕ) → is_some (f n.now) ≡ false → (bytes_eq n.now q ≡ false → g q ≡ f q)
    → without q (names ++ n ∷ []) (g q) ≡ without q names (f q)
undone {V} f g names n q h same =
    let t : Bor (List ℕ) → Bool = λ m. bytes_eq q m.now in
    ap (λ (b : Bool). cond b None (g q)) (list_any-append t names (n ∷ []) ∙ ap (λ (b : Bool). list_any t names || (b || false)) (turned q n.now))
    ∙ undone_at f g n.now q (list_any t names) (bytes_eq n.now q) refl h same

lookup_push : {V : Type 0} (q : List ℕ) (xs : List (List ℕ × V)) (x : List ℕ × V) → first_under q (xs ++ x ∷ []) ≡ option_or (first_under q xs) (cond (bytes_eq x.0 q) (Some x.1) None)
lookup_push {V} q [] x = ap (λ (b : Bool). cond b (Some x.1) None) (turned q x.0)
lookup_push {V} q (y ∷ ys) x = lookup_at (lookup_push q ys x) (bytes_eq q y.0)
  where
    lookup_at : first_under q (ys ++ x ∷ []) ≡ option_or (first_under q ys) (cond (bytes_eq x.0 q) (Some x.1) None)
        → (b : Bool) → cond b (Some y.1) (first_under q (ys ++ x ∷ [])) ≡ option_or (cond b (Some y.1) (first_under q ys)) (cond (bytes_eq x.0 q) (Some x.1) None)
    lookup_at h true = refl
    lookup_at h false = h

-- what is under a name after one item more
pub item_more : {V : Type 0} (q : List ℕ) (items : List (List ℕ × V)) (i : ℕ) (x : List ℕ × V) (before now after : Option V) → i < length items → x ≡ get_or items i x
    → now ≡ option_or before (first_under q (take i items)) → after ≡ option_or now (cond (bytes_eq x.0 q) (Some x.1) None) → after ≡ option_or before (first_under q (take (i + 1) items))
item_more {V} q items i x before now after lt is so_far here =
    let last : Option V = cond (bytes_eq x.0 q) (Some x.1) None in
    let all : first_under q (take (i + 1) items) ≡ option_or (first_under q (take i items)) last =
    ap (first_under q) (take_more items i x lt ∙ ap (λ (y : List ℕ × V). take i items ++ y ∷ []) (sym is)) ∙ lookup_push q (take i items) x in
    here ∙ ap (λ (o : Option V). option_or o last) so_far ∙ or_twice before (first_under q (take i items)) last ∙ ap (option_or before) (sym all)

-- with a new name noted, other names keep what is under them
pub noted : {V : Type 0} (f g : List ℕ → Option V) (names : List (Bor (List ℕ))) (n : Bor (List ℕ)) (q : List ℕ) (v : V) → None ≡ f n.now
    → g q ≡ cond (bytes_eq n.now q) (Some v) (f q) → without q (names ++ n ∷ []) (g q) ≡ without q names (f q)
noted {V} f g names n q v absent put =
    undone f g names n q (ap (λ (o : Option V). is_some o) (sym absent)) (λ other. put ∙ ap (λ (b : Bool). cond b (Some v) (f q)) other)

-- what was under the name, put back
pub put_back : {V : Type 0} (f g h : List ℕ → Option V) (n q : List ℕ) (v w : V) → Some w ≡ f n → g q ≡ cond (bytes_eq n q) (Some v) (f q) → h q ≡ cond (bytes_eq n q) (Some w) (g q) → h q ≡ f q
put_back {V} f g h n q v w was first then = by_test (bytes_eq n q) refl
  where
    by_test : (b : Bool) → bytes_eq n q ≡ b → h q ≡ f q
    by_test true e = then ∙ ap (λ (b : Bool). cond b (Some w) (g q)) e ∙ was ∙ ap f ((bytes_decides n q).0 e)
    by_test false e = then ∙ ap (λ (b : Bool). cond b (Some w) (g q)) e ∙ first ∙ ap (λ (b : Bool). cond b (Some v) (f q)) e

pub not_none : {V P : Type 0} (o : Option V) → None ≡ o → is_some o ≡ true → P
not_none None e h = cc
not_none (Some v) e h = cc

last_out : {X : Type 0} (xs ys : List X) (n m : X) → xs ++ n ∷ [] ≡ ys ++ m ∷ [] → ys ≡ xs
last_out [] [] n m e = refl
last_out [] (y ∷ []) n m e = absurd (cc)
last_out [] (y ∷ z ∷ ys) n m e = absurd (cc)
last_out (x ∷ []) [] n m e = absurd (cc)
last_out (x ∷ z ∷ xs) [] n m e = absurd (cc)
last_out {X} (x ∷ xs) (y ∷ ys) n m e =
    let first : y ≡ x = cc in
    let rest : xs ++ n ∷ [] ≡ ys ++ m ∷ [] = cc in
    ap (λ (z : X). z ∷ ys) first ∙ ap (λ (zs : List X). x ∷ zs) (last_out xs ys n m rest)

-- with the last item taken out again, the others are left
pub popped : {X : Type 0} (xs ys : List X) (n : X) (r : Option X) → xs ++ n ∷ [] ≡ ys ++ option_to_list r → IsSome r → ys ≡ xs
popped xs ys n None e some = absurd (cc)
popped xs ys n (Some m) e some = last_out xs ys n m e

-- what holds of a result that is no error
pub on_ok_at : {U E : Type 0} {P : Type 0} (r : Result U E) → is_err r ≡ false → OnOk r P → P
on_ok_at (Ok u) e h = h
on_ok_at (Err d) e h = cc

-- what is left under a name, where what is under the name of one item more is taken out
pub forgotten_more : {V : Type 0} (q : List ℕ) (items : List (List ℕ × V)) (i : ℕ) (x : List ℕ × V) (before now after : Option V) → i < length items → x ≡ get_or items i x
    → now ≡ without_items q (take i items) before → after ≡ cond (bytes_eq x.0 q) None now → after ≡ without_items q (take (i + 1) items) before
forgotten_more {V} q items i x before now after lt is so_far here =
    let t : List ℕ × V → Bool = λ y. bytes_eq q y.0 in
    let a : list_any t (take (i + 1) items) ≡ list_any t (take i items) || (bytes_eq q x.0 || false) =
    ap (list_any t) (take_more items i x lt) ∙ list_any-append t (take i items) (get_or items i x ∷ []) ∙ ap (λ (y : List ℕ × V). list_any t (take i items) || (bytes_eq q y.0 || false)) (sym is) in
    here ∙ ap (λ (b : Bool). cond b None now) (turned x.0 q) ∙ ap (cond (bytes_eq q x.0) None) so_far ∙ any_not (list_any t (take i items)) (bytes_eq q x.0) before ∙ ap (λ (b : Bool). cond b None before) (sym a)
