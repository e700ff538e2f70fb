-- What records mean behind a content that a message may have, a message may have.
use Rattle.std.proofs.Common.{◌≡◌, ◌⊎◌, inl, inr, ℕ, zero, suc, ◌-◌, ◌≤◌, max, Bool, true, false, not, ◌&&◌, if◌then◌else◌, List, [], ◌∷◌, ◌++◌, map, Option, Some, None, option_map, refl, sym, ap, ◌∙◌, subst, arith}
use Rattle.std.specs.Prelude.{◌==◌, option_and_then, IsTrue}
use Rattle.std.specs.List.{AllByRecursion, list_all, filter}
use Rattle.std.proofs.lemmas.Bool.Decides.{nat_tests}
use Rattle.std.proofs.lemmas.List.{map-append}
use Rattle.pbx_wire.specs.declared.rec.Rec.{Rec}
use Rattle.pbx_wire.specs.Text.{is_numbered, is_fit, all_true, depth_of}
use Rattle.pbx_wire.proofs.Written.{both, all_true-append}
use Rattle.pbx_content.specs.declared.shape.Kind.{Kind}
use Rattle.pbx_content.specs.declared.shape.Kind.TheVariants as kind
use Rattle.pbx_content.specs.declared.shape.Cardinality.{Cardinality}
use Rattle.pbx_content.specs.declared.shape.Cardinality.TheVariants.{Singular, Repeated, Map}
use Rattle.pbx_content.specs.declared.shape.Shape.{Shape}
use Rattle.pbx_content.specs.declared.shape.FieldShape.{FieldShape}
use Rattle.pbx_content.specs.Content.{Content, content, empty, get, has, Fields, no_fields, field, Val, IsAbove, IsAscending}
use Rattle.pbx_content.specs.Records.{is_of, those_of, each, flat, any, after_last, records_in}
use Rattle.pbx_content.specs.Shape.{fields_of, field_of, same_oneof, is_float, is_other, is_read_as, is_kept, is_rival}
use Rattle.pbx_content.specs.Meaning.{with_field, value, records_of, meaning, meaning_within, parts_meaning_of}
use Rattle.pbx_content.specs.Onto.{InnerOnto, from_empty, still, singular_onto, onto_by_cardinality, value_onto, value_onto_among, values_onto, layer_onto, meaning_onto, merged_of}
use Rattle.pbx_content.specs.Sound.{has_good_keys, IsProper, AreKept, has_one_member, IsSound, AreSound, IsSoundAt, depth as content_depth, fields_depth}
use Rattle.pbx_content.proofs.OntoFields.{AreAbove, values_above, IsGot, AreGot, values_got}
use Rattle.pbx_content.proofs.OntoLaw.{onto_at, onto_is, onto_empty, unbound}
use Rattle.pbx_content.proofs.OntoSplits.{after_last_part}
use Rattle.pbx_content.proofs.SoundLists.{all-flat, each-all, all-filter, all-right, all-weaken, all-both}
use Rattle.pbx_content.proofs.SoundRecords.{IsGood, AreGood, are_inside, records_good}
use Rattle.pbx_content.proofs.SoundValues.{mapped_is, bound_is, IsSoundIn, sound_in, sound_of, IsType, Keeps, nothing_sound, types, MayBe, no_value, get_sound, value_sound}

-- ---- parts of lists of records

counting_good : (n : ℕ) (p : Rec → Bool) (m : ℕ) (rs : List Rec) → AreGood n rs → AreGood n (those_of m (after_last p rs))
counting_good n p m rs g =
    let part = after_last_part p rs in
    all-filter (IsGood n) (is_of m) (after_last p rs) (all-right (IsGood n) part.0 (after_last p rs) (subst (AllByRecursion (IsGood n)) part.1 g))

-- ---- fields

-- each of these is the type's field of its number
abbrev AreListed : List FieldShape → List FieldShape → Type 0
AreListed gs hs = AllByRecursion (λ (f : FieldShape). field_of f.number gs ≡ Some f) hs

listed_more : (g : FieldShape) (gs fs : List FieldShape) → AreAbove g.number fs → AreListed gs fs → AreListed (g ∷ gs) fs
listed_more g gs [] a h = tt
listed_more g gs (f ∷ fs) a h =
    let apart : (f.number == g.number) ≡ false = grind (arith, nat_tests, a.0) in
    (rw apart h.0, listed_more g gs fs (lower f fs a) h.1)
  where
    lower : (f : FieldShape) (fs : List FieldShape) → AreAbove g.number (f ∷ fs) → AreAbove g.number fs
    lower f [] a = tt
    lower f (k ∷ fs) a = (omega (arith, a.0, a.1.0), a.1.1)

all_listed : (n : ℕ) (gs : List FieldShape) → AreAbove n gs → AreListed gs gs
all_listed n [] h = tt
all_listed n (g ∷ gs) h =
    let here : (g.number == g.number) ≡ true = grind (arith, nat_tests) in
    (rw here refl, listed_more g gs gs h.1 (all_listed g.number gs h.1))

still_sound : (shape : Shape) (n : ℕ) (gs : List FieldShape) (f : FieldShape) (rs : List Rec) (old : Option Val) → MayBe shape n f old
    → MayBe shape n f (still gs f rs old)
still_sound shape n gs f rs old h = at (any (is_rival gs f) rs)
  where
    at : (b : Bool) → MayBe shape n f (if b then None else old)
    at true = no_value shape n f
    at false = h

among_sound : (shape : Shape) (m n : ℕ) (inner : InnerOnto) → IsProper shape → Keeps shape m inner → (gs : List FieldShape) (f : FieldShape)
    → has_good_keys f.cardinality ≡ true → (old o : Option Val) (rs : List Rec) → MayBe shape (suc m) f old
    → AreGood n rs → value_onto_among shape inner gs f old rs ≡ Some o → MayBe shape (suc m) f o
among_sound shape m n inner proper ks gs f good old o rs had g e =
    let counting = those_of f.number (after_last (is_rival gs f) rs) in
    let parts = unbound (value shape (from_empty inner) f (those_of f.number rs)) (value_onto shape inner f (still gs f rs old) counting) o e in
    value_sound shape m n inner proper ks f good (still gs f rs old) o counting (still_sound shape (suc m) gs f rs old had)
    (counting_good n (is_rival gs f) f.number rs g) parts.1

values_sound : (shape : Shape) (m n : ℕ) (inner : InnerOnto) → IsProper shape → Keeps shape m inner → (gs : List FieldShape) (old : Fields) (rs : List Rec)
    → AreSound shape gs old → fields_depth old ≤ suc m → AreGood n rs
    → (hs : List FieldShape) (fs : Fields) → AreListed gs hs → IsTrue (list_all (λ (f : FieldShape). has_good_keys f.cardinality) hs)
    → values_onto shape inner gs hs old rs ≡ Some fs
    → AreSound shape gs fs × (fields_depth fs ≤ suc m)
values_sound shape m n inner proper ks gs old rs s d g [] fs l good e =
    let is : no_fields ≡ fs = cc in
    subst (λ x. AreSound shape gs x × (fields_depth x ≤ suc m)) is (tt, omega arith)
values_sound shape m n inner proper ks gs old rs s d g (h ∷ hs) fs l good e =
    at (value_onto_among shape inner gs h (get h.number old) rs) (values_onto shape inner gs hs old rs) refl refl e
    (λ fs. values_sound shape m n inner proper ks gs old rs s d g hs fs l.1 parts.1)
  where
    parts : (has_good_keys h.cardinality ≡ true) × IsTrue (list_all (λ (f : FieldShape). has_good_keys f.cardinality) hs)
    parts = both (has_good_keys h.cardinality) (list_all (λ (f : FieldShape). has_good_keys f.cardinality) hs) good

    had : MayBe shape (suc m) h (get h.number old)
    had v e =
        let is = get_sound shape gs h.number old v s e in
        (subst (λ o. IsSoundAt shape o v) l.0 is.0, omega (arith, is.1, d))

    more : (o : Option Val) (fs : Fields) → MayBe shape (suc m) h o → AreSound shape gs fs × (fields_depth fs ≤ suc m)
        → AreSound shape gs (with_field h.number o fs) × (fields_depth (with_field h.number o fs) ≤ suc m)
    more None fs o h = h
    more (Some v) fs o h =
        let is = o v refl in
        ((subst (λ o. IsSoundAt shape o v) (sym l.0) is.0, h.0), omega (arith, is.1, h.1))

    at : (x : Option (Option Val)) (y : Option Fields) → value_onto_among shape inner gs h (get h.number old) rs ≡ x
        → values_onto shape inner gs hs old rs ≡ y → option_and_then (λ v. option_map (with_field h.number v) y) x ≡ Some fs
        → ((fs : Fields) → values_onto shape inner gs hs old rs ≡ Some fs → AreSound shape gs fs × (fields_depth fs ≤ suc m))
        → AreSound shape gs fs × (fields_depth fs ≤ suc m)
    at None y p q e ih = absurd cc
    at (Some o) None p q e ih = absurd cc
    at (Some o) (Some gs') p q e ih =
        let is : with_field h.number o gs' ≡ fs = cc in
        let mine = among_sound shape m n inner proper ks gs h parts.0 (get h.number old) o rs had g p in
        subst (λ x. AreSound shape gs x × (fields_depth x ≤ suc m)) is (more o gs' mine (ih gs' q))

-- ---- members of oneofs

-- one of these fields: what holds of it holds of one of them
abbrev IsAmong : List FieldShape → FieldShape → Type 0
IsAmong gs f = (p : FieldShape → Bool) → p f ≡ true → any p gs ≡ true

among_all : (gs : List FieldShape) → AllByRecursion (IsAmong gs) gs
among_all [] = tt
among_all (g ∷ gs) = (λ p e. rw e refl, all-weaken (IsAmong gs) (IsAmong (g ∷ gs)) (λ f a p e. later p (a p e)) gs (among_all gs))
  where
    later : (p : FieldShape → Bool) → any p gs ≡ true → (if p g then true else any p gs) ≡ true
    later p e = at (p g)
      where
        at : (b : Bool) → (if b then true else any p gs) ≡ true
        at true = refl
        at false = e

all_tested : (p : FieldShape → Bool) (hs : List FieldShape) → AllByRecursion (λ f. p f ≡ true) hs → list_all p hs ≡ true
all_tested p [] h = refl
all_tested p (f ∷ hs) h = rw (h.0, all_tested p hs h.1) refl

tested_at : (p : FieldShape → Bool) (gs : List FieldShape) (f : FieldShape) → list_all p gs ≡ true → IsAmong gs f → p f ≡ true
tested_at p gs f h a = at (p f) refl
  where
    none : (gs : List FieldShape) → list_all p gs ≡ true → any (λ g. not (p g)) gs ≡ false
    none [] h = refl
    none (g ∷ gs) h = let parts = both (p g) (list_all p gs) h in rw (parts.0, none gs parts.1) refl

    at : (b : Bool) → p f ≡ b → b ≡ true
    at true e = refl
    at false e = absurd (let bad : false ≡ true = sym (none gs h) ∙ a (λ g. not (p g)) (rw e refl) in cc)

has_get : (n : ℕ) (fs : Fields) → has n fs ≡ true → (v : Val) × (get n fs ≡ Some v)
has_get n no_fields h = absurd cc
has_get n (field m v fs) h = at (n == m) h (has_get n fs)
  where
    at : (b : Bool) → (if b then true else has n fs) ≡ true → (has n fs ≡ true → (v : Val) × (get n fs ≡ Some v))
        → (w : Val) × ((if b then Some v else get n fs) ≡ Some w)
    at true h ih = (v, refl)
    at false h ih = ih h

get_has : (n : ℕ) (fs : Fields) (v : Val) → get n fs ≡ Some v → has n fs ≡ true
get_has n no_fields v h = absurd cc
get_has n (field m w fs) v h = at (n == m) h (get_has n fs v)
  where
    at : (b : Bool) → (if b then Some w else get n fs) ≡ Some v → (get n fs ≡ Some v → has n fs ≡ true) → (if b then true else has n fs) ≡ true
    at true h ih = refl
    at false h ih = ih h

other_swap : (f g : FieldShape) → is_other f g ≡ true → is_other g f ≡ true
other_swap f g e =
    let parts = both (same_oneof f.oneof g.oneof) (not (f.number == g.number)) e in
    rw (same_swap f.oneof g.oneof parts.0, apart (f.number == g.number) refl parts.1) refl
  where
    same_swap : (a b : Option ℕ) → same_oneof a b ≡ true → same_oneof b a ≡ true
    same_swap (Some a) (Some b) e = grind (arith, nat_tests)
    same_swap (Some a) None e = absurd cc
    same_swap None b e = absurd cc

    apart : (b : Bool) → (f.number == g.number) ≡ b → not b ≡ true → (g.number == f.number) ≡ false
    apart true d e = absurd cc
    apart false d e = grind (arith, nat_tests)

-- a record of a field is a rival's to each other member of its oneof
rival_by : (gs : List FieldShape) (f g : FieldShape) (r : Rec) → IsAmong gs f → is_other g f ≡ true → is_float f.kind ≡ false → is_of f.number r ≡ true
    → is_rival gs g r ≡ true
rival_by gs f g r a o plain own = a (λ h. is_other g h && is_read_as r h) (rw (o, own, plain) refl)

any_where : (p q : Rec → Bool) → ((r : Rec) → p r ≡ true → q r ≡ true) → (rs : List Rec) → any p rs ≡ true → any q rs ≡ true
any_where p q f [] e = absurd cc
any_where p q f (r ∷ rs) e = at (p r) refl (q r) refl e (any_where p q f rs)
  where
    at : (a : Bool) → p r ≡ a → (b : Bool) → q r ≡ b → (if a then true else any p rs) ≡ true → (any p rs ≡ true → any q rs ≡ true)
        → (if b then true else any q rs) ≡ true
    at a c true d e ih = refl
    at true c false d e ih = absurd (let bad : false ≡ true = sym d ∙ f r c in cc)
    at false c false d e ih = ih e

any_right : (p : Rec → Bool) (xs ys : List Rec) → any p ys ≡ true → any p (xs ++ ys) ≡ true
any_right p [] ys e = e
any_right p (x ∷ xs) ys e = at (p x) (any_right p xs ys e)
  where
    at : (b : Bool) → any p (xs ++ ys) ≡ true → (if b then true else any p (xs ++ ys)) ≡ true
    at true h = refl
    at false h = h

any_behind : (p q : Rec → Bool) (rs : List Rec) → any p (after_last q rs) ≡ true → any p rs ≡ true
any_behind p q rs e =
    let part = after_last_part q rs in
    ap (any p) part.1 ∙ any_right p part.0 (after_last q rs) e

-- Of two, each of which ends the other's count, not both are behind the last of the other.
last_two : (a b p q : Rec → Bool) → ((r : Rec) → a r ≡ true → q r ≡ true) → ((r : Rec) → b r ≡ true → p r ≡ true) → (rs : List Rec)
    → any a (after_last p rs) ≡ true → any b (after_last q rs) ≡ true → ⊥
last_two a b p q aq bp [] x y = cc
last_two a b p q aq bp (r ∷ rs) x y = at (any p rs) refl (any q rs) refl (p r) refl (q r) refl x y (last_two a b p q aq bp rs)
  where
    at : (s : Bool) → any p rs ≡ s → (t : Bool) → any q rs ≡ t → (u : Bool) → p r ≡ u → (v : Bool) → q r ≡ v
        → any a (if s then after_last p rs else (if u then rs else r ∷ rs)) ≡ true
        → any b (if t then after_last q rs else (if v then rs else r ∷ rs)) ≡ true → (any a (after_last p rs) ≡ true → any b (after_last q rs) ≡ true → ⊥) → ⊥
    at true c true d u i v j x y ih = ih x y
    at true c false d u i v j x y ih = let bad : false ≡ true = sym d ∙ any_where a q aq rs (any_behind a p rs x) in cc
    at false c true d u i v j x y ih = let bad : false ≡ true = sym c ∙ any_where b p bp rs (any_behind b q rs y) in cc
    at false c false d true i v j x y ih = let bad : false ≡ true = sym d ∙ any_where a q aq rs x in cc
    at false c false d false i true j x y ih = let bad : false ≡ true = sym c ∙ any_where b p bp rs y in cc
    at false c false d false i false j x y ih = first (a r) refl x
      where
        first : (w : Bool) → a r ≡ w → (if w then true else any a rs) ≡ true → ⊥
        first true e x = let bad : false ≡ true = sym j ∙ aq r e in cc
        first false e x = let bad : false ≡ true = sym d ∙ any_where a q aq rs x in cc

-- ---- why a field has a value

nothing_none : (shape : Shape) (inner : InnerOnto) (f : FieldShape) → value_onto shape inner f None [] ≡ Some None
nothing_none shape inner f = at (is_float f.kind) f.cardinality
  where
    single : (k : Kind) → singular_onto shape inner f k None [] ≡ Some None
    single (kind.Message t) = refl
    single k = refl

    at : (b : Bool) (c : Cardinality) → (if b then Some None else onto_by_cardinality shape inner f c None []) ≡ Some None
    at true c = refl
    at false Singular = single f.kind
    at false Repeated = refl
    at false (Map key) = refl

-- Records of it count, or it had one and no record of another member of its oneof came.
abbrev Reason : List FieldShape → Fields → List Rec → FieldShape → Type 0
Reason gs old rs f = (any (is_of f.number) (after_last (is_rival gs f) rs) ≡ true) ⊎ ((any (is_rival gs f) rs ≡ false) × (has f.number old ≡ true))

reason : (shape : Shape) (inner : InnerOnto) (gs : List FieldShape) (old : Fields) (rs : List Rec) (fs : Fields) (f : FieldShape)
    → IsGot shape inner gs old rs fs f → has f.number fs ≡ true
    → (is_float f.kind ≡ false) × Reason gs old rs f
reason shape inner gs old rs fs f got h = (plain (is_float f.kind) refl, at (any (is_of f.number) (after_last (is_rival gs f) rs)) refl)
  where
    there : (v : Val) × (get f.number fs ≡ Some v)
    there = has_get f.number fs h

    is : value_onto shape inner f (still gs f rs (get f.number old)) (those_of f.number (after_last (is_rival gs f) rs)) ≡ Some (Some there.0)
    is =
        (unbound (value shape (from_empty inner) f (those_of f.number rs))
        (value_onto shape inner f (still gs f rs (get f.number old)) (those_of f.number (after_last (is_rival gs f) rs))) (get f.number fs) got).1
        ∙ ap (λ (x : Option Val). Some x) there.1

    plain : (b : Bool) → is_float f.kind ≡ b → b ≡ false
    plain false e = refl
    plain true e = absurd (float_none e is)
      where
        float_none : is_float f.kind ≡ true
            → value_onto shape inner f (still gs f rs (get f.number old)) (those_of f.number (after_last (is_rival gs f) rs)) ≡ Some (Some there.0) → ⊥
        float_none e d = let bad = rw e at d in cc

    none_of : (p : Rec → Bool) (xs : List Rec) → any p xs ≡ false → filter p xs ≡ []
    none_of p [] e = refl
    none_of p (x ∷ xs) e = let ih = none_of p xs in grind (arith, ih)

    at : (b : Bool) → any (is_of f.number) (after_last (is_rival gs f) rs) ≡ b → Reason gs old rs f
    at true e = inl e
    at false e =
        by (any (is_rival gs f) rs) refl (get f.number old) refl
        (ap (value_onto shape inner f (still gs f rs (get f.number old))) (sym (none_of (is_of f.number) (after_last (is_rival gs f) rs) e)) ∙ is)
      where
        by : (c : Bool) → any (is_rival gs f) rs ≡ c → (o : Option Val) → get f.number old ≡ o
            → value_onto shape inner f (if c then None else o) [] ≡ Some (Some there.0) → Reason gs old rs f
        by true d o g k = absurd (let bad = sym (nothing_none shape inner f) ∙ k in cc)
        by false d None g k = absurd (let bad = sym (nothing_none shape inner f) ∙ k in cc)
        by false d (Some w) g k = inr (d, get_has f.number old w g)

one_member : (shape : Shape) (inner : InnerOnto) (gs : List FieldShape) (old : Fields) (rs : List Rec) (fs : Fields) (f g : FieldShape)
    → IsTrue (has_one_member gs old) → IsAmong gs f → IsAmong gs g → IsGot shape inner gs old rs fs f
    → IsGot shape inner gs old rs fs g → is_other f g ≡ true → has f.number fs ≡ true → has g.number fs ≡ true → ⊥
one_member shape inner gs old rs fs f g one a b p q o h k =
    let x = reason shape inner gs old rs fs f p h in
    let y = reason shape inner gs old rs fs g q k in
    let rivals_g : (r : Rec) → is_of f.number r ≡ true → is_rival gs g r ≡ true = λ r e. rival_by gs f g r a (other_swap f g o) x.0 e in
    let rivals_f : (r : Rec) → is_of g.number r ≡ true → is_rival gs f r ≡ true = λ r e. rival_by gs g f r b o y.0 e in
    at rivals_g rivals_f x.1 y.1
  where
    before : has f.number old ≡ true → has g.number old ≡ true → ⊥
    before d e =
        let inside = tested_at (λ g. not (is_other f g && has f.number old && has g.number old)) gs g
        (tested_at (λ f. list_all (λ g. not (is_other f g && has f.number old && has g.number old)) gs) gs f one a) b in
        let bad = rw (o, d, e) at inside in
        cc

    at : ((r : Rec) → is_of f.number r ≡ true → is_rival gs g r ≡ true) → ((r : Rec) → is_of g.number r ≡ true → is_rival gs f r ≡ true) → Reason gs old rs f
        → Reason gs old rs g → ⊥
    at u v (inl x) (inl y) = last_two (is_of f.number) (is_of g.number) (is_rival gs f) (is_rival gs g) u v rs x y
    at u v (inl x) (inr y) =
        let bad : false ≡ true = sym y.0 ∙ any_where (is_of f.number) (is_rival gs g) u rs (any_behind (is_of f.number) (is_rival gs f) rs x) in cc
    at u v (inr x) (inl y) =
        let bad : false ≡ true = sym x.0 ∙ any_where (is_of g.number) (is_rival gs f) v rs (any_behind (is_of g.number) (is_rival gs g) rs y) in cc
    at u v (inr x) (inr y) = before x.1 y.1

not_three : (a b c : Bool) → (a ≡ true → b ≡ true → c ≡ true → ⊥) → not (a && b && c) ≡ true
not_three true true true f = absurd (f refl refl refl)
not_three true true false f = refl
not_three true false c f = refl
not_three false b c f = refl

members_sound : (shape : Shape) (inner : InnerOnto) (gs : List FieldShape) (old : Fields) (rs : List Rec) (fs : Fields) → IsTrue (has_one_member gs old)
    → AreGot shape inner gs old rs fs gs → IsTrue (has_one_member gs fs)
members_sound shape inner gs old rs fs one got = outer
  where
    every : AllByRecursion (λ f. IsAmong gs f × IsGot shape inner gs old rs fs f) gs
    every = all-both (IsAmong gs) (IsGot shape inner gs old rs fs) gs (among_all gs) got

    outer : list_all (λ f. list_all (λ g. not (is_other f g && has f.number fs && has g.number fs)) gs) gs ≡ true
    outer =
        all_tested (λ f. list_all (λ g. not (is_other f g && has f.number fs && has g.number fs)) gs) gs
        (all-weaken (λ f. IsAmong gs f × IsGot shape inner gs old rs fs f)
        (λ f. list_all (λ g. not (is_other f g && has f.number fs && has g.number fs)) gs ≡ true) inside gs every)
      where
        inside : (f : FieldShape) → IsAmong gs f × IsGot shape inner gs old rs fs f
            → list_all (λ g. not (is_other f g && has f.number fs && has g.number fs)) gs ≡ true
        inside f h =
            all_tested (λ g. not (is_other f g && has f.number fs && has g.number fs)) gs
            (all-weaken (λ g. IsAmong gs g × IsGot shape inner gs old rs fs g) (λ g. not (is_other f g && has f.number fs && has g.number fs) ≡ true)
            (λ g k. not_three (is_other f g) (has f.number fs) (has g.number fs) (one_member shape inner gs old rs fs f g one h.0 k.0 h.1 k.1)) gs every)

-- ---- kept records

kept_unread : (p : Rec → Bool) (rs : List Rec) → all_true (map p (filter p rs)) ≡ true
kept_unread p [] = refl
kept_unread p (r ∷ rs) = at (p r) refl (kept_unread p rs)
  where
    at : (b : Bool) → p r ≡ b → all_true (map p (filter p rs)) ≡ true → all_true (map p (if b then r ∷ filter p rs else filter p rs)) ≡ true
    at true e ih = rw (e, ih) refl
    at false e ih = ih

tested_more : (p : Rec → Bool) (xs ys : List Rec) → all_true (map p xs) ≡ true → all_true (map p ys) ≡ true → all_true (map p (xs ++ ys)) ≡ true
tested_more p xs ys h k = ap all_true (map-append p xs ys) ∙ all_true-append (map p xs) (map p ys) h k

depth_more : (n : ℕ) (xs ys : List Rec) → depth_of xs ≤ n → depth_of ys ≤ n → depth_of (xs ++ ys) ≤ n
depth_more n [] ys h k = k
depth_more n (x ∷ xs) ys h k = let ih = depth_more n xs ys (omega (arith, h)) k in omega (arith, h, ih)

kept_sound : (n : ℕ) (gs : List FieldShape) (ks rs : List Rec) → AreKept gs ks → AreGood n rs → AreKept gs (ks ++ filter (is_kept gs) rs)
kept_sound n gs ks rs h g =
    let new = are_inside n (filter (is_kept gs) rs) (all-filter (IsGood n) (is_kept gs) rs g) in
    record {
      unread = tested_more (is_kept gs) ks (filter (is_kept gs) rs) h.unread (kept_unread (is_kept gs) rs);
      numbered = tested_more is_numbered ks (filter (is_kept gs) rs) h.numbered new.numbered;
      fit = tested_more is_fit ks (filter (is_kept gs) rs) h.fit new.fit;
    }

-- ---- all

above_ascends : (k : ℕ) (vs : Fields) → IsAbove k vs → IsAscending vs
above_ascends k no_fields h = tt
above_ascends k (field j v vs) h = h.1

layer_sound : (shape : Shape) (m n : ℕ) (inner : InnerOnto) → IsProper shape → Keeps shape m inner → n ≤ suc m → (gs : List FieldShape) → IsType gs
    → (old d : Content) (rs : List Rec) → IsSoundIn shape gs old → content_depth old ≤ suc m
    → AreGood n rs → layer_onto shape inner gs old rs ≡ Some d → IsSoundIn shape gs d × (content_depth d ≤ suc m)
layer_sound shape m n inner proper ks le gs type (content fs js) d rs s deep g e =
    let vs = mapped_is (λ vs. content vs (js ++ filter (is_kept gs) rs)) (values_onto shape inner gs gs fs rs) d e in
    subst (λ x. IsSoundIn shape gs x × (content_depth x ≤ suc m)) vs.2 (whole vs.0 vs.1)
  where
    whole : (vs : Fields) → values_onto shape inner gs gs fs rs ≡ Some vs
        → IsSoundIn shape gs (content vs (js ++ filter (is_kept gs) rs)) × (content_depth (content vs (js ++ filter (is_kept gs) rs)) ≤ suc m)
    whole vs e =
        let values = values_sound shape m n inner proper ks gs fs rs s.1 (omega (arith, deep)) g gs vs (all_listed 0 gs type.ascends) type.keyed e in
        let new = are_inside n (filter (is_kept gs) rs) (all-filter (IsGood n) (is_kept gs) rs g) in
        let deepest = depth_more (suc m) js (filter (is_kept gs) rs) (omega (arith, deep)) (omega (arith, new.deep)) in (
          (
            above_ascends 0 vs (values_above shape inner gs fs rs 0 gs vs type.ascends e),
            values.0,
            members_sound shape inner gs fs rs vs s.2 (values_got shape inner gs fs rs 0 gs vs type.ascends e),
            kept_sound n gs js rs s.3 g,
          ),
          omega (arith, values.1, deepest),
        )

-- what records mean behind a content that may be one, where payloads keep to that
sound_by : (shape : Shape) (levels m n : ℕ) → IsProper shape → Keeps shape m (onto_at shape levels) → n ≤ suc m → (gs : List FieldShape) → IsType gs
    → (old d : Content) (rs : List Rec) → IsSoundIn shape gs old → content_depth old ≤ suc m
    → AreGood n rs → meaning_onto shape levels gs old rs ≡ Some d → IsSoundIn shape gs d × (content_depth d ≤ suc m)
sound_by shape levels m n proper ks le gs type old d rs s deep g e =
    layer_sound shape m n (onto_at shape levels) proper ks le gs type old d rs s deep g (sym (onto_is shape levels gs old rs) ∙ e)

payloads_good : (l : ℕ) (bs : List (List ℕ)) (rs : List Rec) → records_of l bs ≡ Some rs → AreGood l rs
payloads_good l bs rs e =
    let rss = mapped_is flat (each (records_in l) bs) rs e in
    subst (AreGood l) rss.2 (all-flat (IsGood l) rss.0 (each-all (AreGood l) (records_in l) (records_good l) bs rss.0 rss.1))

onto_keeps : (shape : Shape) (levels m : ℕ) → IsProper shape → levels ≤ m → Keeps shape m (onto_at shape levels)
unfolding onto_at
onto_keeps shape zero m proper le = record { keeps = λ gs c d bs type s deep e. absurd cc }
onto_keeps shape (suc l) zero proper le = absurd (omega arith)
onto_keeps shape (suc l) (suc m) proper le = record {
  keeps = λ gs c d bs type s deep e.
      let rs = bound_is (meaning_onto shape l gs c) (records_of l bs) d e in
      let is =
      sound_by shape l m l proper (onto_keeps shape l m proper (omega arith)) (omega arith) gs type c d rs.0 s deep (payloads_good l bs rs.0 rs.1) rs.2 in
      (is.0, is.1, omega arith);
}

-- What bytes mean, a message may have, and it nests at most one level deeper than they may.
within_sound : (shape : Shape) (levels n t : ℕ) (bytes : List ℕ) (c : Content) → IsProper shape → n ≤ suc levels
    → option_and_then (meaning shape levels (fields_of shape t)) (records_in n bytes) ≡ Some c
    → IsSound shape t c × (content_depth c ≤ suc levels)
within_sound shape levels n t bytes c proper le e =
    let gs = fields_of shape t in
    let rs = bound_is (meaning shape levels gs) (records_in n bytes) c e in
    let is =
    sound_by shape levels levels n proper (onto_keeps shape levels levels proper (omega arith)) le gs (types shape proper t) empty c rs.0
    (nothing_sound shape gs) (omega arith) (records_good n bytes rs.0 rs.1) (onto_empty shape levels gs rs.0 ∙ rs.2) in
    (sound_of shape t c is.0, is.1)

pub meaning_sound : (shape : Shape) (levels t : ℕ) (bytes : List ℕ) (c : Content) → IsProper shape
    → meaning_within shape levels (fields_of shape t) bytes ≡ Some c → IsSound shape t c × (content_depth c ≤ suc levels)
meaning_sound shape levels t bytes c proper e = within_sound shape levels levels t bytes c proper (omega arith) e

pub parts_sound : (shape : Shape) (t : ℕ) (bytes : List ℕ) (c : Content) → IsProper shape → parts_meaning_of shape t bytes ≡ Some c
    → IsSound shape t c
parts_sound shape t bytes c proper e = (within_sound shape 101 100 t bytes c proper (omega arith) e).0

-- What bytes mean behind a content that a message may have, a message may have, and it nests no deeper than both may.
merged_within : (shape : Shape) (t m : ℕ) (old new : Content) (bytes : List ℕ) → IsProper shape → IsSound shape t old → 100 ≤ m
    → content_depth old ≤ suc m → merged_of shape t old bytes ≡ Some new → IsSound shape t new × (content_depth new ≤ suc m)
merged_within shape t m old new bytes proper s enough deep e =
    let gs = fields_of shape t in
    let rs = bound_is (meaning_onto shape 100 gs old) (records_in 100 bytes) new e in
    let is =
    sound_by shape 100 m 100 proper (onto_keeps shape 100 m proper enough) (omega arith) gs (types shape proper t) old new rs.0
    (sound_in shape t old s) deep (records_good 100 bytes rs.0 rs.1) rs.2 in
    (sound_of shape t new is.0, is.1)

pub merged_sound : (shape : Shape) (t : ℕ) (old new : Content) (bytes : List ℕ) → IsProper shape → IsSound shape t old
    → merged_of shape t old bytes ≡ Some new → IsSound shape t new
merged_sound shape t old new bytes proper s e =
    (merged_within shape t (max (content_depth old) 100) old new bytes proper s (omega arith) (omega arith) e).0

pub merged_shallow : (shape : Shape) (t : ℕ) (old new : Content) (bytes : List ℕ) → IsProper shape → IsSound shape t old
    → merged_of shape t old bytes ≡ Some new → content_depth new ≤ max (content_depth old) 101
merged_shallow shape t old new bytes proper s e =
    let m = max (content_depth old) 101 - 1 in
    let deep = (merged_within shape t m old new bytes proper s (omega arith) (omega arith) e).1 in
    omega (arith, deep)
