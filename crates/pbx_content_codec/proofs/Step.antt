-- What one record means behind a content.
use Rattle.std.proofs.Common.{◌≡◌, ℕ, ◌<◌, ◌≤◌, Bool, true, false, not, ◌&&◌, if◌then◌else◌, nat_lt, List, [], ◌∷◌, ◌++◌, Option, Some, None, option_map, refl, sym, ap, ◌∙◌, subst, arith, append-nil}
use Rattle.std.specs.Prelude.{◌==◌, option_and_then}
use Rattle.std.specs.Option.{is_some}
use Rattle.std.proofs.lemmas.Bool.Decides.{nat_tests}
use Rattle.pbx_wire.specs.declared.rec.Rec.{Rec}
use Rattle.pbx_content.specs.declared.shape.Shape.{Shape}
use Rattle.pbx_content.specs.declared.shape.FieldShape.{FieldShape}
use Rattle.pbx_content.specs.Content.{Content, content, fields, kept, Fields, no_fields, field, Val, get, added, without, IsAbove}
use Rattle.pbx_content.specs.Records.{number_of, those_of, any, after_last}
use Rattle.pbx_content.specs.Shape.{field_of, is_float, is_read_as, is_kept, same_oneof, is_other, is_rival}
use Rattle.pbx_content.specs.Meaning.{value, with_field}
use Rattle.pbx_content.specs.Onto.{still, InnerOnto, from_empty, value_onto, value_onto_among, values_onto, layer_onto, meaning_onto}
use Rattle.pbx_content.proofs.OntoFields.{AreAbove, AreGot, IsGot, values_got}
use Rattle.pbx_content.proofs.OntoLaw.{onto_at, onto_is, value_nothing}
use Rattle.pbx_content.proofs.FaultyFirst.{found_number}
use Rattle.pbx_content_codec.specs.Merging.{put_option, is_rival_to, without_rivals, kept_more}
use Rattle.pbx_content_codec.proofs.Judging.{judges_at, value_judges, value_none}

-- ---- the field of a number

-- each of these is the type's field of its number
abbrev AreListed : List FieldShape → List FieldShape → Type 0
AreListed gs [] = Unit {0}
AreListed gs (f ∷ fs) = (field_of f.number gs ≡ Some f) × AreListed gs fs

lower_fields : (n m : ℕ) (fs : List FieldShape) → n ≤ m → AreAbove m fs → AreAbove n fs
lower_fields n m [] le a = tt
lower_fields n m (f ∷ fs) le a = (omega (arith, a.0), a.1)

listed_more : (g : FieldShape) (gs fs : List FieldShape) → AreAbove g.number fs → AreListed gs fs → AreListed (g ∷ gs) fs
listed_more g gs [] a h = tt
listed_more g gs (f ∷ fs) a h =
    let apart : (f.number == g.number) ≡ false = grind (arith, nat_tests, a.0) in
    (rw apart h.0, listed_more g gs fs (lower_fields g.number f.number fs (omega (arith, a.0)) a.1) h.1)

all_listed : (n : ℕ) (gs : List FieldShape) → AreAbove n gs → AreListed gs gs
all_listed n [] h = tt
all_listed n (g ∷ gs) h =
    let here : (g.number == g.number) ≡ true = grind (arith, nat_tests) in
    (rw here refl, listed_more g gs gs h.1 (all_listed g.number gs h.1))

-- ---- values of these fields

abbrev pub collect : List FieldShape → (FieldShape → Option Val) → Fields
collect [] look = no_fields
collect (h ∷ hs) look = with_field h.number (look h) (collect hs look)

with_above : (n m : ℕ) (o : Option Val) (fs : Fields) → n < m → IsAbove m fs → IsAbove n (with_field m o fs)
with_above n m None no_fields lt h = tt
with_above n m None (field k v fs) lt h = (omega (arith, h.0), h.1)
with_above n m (Some v) fs lt h = (lt, h)

collect_above : (n : ℕ) (hs : List FieldShape) (look : FieldShape → Option Val) → AreAbove n hs → IsAbove n (collect hs look)
collect_above n [] look a = tt
collect_above n (h ∷ hs) look a = with_above n h.number (look h) (collect hs look) a.0 (collect_above h.number hs look a.1)

values_collected : (shape : Shape) (inner : InnerOnto) (gs : List FieldShape) (old : Fields) (rs : List Rec) (look : FieldShape → Option Val)
    → ((h : FieldShape) → field_of h.number gs ≡ Some h → value_onto_among shape inner gs h (get h.number old) rs ≡ Some (look h))
    → (hs : List FieldShape) → AreListed gs hs → values_onto shape inner gs hs old rs ≡ Some (collect hs look)
values_collected shape inner gs old rs look each [] l = refl
values_collected shape inner gs old rs look each (h ∷ hs) l = rw (each h l.0, values_collected shape inner gs old rs look each hs l.1) refl

pub got_one : (shape : Shape) (inner : InnerOnto) (gs : List FieldShape) (old : Fields) (rs : List Rec) (new : Fields) (hs : List FieldShape) (n : ℕ)
    (h : FieldShape)
    → AreGot shape inner gs old rs new hs → field_of n hs ≡ Some h → IsGot shape inner gs old rs new h
got_one shape inner gs old rs new [] n h g e = absurd cc
got_one shape inner gs old rs new (k ∷ hs) n h g e = at (n == k.number) e (got_one shape inner gs old rs new hs n h g.1)
  where
    at : (b : Bool) → (if b then Some k else field_of n hs) ≡ Some h → (field_of n hs ≡ Some h → IsGot shape inner gs old rs new h)
        → IsGot shape inner gs old rs new h
    at true e ih = let same : k ≡ h = cc in subst (IsGot shape inner gs old rs new) same g.0
    at false e ih = ih e

-- ---- a content that stays as it is behind itself

pub record IsStable (shape : Shape) (inner : InnerOnto) (gs : List FieldShape) (fs : Fields) : Type 0 where
  pub gives : (n : ℕ) (h : FieldShape) → field_of n gs ≡ Some h → value_onto_among shape inner gs h (get h.number fs) [] ≡ Some (get h.number fs)
  pub whole : fs ≡ collect gs (λ h. get h.number fs)

some_is : {A : Type 0} (x y : A) → Some x ≡ Some y → x ≡ y
some_is x y e = cc

pub are_stable : (shape : Shape) (m : ℕ) (gs : List FieldShape) (c : Content) → AreAbove 0 gs → meaning_onto shape m gs c [] ≡ Some c
    → IsStable shape (onto_at shape m) gs (fields c)
are_stable shape m gs (content fs ks) a e = at (values_onto shape (onto_at shape m) gs gs fs []) refl (sym (onto_is shape m gs (content fs ks) []) ∙ e)
  where
    at : (x : Option Fields) → values_onto shape (onto_at shape m) gs gs fs [] ≡ x → option_map (λ vs. content vs (ks ++ [])) x ≡ Some (content fs ks)
        → IsStable shape (onto_at shape m) gs fs
    at None d e = absurd cc
    at (Some vs) d e =
        let is : vs ≡ fs = cc in
        let same : values_onto shape (onto_at shape m) gs gs fs [] ≡ Some fs = d ∙ ap (λ (x : Fields). Some x) is in
        let got = values_got shape (onto_at shape m) gs fs [] 0 gs fs a same in
        let gives : (n : ℕ) (h : FieldShape) → field_of n gs ≡ Some h
        → value_onto_among shape (onto_at shape m) gs h (get h.number fs) [] ≡ Some (get h.number fs)
        = λ n h l. got_one shape (onto_at shape m) gs fs [] fs gs n h got l in
        record {
          gives = gives;
          whole =
              some_is _ _ (sym same ∙ values_collected shape (onto_at shape m) gs fs [] (λ h. get h.number fs) (λ h l. gives h.number h l) gs
              (all_listed 0 gs a));
        }

-- ---- the one field of a number

none_one : (p : FieldShape → Bool) (n k : ℕ) (gs : List FieldShape) → AreAbove k gs → n ≤ k → ((h : FieldShape) → (n == h.number) ≡ false → p h ≡ false)
    → any p gs ≡ false
none_one p n k [] a le apart = refl
none_one p n k (g ∷ gs) a le apart =
    let other : (n == g.number) ≡ false = grind (arith, nat_tests, a.0) in
    rw (apart g other) (none_one p n g.number gs a.1 (omega (arith, a.0)) apart)

any_one : (p : FieldShape → Bool) (n k : ℕ) (gs : List FieldShape) (f : FieldShape) → AreAbove k gs → field_of n gs ≡ Some f
    → ((h : FieldShape) → (n == h.number) ≡ false → p h ≡ false) → any p gs ≡ p f
any_one p n k [] f a listed apart = absurd cc
any_one p n k (g ∷ gs) f a listed apart = at (n == g.number) refl listed (λ l. any_one p n g.number gs f a.1 l apart)
  where
    first : (b : Bool) → any p gs ≡ false → (if b then true else any p gs) ≡ b
    first true e = refl
    first false e = e

    at : (b : Bool) → (n == g.number) ≡ b → (if b then Some g else field_of n gs) ≡ Some f → (field_of n gs ≡ Some f → any p gs ≡ p f)
        → (if p g then true else any p gs) ≡ p f
    at true d l ih =
        let same : g ≡ f = cc in
        let le : n ≤ g.number = grind (arith, nat_tests) in
        first (p g) (none_one p n g.number gs a.1 le apart) ∙ ap p same
    at false d l ih = rw (apart g d) (ih l)

any_none : (p : FieldShape → Bool) (n : ℕ) (gs : List FieldShape) → field_of n gs ≡ None → ((h : FieldShape) → (n == h.number) ≡ false → p h ≡ false)
    → any p gs ≡ false
any_none p n [] listed apart = refl
any_none p n (g ∷ gs) listed apart = at (n == g.number) refl listed (any_none p n gs)
  where
    at : (b : Bool) → (n == g.number) ≡ b → (if b then Some g else field_of n gs) ≡ None
        → (field_of n gs ≡ None → ((h : FieldShape) → (n == h.number) ≡ false → p h ≡ false) → any p gs ≡ false) → (if p g then true else any p gs) ≡ false
    at true d l ih = absurd cc
    at false d l ih = rw (apart g d) (ih l apart)

and_no : (a : Bool) → a && false ≡ false
and_no true = refl
and_no false = refl

and_yes : (a : Bool) → a && true ≡ a
and_yes true = refl
and_yes false = refl

unread : (r : Rec) (h : FieldShape) → (number_of r == h.number) ≡ false → is_read_as r h ≡ false
unread r h apart = rw apart refl

no_rival_of : (g : FieldShape) (r : Rec) (h : FieldShape) → (number_of r == h.number) ≡ false → is_other g h && is_read_as r h ≡ false
no_rival_of g r h apart = ap (λ b. is_other g h && b) (unread r h apart) ∙ and_no (is_other g h)

-- the record is of this field, which reads it
pub record IsOf (gs : List FieldShape) (r : Rec) (f : FieldShape) : Type 0 where
  pub above : AreAbove 0 gs
  pub listed : field_of (number_of r) gs ≡ Some f
  pub plain : is_float f.kind ≡ false

number_is : (gs : List FieldShape) (r : Rec) (f : FieldShape) → IsOf gs r f → number_of r ≡ f.number
number_is gs r f o = found_number (number_of r) gs f o.listed

read_own : (gs : List FieldShape) (r : Rec) (f : FieldShape) → IsOf gs r f → is_read_as r f ≡ true
read_own gs r f o =
    let same = number_is gs r f o in
    let here : (number_of r == f.number) ≡ true = grind (arith, nat_tests) in
    rw (here, o.plain) refl

-- it is a rival's exactly to the other members of the field's oneof
rival_is : (gs : List FieldShape) (r : Rec) (f g : FieldShape) → IsOf gs r f → is_rival gs g r ≡ is_other g f
rival_is gs r f g o =
    any_one (λ h. is_other g h && is_read_as r h) (number_of r) 0 gs f o.above o.listed (no_rival_of g r)
    ∙ ap (λ b. is_other g f && b) (read_own gs r f o) ∙ and_yes (is_other g f)

not_kept : (gs : List FieldShape) (r : Rec) (f : FieldShape) → IsOf gs r f → is_kept gs r ≡ false
not_kept gs r f o = ap not (any_one (is_read_as r) (number_of r) 0 gs f o.above o.listed (unread r) ∙ read_own gs r f o)

not_own : (f : FieldShape) → is_other f f ≡ false
not_own f = let here : (f.number == f.number) ≡ true = grind (arith, nat_tests) in ap (λ b. same_oneof f.oneof f.oneof && not b) here
    ∙ and_no (same_oneof f.oneof f.oneof)

-- ---- one field

bound : {A B : Type 0} (o : Option A) (p : Option B) → is_some o ≡ true → option_and_then (λ all. p) o ≡ p
bound None p e = absurd cc
bound (Some x) p e = refl

pub among_nothing : (shape : Shape) (inner : InnerOnto) (gs : List FieldShape) (h : FieldShape) (old : Option Val)
    → value_onto_among shape inner gs h old [] ≡ value_onto shape inner h old []
among_nothing shape inner gs h old = bound (value shape (from_empty inner) h []) (value_onto shape inner h old []) (ap is_some (value_none shape inner h))

-- a field of another number
among_other : (shape : Shape) (inner : InnerOnto) (gs : List FieldShape) (h : FieldShape) (old : Option Val) (r : Rec) → (number_of r == h.number) ≡ false
    → value_onto_among shape inner gs h old (r ∷ []) ≡ (if is_rival gs h r then Some None else value_onto shape inner h old [])
among_other shape inner gs h old r apart =
    ap (λ (x : List Rec). option_and_then (λ all. value_onto shape inner h (still gs h (r ∷ []) old) (those_of h.number (after_last (is_rival gs h)
    (r ∷ [])))) (value shape (from_empty inner) h x)) none
    ∙ bound (value shape (from_empty inner) h []) (value_onto shape inner h (still gs h (r ∷ []) old) (those_of h.number (after_last (is_rival gs h)
    (r ∷ [])))) (ap is_some (value_none shape inner h))
    ∙ at (is_rival gs h r)
  where
    none : those_of h.number (r ∷ []) ≡ []
    none = rw apart refl

    at : (b : Bool) → value_onto shape inner h (if (if b then true else false) then None else old) (those_of h.number (if b then [] else r ∷ []))
        ≡ (if b then Some None else value_onto shape inner h old [])
    at true = value_nothing shape inner h [] ∙ value_none shape inner h
    at false = ap (value_onto shape inner h old) none

-- the field itself
among_own : (shape : Shape) (m : ℕ) (gs : List FieldShape) (f : FieldShape) (old : Option Val) (r : Rec) (o : Option Val) → IsOf gs r f
    → value_onto shape (onto_at shape m) f old (r ∷ []) ≡ Some o → value_onto_among shape (onto_at shape m) gs f old (r ∷ []) ≡ Some o
among_own shape m gs f old r o is e =
    ap (λ (x : List Rec). option_and_then (λ all. value_onto shape (onto_at shape m) f (still gs f (r ∷ []) old) (those_of f.number (after_last
    (is_rival gs f) (r ∷ []))))
    (value shape (from_empty (onto_at shape m)) f x)) these
    ∙ bound (value shape (from_empty (onto_at shape m)) f (r ∷ [])) (value_onto shape (onto_at shape m) f (still gs f (r ∷ []) old) (those_of f.number
    (after_last (is_rival gs f) (r ∷ [])))) judged
    ∙ at (is_rival gs f r) (rival_is gs r f f is ∙ not_own f)
  where
    these : those_of f.number (r ∷ []) ≡ r ∷ []
    these =
        let same = number_is gs r f is in
        let here : (number_of r == f.number) ≡ true = grind (arith, nat_tests) in
        rw here refl

    judged : is_some (value shape (from_empty (onto_at shape m)) f (r ∷ [])) ≡ true
    judged = sym (value_judges shape (onto_at shape m) (judges_at shape m) f old (r ∷ [])) ∙ ap is_some e

    at : (b : Bool) → b ≡ false
        → value_onto shape (onto_at shape m) f (if (if b then true else false) then None else old) (those_of f.number (if b then [] else r ∷ [])) ≡ Some o
    at true d = absurd cc
    at false d = ap (value_onto shape (onto_at shape m) f old) these ∙ e

-- ---- changes of all fields

-- the new value of each field
abbrev pub changed : FieldShape → Option Val → Fields → FieldShape → Option Val
changed f o old h = if h.number == f.number then o else (if is_other h f then None else get h.number old)

above_less : (n k : ℕ) (fs : Fields) → n ≤ k → IsAbove k fs → IsAbove n fs
above_less n k no_fields le a = tt
above_less n k (field m v fs) le a = (omega (arith, a.0), a.1)

without_above : (n : ℕ) (fs : Fields) → IsAbove n fs → without n fs ≡ fs
without_above n no_fields a = refl
without_above n (field m v fs) a =
    let apart : (n == m) ≡ false = grind (arith, nat_tests, a.0) in
    rw apart (ap (field m v) (without_above n fs (above_less n m fs (omega (arith, a.0)) a.1)))

rivals_above : (gs : List FieldShape) (f : FieldShape) (n : ℕ) (fs : Fields) → IsAbove n fs → IsAbove n (without_rivals gs f fs)
rivals_above gs f n no_fields a = tt
rivals_above gs f n (field m v fs) a =
    at (is_rival_to f (field_of m gs)) (rivals_above gs f m fs a.1)
  where
    at : (b : Bool) → IsAbove m (without_rivals gs f fs) → IsAbove n (if b then without_rivals gs f fs else field m v (without_rivals gs f fs))
    at true ih = above_less n m (without_rivals gs f fs) (omega (arith, a.0)) ih
    at false ih = (a.0, ih)

added_first : (n : ℕ) (v : Val) (fs : Fields) → IsAbove n fs → added n v fs ≡ field n v fs
added_first n v no_fields a = refl
added_first n v (field m w fs) a = let less : nat_lt n m ≡ true = grind (arith, nat_tests, a.0) in rw less refl

put_first : (n : ℕ) (o : Option Val) (fs : Fields) → IsAbove n fs → with_field n o fs ≡ put_option n o fs
put_first n None fs a = refl
put_first n (Some v) fs a = sym (ap (added n v) (without_above n fs a) ∙ added_first n v fs a)

put_later : (n m : ℕ) (o : Option Val) (w : Val) (fs : Fields) → m < n → put_option n o (field m w fs) ≡ field m w (put_option n o fs)
put_later n m None w fs lt = refl
put_later n m (Some v) w fs lt =
    let apart : (n == m) ≡ false = grind (arith, nat_tests) in
    let more : nat_lt n m ≡ false = grind (arith, nat_tests) in
    rw (apart, more) refl

-- one field more in front
rivals_front : (gs : List FieldShape) (f h : FieldShape) (o : Option Val) (fs : Fields) → field_of h.number gs ≡ Some h
    → without_rivals gs f (with_field h.number o fs) ≡ with_field h.number (if is_other h f then None else o) (without_rivals gs f fs)
rivals_front gs f h None fs l = at (is_other h f)
  where
    none : Option Val
    none = None

    at : (b : Bool) → without_rivals gs f fs ≡ with_field h.number (if b then none else none) (without_rivals gs f fs)
    at true = refl
    at false = refl
rivals_front gs f h (Some v) fs l =
    ap (λ (x : Option FieldShape). if is_rival_to f x then without_rivals gs f fs else field h.number v (without_rivals gs f fs)) l ∙ at (is_other h f)
  where
    at : (b : Bool) → (if b then without_rivals gs f fs else field h.number v (without_rivals gs f fs))
        ≡ with_field h.number (if b then None else Some v) (without_rivals gs f fs)
    at true = refl
    at false = refl

changed_others : (gs : List FieldShape) (f : FieldShape) (o : Option Val) (old : Fields) (k : ℕ) (hs : List FieldShape) → AreAbove k hs → f.number ≤ k
    → AreListed gs hs
    → collect hs (changed f o old) ≡ without_rivals gs f (collect hs (λ h. get h.number old))
changed_others gs f o old k [] a le l = refl
changed_others gs f o old k (h ∷ hs) a le l =
    let apart : (h.number == f.number) ≡ false = grind (arith, nat_tests, a.0) in
    ap (λ b. with_field h.number (if b then o else (if is_other h f then None else get h.number old)) (collect hs (changed f o old))) apart
    ∙ ap (with_field h.number (if is_other h f then None else get h.number old)) (changed_others gs f o old h.number hs a.1 (omega (arith, a.0)) l.1)
    ∙ sym (rivals_front gs f h (get h.number old) (collect hs (λ h. get h.number old)) l.0)

without_front : (n m : ℕ) (o : Option Val) (fs : Fields) → (n == m) ≡ false → without n (with_field m o fs) ≡ with_field m o (without n fs)
without_front n m None fs e = refl
without_front n m (Some v) fs e = rw e refl

without_own : (n m : ℕ) (o : Option Val) (fs : Fields) → n ≡ m → IsAbove m fs → without n (with_field m o fs) ≡ fs
without_own n m None fs e a = without_above n fs (above_less n m fs (omega arith) a)
without_own n m (Some v) fs e a = let here : (n == m) ≡ true = grind (arith, nat_tests) in rw here refl

put_behind : (n m : ℕ) (o p : Option Val) (fs : Fields) → m < n → with_field m p (put_option n o fs) ≡ put_option n o (with_field m p fs)
put_behind n m o None fs lt = refl
put_behind n m o (Some w) fs lt = sym (put_later n m o w fs lt)

found_above : (n k : ℕ) (hs : List FieldShape) (f : FieldShape) → AreAbove k hs → field_of n hs ≡ Some f → k < n
found_above n k [] f a e = absurd cc
found_above n k (h ∷ hs) f a e = at (n == h.number) refl e (found_above n h.number hs f a.1)
  where
    at : (b : Bool) → (n == h.number) ≡ b → (if b then Some h else field_of n hs) ≡ Some f → (field_of n hs ≡ Some f → h.number < n) → k < n
    at true d e ih = let here : n ≡ h.number = grind (arith, nat_tests) in omega (arith, a.0)
    at false d e ih = omega (arith, a.0, ih e)

changed_all : (gs : List FieldShape) (f : FieldShape) (o : Option Val) (old : Fields) (k : ℕ) (hs : List FieldShape) → AreAbove k hs → AreListed gs hs
    → field_of f.number hs ≡ Some f
    → collect hs (changed f o old) ≡ put_option f.number o (without_rivals gs f (without f.number (collect hs (λ h. get h.number old))))
changed_all gs f o old k [] a l e = absurd cc
changed_all gs f o old k (h ∷ hs) a l e = at (f.number == h.number) refl e (changed_all gs f o old h.number hs a.1 l.1)
  where
    look : FieldShape → Option Val
    look = λ h. get h.number old

    rest : Fields
    rest = collect hs (λ h. get h.number old)

    at : (b : Bool) → (f.number == h.number) ≡ b → (if b then Some h else field_of f.number hs) ≡ Some f
        → (field_of f.number hs ≡ Some f → collect hs (changed f o old) ≡ put_option f.number o (without_rivals gs f (without f.number rest)))
        → collect (h ∷ hs) (changed f o old) ≡ put_option f.number o (without_rivals gs f (without f.number (collect (h ∷ hs) (λ h. get h.number old))))
    at true d e ih =
        let same : h.number ≡ f.number = grind (arith, nat_tests) in
        let here : (h.number == f.number) ≡ true = grind (arith, nat_tests) in
        let above = collect_above h.number hs (λ h. get h.number old) a.1 in
        let low : IsAbove f.number (without_rivals gs f rest) = above_less f.number h.number (without_rivals gs f rest) (omega arith)
        (rivals_above gs f h.number rest above) in
        ap (λ b. with_field h.number (if b then o else (if is_other h f then None else get h.number old)) (collect hs (changed f o old))) here
        ∙ ap (with_field h.number o) (changed_others gs f o old h.number hs a.1 (omega arith) l.1)
        ∙ ap (λ (n : ℕ). with_field n o (without_rivals gs f rest)) same
        ∙ put_first f.number o (without_rivals gs f rest) low
        ∙ ap (λ (x : Fields). put_option f.number o (without_rivals gs f x)) (sym (without_own f.number h.number (get h.number old) rest (sym same) above))
    at false d e ih =
        let lt = found_above f.number h.number hs f a.1 e in
        let apart : (h.number == f.number) ≡ false = grind (arith, nat_tests) in
        ap (λ b. with_field h.number (if b then o else (if is_other h f then None else get h.number old)) (collect hs (changed f o old))) apart
        ∙ ap (with_field h.number (if is_other h f then None else get h.number old)) (ih e)
        ∙ put_behind f.number h.number o (if is_other h f then None else get h.number old) (without_rivals gs f (without f.number rest)) lt
        ∙ ap (put_option f.number o)
        (sym (rivals_front gs f h (get h.number old) (without f.number rest) l.0)
        ∙ ap (without_rivals gs f) (sym (without_front f.number h.number (get h.number old) rest d)))

-- ---- the record

-- the field that is listed for a number that it has
own_field : (gs : List FieldShape) (n : ℕ) (f h : FieldShape) → field_of n gs ≡ Some f → field_of h.number gs ≡ Some h → (h.number == n) ≡ true → h ≡ f
own_field gs n f h l k e =
    let same : h.number ≡ n = grind (arith, nat_tests) in
    some_is h f (sym k ∙ ap (λ (x : ℕ). field_of x gs) same ∙ l)

field_value : (shape : Shape) (m : ℕ) (gs : List FieldShape) (fs : Fields) (r : Rec) (f : FieldShape) (o : Option Val)
    → IsStable shape (onto_at shape m) gs fs → IsOf gs r f
    → value_onto shape (onto_at shape m) f (get f.number fs) (r ∷ []) ≡ Some o
    → (h : FieldShape) → field_of h.number gs ≡ Some h → value_onto_among shape (onto_at shape m) gs h (get h.number fs) (r ∷ []) ≡ Some (changed f o fs h)
field_value shape m gs fs r f o stable is e h l = at (h.number == f.number) refl
  where
    at : (b : Bool) → (h.number == f.number) ≡ b
        → value_onto_among shape (onto_at shape m) gs h (get h.number fs) (r ∷ []) ≡ Some (if b then o else (if is_other h f then None else get h.number fs))
    at true d =
        let own : field_of f.number gs ≡ Some f = ap (λ (n : ℕ). field_of n gs) (sym (number_is gs r f is)) ∙ is.listed in
        let same = own_field gs f.number f h own l d in
        subst (λ (x : FieldShape). value_onto_among shape (onto_at shape m) gs x (get x.number fs) (r ∷ []) ≡ Some o) (sym same)
        (among_own shape m gs f (get f.number fs) r o is e)
    at false d =
        let same = number_is gs r f is in
        let apart : (number_of r == h.number) ≡ false = grind (arith, nat_tests) in
        among_other shape (onto_at shape m) gs h (get h.number fs) r apart ∙ by (is_rival gs h r) (is_other h f) (rival_is gs r f h is)
      where
        by : (a b : Bool) → a ≡ b → (if a then Some None else value_onto shape (onto_at shape m) h (get h.number fs) []) ≡ Some
            (if b then None else get h.number fs)
        by true true e = refl
        by true false e = absurd cc
        by false true e = absurd cc
        by false false e = sym (among_nothing shape (onto_at shape m) gs h (get h.number fs)) ∙ stable.gives h.number h l

-- a record of a field changes it, and clears the other members of its oneof
pub field_step : (shape : Shape) (m : ℕ) (gs : List FieldShape) (c : Content) (r : Rec) (f : FieldShape) (o : Option Val) → IsOf gs r f
    → meaning_onto shape m gs c [] ≡ Some c
    → value_onto shape (onto_at shape m) f (get f.number (fields c)) (r ∷ []) ≡ Some o
    → meaning_onto shape m gs c (r ∷ []) ≡ Some (content (put_option f.number o (without_rivals gs f (without f.number (fields c)))) (kept c))
field_step shape m gs (content fs ks) r f o is stays e =
    onto_is shape m gs (content fs ks) (r ∷ [])
    ∙ whole (values_collected shape (onto_at shape m) gs fs (r ∷ []) (changed f o fs) (field_value shape m gs fs r f o stable is e) gs
    (all_listed 0 gs is.above) ∙ ap (λ (x : Fields). Some x) new)
  where
    stable : IsStable shape (onto_at shape m) gs fs
    stable = are_stable shape m gs (content fs ks) is.above stays

    own : field_of f.number gs ≡ Some f
    own = ap (λ (n : ℕ). field_of n gs) (sym (number_is gs r f is)) ∙ is.listed

    new : collect gs (changed f o fs) ≡ put_option f.number o (without_rivals gs f (without f.number fs))
    new =
        changed_all gs f o fs 0 gs is.above (all_listed 0 gs is.above) own
        ∙ ap (λ (x : Fields). put_option f.number o (without_rivals gs f (without f.number x))) (sym stable.whole)

    whole : values_onto shape (onto_at shape m) gs gs fs (r ∷ []) ≡ Some (put_option f.number o (without_rivals gs f (without f.number fs)))
        → layer_onto shape (onto_at shape m) gs (content fs ks) (r ∷ []) ≡ Some (content (put_option f.number o (without_rivals gs f (without f.number fs))) ks)
    whole v = rw (v, not_kept gs r f is, append-nil ks) refl

-- a record that no field reads
pub record IsUnread (gs : List FieldShape) (r : Rec) : Type 0 where
  pub above : AreAbove 0 gs
  pub floats : (f : FieldShape) → field_of (number_of r) gs ≡ Some f → is_float f.kind ≡ true

none_read : (gs : List FieldShape) (r : Rec) → IsUnread gs r → (p : FieldShape → Bool) → ((h : FieldShape) → is_read_as r h ≡ false → p h ≡ false)
    → any p gs ≡ false
none_read gs r u p never = at (field_of (number_of r) gs) refl
  where
    at : (o : Option FieldShape) → field_of (number_of r) gs ≡ o → any p gs ≡ false
    at None l = any_none p (number_of r) gs l (λ h apart. never h (unread r h apart))
    at (Some f) l =
        any_one p (number_of r) 0 gs f u.above l (λ h apart. never h (unread r h apart))
        ∙ never f (ap (λ b. (number_of r == f.number) && not b) (u.floats f l) ∙ and_no (number_of r == f.number))

unread_value : (shape : Shape) (m : ℕ) (gs : List FieldShape) (fs : Fields) (r : Rec) → IsStable shape (onto_at shape m) gs fs → IsUnread gs r
    → (h : FieldShape) → field_of h.number gs ≡ Some h → value_onto_among shape (onto_at shape m) gs h (get h.number fs) (r ∷ []) ≡ Some (get h.number fs)
unread_value shape m gs fs r stable u h l = at (number_of r == h.number) refl
  where
    inner : InnerOnto
    inner = onto_at shape m

    rival : is_rival gs h r ≡ false
    rival = none_read gs r u (λ g. is_other h g && is_read_as r g) (λ g never. ap (λ b. is_other h g && b) never ∙ and_no (is_other h g))

    stays : value_onto shape (onto_at shape m) h (get h.number fs) [] ≡ Some (get h.number fs)
    stays = sym (among_nothing shape (onto_at shape m) gs h (get h.number fs)) ∙ stable.gives h.number h l

    at : (b : Bool) → (number_of r == h.number) ≡ b → value_onto_among shape (onto_at shape m) gs h (get h.number fs) (r ∷ []) ≡ Some (get h.number fs)
    at true d =
        let same : number_of r ≡ h.number = grind (arith, nat_tests) in
        let float : is_float h.kind ≡ true = u.floats h (ap (λ (n : ℕ). field_of n gs) same ∙ l) in
        let all : value shape (from_empty (onto_at shape m)) h (those_of h.number (r ∷ [])) ≡ Some None = rw float refl in
        let mine : value_onto shape (onto_at shape m) h (still gs h (r ∷ []) (get h.number fs)) (those_of h.number (after_last (is_rival gs h)
        (r ∷ []))) ≡ Some None = rw float refl in
        let was : value_onto shape (onto_at shape m) h (get h.number fs) [] ≡ Some None = rw float refl in
        bound (value shape (from_empty (onto_at shape m)) h (those_of h.number (r ∷ [])))
        (value_onto shape (onto_at shape m) h (still gs h (r ∷ []) (get h.number fs)) (those_of h.number (after_last (is_rival gs h) (r ∷ []))))
        (ap is_some all)
        ∙ mine ∙ sym was ∙ stays
    at false d = among_other shape (onto_at shape m) gs h (get h.number fs) r d ∙ by (is_rival gs h r) rival
      where
        by : (a : Bool) → a ≡ false → (if a then Some None else value_onto shape (onto_at shape m) h (get h.number fs) []) ≡ Some (get h.number fs)
        by true e = absurd cc
        by false e = stays

pub kept_step : (shape : Shape) (m : ℕ) (gs : List FieldShape) (c : Content) (r : Rec) → IsUnread gs r → meaning_onto shape m gs c [] ≡ Some c
    → meaning_onto shape m gs c (r ∷ []) ≡ Some (kept_more c r)
kept_step shape m gs (content fs ks) r u stays =
    onto_is shape m gs (content fs ks) (r ∷ [])
    ∙ whole (values_collected shape (onto_at shape m) gs fs (r ∷ []) (λ h. get h.number fs) (unread_value shape m gs fs r stable u) gs (all_listed 0 gs u.above)
    ∙ ap (λ (x : Fields). Some x) (sym stable.whole))
  where
    stable : IsStable shape (onto_at shape m) gs fs
    stable = are_stable shape m gs (content fs ks) u.above stays

    keeps : is_kept gs r ≡ true
    keeps = ap not (none_read gs r u (is_read_as r) (λ h never. never))

    whole : values_onto shape (onto_at shape m) gs gs fs (r ∷ []) ≡ Some fs
        → layer_onto shape (onto_at shape m) gs (content fs ks) (r ∷ []) ≡ Some (content fs (ks ++ r ∷ []))
    whole v = rw (v, keeps) refl
