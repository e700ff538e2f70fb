-- What one record changes of a content that records mean.
use Rattle.std.proofs.Common.{◌≡◌, ◌≢◌, ℕ, zero, suc, ◌≤◌, Bool, true, false, ◌&&◌, not, if◌then◌else◌, List, [], ◌∷◌, ◌++◌, Option, Some, None, option_map}
use Rattle.std.proofs.Common.{refl}
use Rattle.std.proofs.Common.{sym, ap, ◌∙◌, subst, arith, append-nil}
use Rattle.std.specs.Prelude.{◌==◌, option_and_then}
use Rattle.std.specs.Option.{is_some}
use Rattle.std.proofs.lemmas.Bool.{eqb-true, eqb-false, eq-eqb, ne_eqb}
use Rattle.pbx_wire.specs.declared.rec.Rec.{Rec}
use Rattle.pbx_content.specs.declared.shape.Kind.{Kind}
use Rattle.pbx_content.specs.declared.shape.Kind.TheVariants as kind
use Rattle.pbx_content.specs.declared.shape.Cardinality.{Cardinality}
use Rattle.pbx_content.specs.declared.shape.Cardinality.TheVariants.{Singular, Repeated, Map}
use Rattle.pbx_content.specs.declared.shape.Shape.{Shape}
use Rattle.pbx_content.specs.declared.shape.FieldShape.{FieldShape}
use Rattle.pbx_content.specs.Content.{Content, content, empty, kept, fields, get, Fields, no_fields, field, IsAbove, IsAscending, Val}
use Rattle.pbx_content.specs.Records.{number_of, those_of, any}
use Rattle.pbx_content.specs.Shape.{field_of, is_float, is_read_as, is_kept, is_rival, is_other, same_oneof}
use Rattle.pbx_content.specs.Meaning.{with_field, singular, by_cardinality, value}
use Rattle.pbx_content.specs.Onto.{InnerOnto, from_empty, value_onto, value_onto_among, values_onto, layer_onto, meaning_onto}
use Rattle.pbx_content.specs.Laws.{payload_onto, IsStableIn, EmptyIsStable, OntoIsStable, OntoNothing, OntoKeepsOne, value_beside, OntoReadsOne}
use Rattle.pbx_content.proofs.OntoSplits.{there}
use Rattle.pbx_content.proofs.OntoFields.{AreAbove, get-above, AreGot, values_got, values_above}
use Rattle.pbx_content.proofs.OntoLaw.{value_nothing, onto_at, onto_is, onto_judges, value_judges, unbound}
use Rattle.pbx_content.proofs.OntoAppends.{onto_appends}
use Rattle.pbx_content.proofs.FaultyFields.{found_above, found_behind}
use Rattle.pbx_content.proofs.FaultyLaw.{are_above}
use Rattle.pbx_content.proofs.FaultyFirst.{found_number, found_own, some_field}

-- ---- fields by what they have

own_first : (h : FieldShape) (hs : List FieldShape) → field_of h.number (h ∷ hs) ≡ Some h
own_first h hs = let here : (h.number == h.number) ≡ true = eq-eqb h.number h.number refl in rw here refl

above_ascends : (m : ℕ) (xs : Fields) → IsAbove m xs → IsAscending xs
above_ascends m no_fields h = tt
above_ascends m (field k v xs) h = h.1

-- the fields of which each has what its records give
collected : (shape : Shape) (inner : InnerOnto) (gs : List FieldShape) (old : Fields) (rs : List Rec) (n : ℕ) (hs : List FieldShape) (new : Fields)
    → AreAbove n hs → IsAscending new
    → ((h : FieldShape) → field_of h.number hs ≡ Some h → value_onto_among shape inner gs h (get h.number old) rs ≡ Some (get h.number new))
    → ((k : ℕ) → field_of k hs ≡ None → get k new ≡ None) → values_onto shape inner gs hs old rs ≡ Some new
collected shape inner gs old rs n [] no_fields a asc own out = refl
collected shape inner gs old rs n [] (field m v xs) a asc own out =
    let here : (m == m) ≡ true = eq-eqb m m refl in
    let none : get m (field m v xs) ≡ None = out m refl in
    let some : get m (field m v xs) ≡ Some v = rw here refl in
    absurd cc
collected shape inner gs old rs n (h ∷ hs) no_fields a asc own out =
    let here : field_of h.number (h ∷ hs) ≡ Some h = own_first h hs in
    let rest = collected shape inner gs old rs h.number hs no_fields a.1 tt (λ g e. own g (found_behind h hs g a.1 e)) (λ k e. refl) in
    let first : value_onto_among shape inner gs h (get h.number old) rs ≡ Some None = own h here in
    rw (first, rest) refl
collected shape inner gs old rs n (h ∷ hs) (field m v xs) a asc own out =
    at (h.number == m) refl (λ new asc own out. collected shape inner gs old rs h.number hs new a.1 asc own out)
  where
    first : value_onto_among shape inner gs h (get h.number old) rs ≡ Some (get h.number (field m v xs))
    first = own h (own_first h hs)

    skips : (k : ℕ) → k ≢ m → get k (field m v xs) ≡ get k xs
    skips k apart = let no = ne_eqb k m apart in rw no refl

    at : (b : Bool) → (h.number == m) ≡ b
        → ((new : Fields) → IsAscending new
        → ((g : FieldShape) → field_of g.number hs ≡ Some g → value_onto_among shape inner gs g (get g.number old) rs ≡ Some (get g.number new))
        → ((k : ℕ) → field_of k hs ≡ None → get k new ≡ None) → values_onto shape inner gs hs old rs ≡ Some new)
        → values_onto shape inner gs (h ∷ hs) old rs ≡ Some (field m v xs)
    at true d ih =
        let same : h.number ≡ m = eqb-true h.number m d in
        let rest = ih xs (above_ascends m xs asc)
        (λ g e.
        let more = found_above h.number g.number hs g a.1 e in
        own g (found_behind h hs g a.1 e) ∙ ap (λ (o : Option Val). Some o) (skips g.number (λ is. absurd (omega arith))))
        (λ k e. absent k e (k == m) refl) in
        let mine : value_onto_among shape inner gs h (get h.number old) rs ≡ Some (Some v) = first ∙ rw d refl in
        rw (mine, rest, same) refl
      where
        absent : (k : ℕ) → field_of k hs ≡ None → (c : Bool) → (k == m) ≡ c → get k xs ≡ None
        absent k e true c = get-above k m xs asc (let is = eqb-true k m c in omega arith)
        absent k e false c =
            let apart : k ≢ m = eqb-false k m c in
            let behind : (k == h.number) ≡ false = ne_eqb k h.number (λ is. apart (is ∙ eqb-true h.number m d)) in
            let all : field_of k (h ∷ hs) ≡ None = rw behind e in
            sym (skips k apart) ∙ out k all
    at false d ih = later (field_of m hs) refl
      where
        beyond : (k : ℕ) → field_of k hs ≡ None → (c : Bool) → (k == h.number) ≡ c → get h.number (field m v xs) ≡ None → get k (field m v xs) ≡ None
        beyond k e true c absent = let is = eqb-true k h.number c in ap (λ (j : ℕ). get j (field m v xs)) is ∙ absent
        beyond k e false c absent = out k (rw c e)

        later : (o : Option FieldShape) → field_of m hs ≡ o → values_onto shape inner gs (h ∷ hs) old rs ≡ Some (field m v xs)
        later None e =
            let back : (m == h.number) ≡ false = ne_eqb m h.number (λ is. eqb-false h.number m d (sym is)) in
            let all : field_of m (h ∷ hs) ≡ None = rw back e in
            let none = out m all in
            let here : (m == m) ≡ true = eq-eqb m m refl in
            let some : get m (field m v xs) ≡ Some v = rw here refl in
            absurd cc
        later (Some g) e =
            let less = found_above h.number m hs g a.1 e in
            let absent : get h.number (field m v xs) ≡ None = skips h.number (eqb-false h.number m d) ∙ get-above h.number m xs asc (omega arith) in
            let rest = ih (field m v xs) asc (λ g e. own g (found_behind h hs g a.1 e)) (λ k e. beyond k e (k == h.number) refl absent) in
            let mine : value_onto_among shape inner gs h (get h.number old) rs ≡ Some None = first ∙ ap (λ (o : Option Val). Some o) absent in
            rw (mine, rest) refl

-- only numbers of fields have values
only_own : (shape : Shape) (inner : InnerOnto) (gs : List FieldShape) (old : Fields) (rs : List Rec) (hs : List FieldShape) (new : Fields) (k : ℕ)
    → values_onto shape inner gs hs old rs ≡ Some new → field_of k hs ≡ None → get k new ≡ None
only_own shape inner gs old rs [] new k e none = let is : no_fields ≡ new = cc in rw (← is) refl
only_own shape inner gs old rs (h ∷ hs) new k e none =
    at (value_onto_among shape inner gs h (get h.number old) rs) (values_onto shape inner gs hs old rs) refl e
    (λ vs d f. only_own shape inner gs old rs hs vs k d f)
  where
    behind : (b : Bool) → (k == h.number) ≡ b → (if b then Some h else field_of k hs) ≡ None → ((k == h.number) ≡ false) × (field_of k hs ≡ None)
    behind true d e = absurd cc
    behind false d e = (d, e)

    with_none : (o : Option Val) (vs : Fields) → (k == h.number) ≡ false → get k vs ≡ None → get k (with_field h.number o vs) ≡ None
    with_none None vs d e = e
    with_none (Some v) vs d e = rw d e

    at : (x : Option (Option Val)) (y : Option Fields) → values_onto shape inner gs hs old rs ≡ y
        → option_and_then (λ v. option_map (with_field h.number v) y) x ≡ Some new
        → ((vs : Fields) → values_onto shape inner gs hs old rs ≡ Some vs → field_of k hs ≡ None → get k vs ≡ None) → get k new ≡ None
    at None y d e ih = absurd cc
    at (Some v) None d e ih = absurd cc
    at (Some v) (Some vs) d e ih =
        let is : with_field h.number v vs ≡ new = cc in
        let p = behind (k == h.number) refl none in
        rw (← is) (with_none v vs p.0 (ih vs d p.1))

got_at : (shape : Shape) (inner : InnerOnto) (gs : List FieldShape) (old new : Fields) (rs : List Rec) (hs : List FieldShape) (g : FieldShape)
    → AreGot shape inner gs old rs new hs → field_of g.number hs ≡ Some g → value_onto_among shape inner gs g (get g.number old) rs ≡ Some (get g.number new)
got_at shape inner gs old new rs [] g got e = absurd cc
got_at shape inner gs old new rs (h ∷ hs) g got e = at (g.number == h.number) e (λ d. got_at shape inner gs old new rs hs g got.1 d)
  where
    at : (b : Bool) → (if b then Some h else field_of g.number hs) ≡ Some g
        → (field_of g.number hs ≡ Some g → value_onto_among shape inner gs g (get g.number old) rs ≡ Some (get g.number new))
        → value_onto_among shape inner gs g (get g.number old) rs ≡ Some (get g.number new)
    at true e ih = let is : h ≡ g = cc in subst (λ (f : FieldShape). value_onto_among shape inner gs f (get f.number old) rs ≡ Some (get f.number new)) is got.0
    at false e ih = ih e

-- ---- no records

nothing_is : (shape : Shape) (inner : InnerOnto) (f : FieldShape) → value shape (from_empty inner) f [] ≡ Some None
nothing_is shape inner f = at (is_float f.kind)
  where
    by_kind : (p : Bool) (k : Kind) → singular shape (from_empty inner) p k [] ≡ Some None
    by_kind p (kind.Message t) = refl
    by_kind p k = refl

    by : (c : Cardinality) → by_cardinality shape (from_empty inner) f c [] ≡ Some None
    by Singular = by_kind f.presence f.kind
    by Repeated = refl
    by (Map key) = refl

    at : (b : Bool) → (if b then Some None else by_cardinality shape (from_empty inner) f f.cardinality []) ≡ Some None
    at true = refl
    at false = by f.cardinality

abbrev absent : Option Val
absent = None

pub none_stays : (shape : Shape) (inner : InnerOnto) (f : FieldShape) → value_onto shape inner f None [] ≡ Some None
none_stays shape inner f = value_nothing shape inner f [] ∙ nothing_is shape inner f

-- what a content has that stays as it is
record IsSettled (shape : Shape) (inner : InnerOnto) (fs : List FieldShape) (old : Fields) : Type 0 where
  values : (g : FieldShape) → field_of g.number fs ≡ Some g → value_onto shape inner g (get g.number old) [] ≡ Some (get g.number old)
  ascend : IsAscending old
  own : (k : ℕ) → field_of k fs ≡ None → get k old ≡ None

stable_layer : (shape : Shape) (inner : InnerOnto) (fs : List FieldShape) (old : Content) → AreAbove 0 fs → layer_onto shape inner fs old [] ≡ Some old
    → IsSettled shape inner fs (fields old)
stable_layer shape inner fs (content vs ks) above e = at (values_onto shape inner fs fs vs []) refl e
  where
    at : (x : Option Fields) → values_onto shape inner fs fs vs [] ≡ x → option_map (λ ws. content ws (ks ++ [])) x ≡ Some (content vs ks)
        → IsSettled shape inner fs vs
    at None d e = absurd cc
    at (Some ws) d e =
        let is : ws ≡ vs = cc in
        let same : values_onto shape inner fs fs vs [] ≡ Some vs = rw is at d in
        let got = values_got shape inner fs vs [] 0 fs vs above same in
        record {
          values =
              λ g found.
              (unbound (value shape (from_empty inner) g []) (value_onto shape inner g (get g.number vs) []) (get g.number vs)
              (got_at shape inner fs vs vs [] fs g got found)).1;
          ascend = above_ascends 0 vs (values_above shape inner fs vs [] 0 fs vs above same);
          own = λ k none. only_own shape inner fs vs [] fs vs k same none;
        }

stable_by : (shape : Shape) (levels : ℕ) (fs : List FieldShape) (old : Content) → AreAbove 0 fs → IsStableIn shape levels fs old
    → IsSettled shape (onto_at shape levels) fs (fields old)
stable_by shape levels fs old above e = stable_layer shape (onto_at shape levels) fs old above (sym (onto_is shape levels fs old []) ∙ e)

nothing_values : (shape : Shape) (inner : InnerOnto) (gs hs : List FieldShape) → values_onto shape inner gs hs no_fields [] ≡ Some no_fields
nothing_values shape inner gs [] = refl
nothing_values shape inner gs (h ∷ hs) =
    let first : value_onto_among shape inner gs h None [] ≡ Some None = rw (nothing_is shape inner h) (none_stays shape inner h) in
    rw (first, nothing_values shape inner gs hs) refl

pub empty_is_stable : EmptyIsStable
empty_is_stable shape levels fs = onto_is shape levels fs empty [] ∙ rw (nothing_values shape (onto_at shape levels) fs fs) refl

pub onto_is_stable : OntoIsStable
onto_is_stable shape levels fs old new rs proper own e =
    sym (onto_appends shape levels fs old new rs [] proper own e) ∙ ap (λ (x : List Rec). meaning_onto shape levels fs old x) (append-nil rs) ∙ e

at_payload : (shape : Shape) (levels : ℕ) → payload_onto shape levels ≡ onto_at shape levels
unfolding onto_at
at_payload shape zero = refl
at_payload shape (suc levels) = refl

nothing_among : (shape : Shape) (inner : InnerOnto) (gs : List FieldShape) (g : FieldShape) (old : Option Val)
    → value_onto_among shape inner gs g old [] ≡ value_onto shape inner g old []
nothing_among shape inner gs g old = rw (nothing_is shape inner g) refl

pub onto_nothing : OntoNothing
onto_nothing shape levels fs old new proper own asc out all =
    let inner = onto_at shape levels in
    let none : values_onto shape inner fs fs (fields old) [] ≡ Some new =
    collected shape inner fs (fields old) [] 0 fs new (are_above shape proper fs own) asc
    (λ g found. nothing_among shape inner fs g (get g.number (fields old)) ∙ (rw at_payload at (all g found))) out in
    onto_is shape levels fs old [] ∙ rw none (ap (λ (ks : List Rec). Some (content new ks)) (append-nil (kept old)))

-- ---- one record

-- of a field of another number nothing comes
quiet : (shape : Shape) (inner : InnerOnto) (fs : List FieldShape) (g : FieldShape) (old : Option Val) (r : Rec) → (number_of r == g.number) ≡ false
    → value_onto_among shape inner fs g old (r ∷ []) ≡ value_onto shape inner g (if is_rival fs g r then None else old) []
quiet shape inner fs g old r e = at (is_rival fs g r)
  where
    these : those_of g.number (r ∷ []) ≡ []
    these = rw e refl

    at : (b : Bool)
        → option_and_then (λ all. value_onto shape inner g (if (if b then true else false) then None else old) (those_of g.number (if b then [] else r ∷ [])))
        (value shape (from_empty inner) g (those_of g.number (r ∷ []))) ≡ value_onto shape inner g (if b then None else old) []
    at true = rw (these, nothing_is shape inner g) refl
    at false = rw (these, nothing_is shape inner g) refl

any_here : (p : FieldShape → Bool) (fs : List FieldShape) (g : FieldShape) → any p fs ≡ false → field_of g.number fs ≡ Some g → p g ≡ false
any_here p [] g none e = absurd cc
any_here p (h ∷ fs) g none e = at (p h) refl none (g.number == h.number) e (λ d k. any_here p fs g d k)
  where
    at : (b : Bool) → p h ≡ b → (if b then true else any p fs) ≡ false → (c : Bool) → (if c then Some h else field_of g.number fs) ≡ Some g
        → (any p fs ≡ false → field_of g.number fs ≡ Some g → p g ≡ false) → p g ≡ false
    at true d none c e ih = absurd cc
    at false d none true e ih = let is : h ≡ g = cc in ap p (sym is) ∙ d
    at false d none false e ih = ih none e

narrower : (p q : FieldShape → Bool) (fs : List FieldShape) → any p fs ≡ false → any (λ h. q h && p h) fs ≡ false
narrower p q [] e = refl
narrower p q (h ∷ fs) e = at (p h) (q h) e (narrower p q fs)
  where
    at : (b c : Bool) → (if b then true else any p fs) ≡ false → (any p fs ≡ false → any (λ h. q h && p h) fs ≡ false)
        → (if c && b then true else any (λ h. q h && p h) fs) ≡ false
    at true c e ih = absurd cc
    at false true e ih = ih e
    at false false e ih = ih e

not_true : (b : Bool) → not b ≡ true → b ≡ false
not_true true e = absurd cc
not_true false e = refl

float_among : (shape : Shape) (inner : InnerOnto) (fs : List FieldShape) (g : FieldShape) (old : Option Val) (rs : List Rec) → is_float g.kind ≡ true
    → value_onto_among shape inner fs g old rs ≡ Some None
float_among shape inner fs g old rs e = rw e refl

float_value : (shape : Shape) (inner : InnerOnto) (g : FieldShape) (old : Option Val) (rs : List Rec) → is_float g.kind ≡ true
    → value_onto shape inner g old rs ≡ Some None
float_value shape inner g old rs e = rw e refl

-- a field keeps what it has where the record is of none
keeps_among : (shape : Shape) (inner : InnerOnto) (fs : List FieldShape) (old : Fields) (r : Rec) → IsSettled shape inner fs old → is_kept fs r ≡ true
    → (g : FieldShape) → field_of g.number fs ≡ Some g
    → value_onto_among shape inner fs g (get g.number old) (r ∷ []) ≡ Some (get g.number old)
keeps_among shape inner fs old r settled k g found = at (number_of r == g.number) refl
  where
    none : any (is_read_as r) fs ≡ false
    none = not_true (any (is_read_as r) fs) k

    no_rival : is_rival fs g r ≡ false
    no_rival = narrower (is_read_as r) (is_other g) fs none

    floats : (b : Bool) → is_float g.kind ≡ b → true && not b ≡ false → is_float g.kind ≡ true
    floats true d e = d
    floats false d e = absurd cc

    at : (b : Bool) → (number_of r == g.number) ≡ b → value_onto_among shape inner fs g (get g.number old) (r ∷ []) ≡ Some (get g.number old)
    at false d = quiet shape inner fs g (get g.number old) r d ∙ rw no_rival (settled.values g found)
    at true d =
        let unread : (number_of r == g.number) && not (is_float g.kind) ≡ false = any_here (is_read_as r) fs g none found in
        let float = floats (is_float g.kind) refl (sym (ap (λ b. b && not (is_float g.kind)) d) ∙ unread) in
        let gone : Some absent ≡ Some (get g.number old) = sym (float_value shape inner g (get g.number old) [] float) ∙ settled.values g found in
        float_among shape inner fs g (get g.number old) (r ∷ []) float ∙ gone

onto_of : (shape : Shape) (levels : ℕ) (fs : List FieldShape) (old : Content) (new : Fields) (r : Rec) (b : Bool) → is_kept fs r ≡ b
    → values_onto shape (onto_at shape levels) fs fs (fields old) (r ∷ []) ≡ Some new
    → meaning_onto shape levels fs old (r ∷ []) ≡ Some (content new (kept old ++ (if b then r ∷ [] else [])))
onto_of shape levels fs old new r b k e = onto_is shape levels fs old (r ∷ []) ∙ rw (e, k) refl

pub onto_keeps_one : OntoKeepsOne
onto_keeps_one shape levels fs old r proper own settled k =
    let above = are_above shape proper fs own in
    let s = stable_by shape levels fs old above settled in
    onto_of shape levels fs old (fields old) r true k
    (collected shape (onto_at shape levels) fs (fields old) (r ∷ []) 0 fs (fields old) above s.ascend
    (keeps_among shape (onto_at shape levels) fs (fields old) r s k) s.own)

-- ---- a record of a field

no_other : (j n : ℕ) (hs : List FieldShape) (g : FieldShape) → AreAbove n hs → j ≤ n
    → any (λ h. is_other g h && (j == h.number && not (is_float h.kind))) hs ≡ false
no_other j n [] g a le = refl
no_other j n (h ∷ hs) g a le =
    let apart : (j == h.number) ≡ false = ne_eqb j h.number (λ is. absurd (omega (arith, a.0))) in
    let rest = no_other j h.number hs g a.1 (omega (arith, a.0)) in
    rw apart (at (is_other g h) rest)
  where
    at : (b : Bool) → any (λ h. is_other g h && (j == h.number && not (is_float h.kind))) hs ≡ false
        → (if b && false then true else any (λ h. is_other g h && (j == h.number && not (is_float h.kind))) hs) ≡ false
    at true e = e
    at false e = e

-- the record is of another member of a field's oneof exactly where its own field is one
rival_of : (j n : ℕ) (hs : List FieldShape) (f g : FieldShape) → AreAbove n hs → field_of j hs ≡ Some f → is_float f.kind ≡ false
    → any (λ h. is_other g h && (j == h.number && not (is_float h.kind))) hs ≡ is_other g f
rival_of j n [] f g a e read = absurd cc
rival_of j n (h ∷ hs) f g a e read = at (j == h.number) refl e (λ d. rival_of j h.number hs f g a.1 d read)
  where
    last : (b : Bool) → (if b && true then true else false) ≡ b
    last true = refl
    last false = refl

    skip : (b : Bool) → (if b && false then true else any (λ h. is_other g h && (j == h.number && not (is_float h.kind))) hs)
        ≡ any (λ h. is_other g h && (j == h.number && not (is_float h.kind))) hs
    skip true = refl
    skip false = refl

    at : (b : Bool) → (j == h.number) ≡ b → (if b then Some h else field_of j hs) ≡ Some f
        → (field_of j hs ≡ Some f → any (λ h. is_other g h && (j == h.number && not (is_float h.kind))) hs ≡ is_other g f)
        → (if is_other g h && (b && not (is_float h.kind)) then true else any (λ h. is_other g h && (j == h.number && not (is_float h.kind))) hs) ≡ is_other g f
    at true d e ih =
        let is : h ≡ f = cc in
        let kind_read : is_float h.kind ≡ false = ap (λ (x : FieldShape). is_float x.kind) is ∙ read in
        let rest = no_other j h.number hs g a.1 (let same = eqb-true j h.number d in omega arith) in
        rw (kind_read, rest) (last (is_other g h) ∙ ap (is_other g) is)
    at false d e ih = skip (is_other g h) ∙ ih e

not_own : (f : FieldShape) → is_other f f ≡ false
not_own f = at (same_oneof f.oneof f.oneof)
  where
    here : (f.number == f.number) ≡ true
    here = eq-eqb f.number f.number refl

    at : (b : Bool) → b && not (f.number == f.number) ≡ false
    at true = rw here refl
    at false = refl

own_among : (shape : Shape) (levels : ℕ) (fs : List FieldShape) (f : FieldShape) (old v : Option Val) (r : Rec) → number_of r ≡ f.number
    → is_rival fs f r ≡ false
    → value_onto shape (onto_at shape levels) f old (r ∷ []) ≡ Some v → value_onto_among shape (onto_at shape levels) fs f old (r ∷ []) ≡ Some v
own_among shape levels fs f old v r is none e = by (there (value shape (from_empty (onto_at shape levels)) f (r ∷ [])) some)
  where
    here : (number_of r == f.number) ≡ true
    here = eq-eqb (number_of r) f.number is

    some : is_some (value shape (from_empty (onto_at shape levels)) f (r ∷ [])) ≡ true
    some = sym (value_judges shape (onto_at shape levels) (onto_judges shape levels) f old (r ∷ [])) ∙ ap is_some e

    by : (x : Option Val) × (value shape (from_empty (onto_at shape levels)) f (r ∷ []) ≡ Some x)
        → value_onto_among shape (onto_at shape levels) fs f old (r ∷ []) ≡ Some v
    by (x, d) = rw (none, here, d) e

reads_among : (shape : Shape) (levels : ℕ) (fs : List FieldShape) (old : Fields) (r : Rec) (f : FieldShape) (v : Option Val) → AreAbove 0 fs
    → IsSettled shape (onto_at shape levels) fs old
    → field_of (number_of r) fs ≡ Some f → is_float f.kind ≡ false → value_onto shape (onto_at shape levels) f (get f.number old) (r ∷ []) ≡ Some v
    → (g : FieldShape) → field_of g.number fs ≡ Some g
    → value_onto_among shape (onto_at shape levels) fs g (get g.number old) (r ∷ []) ≡ Some (value_beside f v g (get g.number old))
reads_among shape levels fs old r f v above settled found read e g of_fields = at (number_of r == g.number) refl
  where
    numbered : number_of r ≡ f.number
    numbered = found_number (number_of r) fs f found

    rival : is_rival fs g r ≡ is_other g f
    rival = rival_of (number_of r) 0 fs f g above found read

    beside : (a b : Bool) → a ≡ false
        → value_onto shape (onto_at shape levels) g (if b then None else get g.number old) [] ≡ Some (if a then v else (if b then None else get g.number old))
    beside true b d = absurd cc
    beside false true d = none_stays shape (onto_at shape levels) g
    beside false false d = settled.values g of_fields

    at : (b : Bool) → (number_of r == g.number) ≡ b
        → value_onto_among shape (onto_at shape levels) fs g (get g.number old) (r ∷ []) ≡ Some (value_beside f v g (get g.number old))
    at true d =
        let same : f ≡ g = some_field f g (number_of r) fs found of_fields (eqb-true (number_of r) g.number d) in
        let here : (f.number == f.number) ≡ true = eq-eqb f.number f.number refl in
        let none : is_rival fs f r ≡ false = rival_of (number_of r) 0 fs f f above found read ∙ not_own f in
        let own : value_onto_among shape (onto_at shape levels) fs f (get f.number old) (r ∷ []) ≡ Some (value_beside f v f (get f.number old)) =
        own_among shape levels fs f (get f.number old) v r numbered none e ∙ rw here refl in
        subst (λ (h : FieldShape). value_onto_among shape (onto_at shape levels) fs h (get h.number old) (r ∷ [])
        ≡ Some (value_beside f v h (get h.number old))) same own
    at false d =
        let apart : (g.number == f.number) ≡ false = ne_eqb g.number f.number (λ is. eqb-false (number_of r) g.number d (numbered ∙ sym is)) in
        quiet shape (onto_at shape levels) fs g (get g.number old) r d
        ∙ ap (λ b. value_onto shape (onto_at shape levels) g (if b then None else get g.number old) []) rival
        ∙ beside (g.number == f.number) (is_other g f) apart

read_not_kept : (fs : List FieldShape) (r : Rec) (f : FieldShape) → field_of (number_of r) fs ≡ Some f → is_float f.kind ≡ false → is_kept fs r ≡ false
read_not_kept fs r f found read = at (any (is_read_as r) fs) refl
  where
    at : (b : Bool) → any (is_read_as r) fs ≡ b → not b ≡ false
    at true d = refl
    at false d =
        let here : (number_of r == f.number) ≡ true = eq-eqb (number_of r) f.number (found_number (number_of r) fs f found) in
        let no = any_here (is_read_as r) fs f d (found_own (number_of r) fs f found) in
        let yes : is_read_as r f ≡ true = rw (here, read) refl in
        absurd cc

pub onto_reads_one : OntoReadsOne
onto_reads_one shape levels fs old new r f v proper own settled found read e asc out all =
    let above = are_above shape proper fs own in
    let s = stable_by shape levels fs old above settled in
    let value : value_onto shape (onto_at shape levels) f (get f.number (fields old)) (r ∷ []) ≡ Some v = rw (← at_payload shape levels) e in
    onto_of shape levels fs old new r false (read_not_kept fs r f found read)
    (collected shape (onto_at shape levels) fs (fields old) (r ∷ []) 0 fs new above asc
    (λ g of_fields. reads_among shape levels fs (fields old) r f v above s found read value g of_fields
    ∙ ap (λ (o : Option Val). Some o) (sym (all g of_fields))) out)
    ∙ ap (λ (ks : List Rec). Some (content new ks)) (append-nil (kept old))
