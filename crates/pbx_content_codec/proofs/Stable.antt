-- What no records leave of a content.
use Rattle.std.proofs.Common.{◌≡◌, ℕ, zero, suc, ◌<◌, ◌≤◌, Bool, true, false, if◌then◌else◌, List, [], ◌∷◌, ◌++◌, length, map, Option, Some, None}
use Rattle.std.proofs.Common.{take, drop, drop-cons, get_or, option_map, refl, sym, ap, ◌∙◌, subst, arith, append-nil}
use Rattle.std.specs.Prelude.{◌==◌, ◌↔◌, IsTrue}
use Rattle.std.proofs.lemmas.Bool.Decides.{nat_tests}
use Rattle.std.proofs.lemmas.List.{take-append-drop, map-id}
use Rattle.pbx_wire.specs.declared.rec.Rec.{Rec}
use Rattle.pbx_content.specs.declared.shape.Kind.{Kind}
use Rattle.pbx_content.specs.declared.shape.Kind.TheVariants as kinds
use Rattle.pbx_content.specs.declared.shape.Cardinality.{Cardinality}
use Rattle.pbx_content.specs.declared.shape.Cardinality.TheVariants.{Singular, Repeated, Map}
use Rattle.pbx_content.specs.declared.shape.Shape.{Shape}
use Rattle.pbx_content.specs.declared.shape.FieldShape.{FieldShape}
use Rattle.pbx_content.specs.Content.{Key, Content, content, fields, kept, Fields, no_fields, field, Val, many, keyed, vals_of, Pairs, by_key, get, with_option, with_fields, IsAbove, IsAscending}
use Rattle.pbx_content.specs.Shape.{fields_of, field_of, is_float}
use Rattle.pbx_content.specs.Meaning.{shown}
use Rattle.pbx_content.specs.Onto.{InnerOnto, elements, pairs_held, message_held, singular_onto, onto_by_cardinality, value_onto}
use Rattle.pbx_content.specs.Sound.{IsProper}
use Rattle.pbx_content.specs.Laws.{AreFieldsOf, payload_onto}
use Rattle.pbx_content.proofs.OntoSplits.{is_plain, no_plain}
use Rattle.pbx_content.proofs.OntoLaw.{plain_onto}
use Rattle.pbx_content.proofs.OntoOne.{onto_nothing}
use Rattle.pbx_content_map.specs.Entries.{IsBelow, IsAscending as NumbersAscend}
use Rattle.pbx_content_codec.specs.declared.contents.Held.{Held}
use Rattle.pbx_content_codec.specs.declared.contents.Held as held
use Rattle.pbx_content_codec.specs.declared.contents.Pair.{Pair}
use Rattle.pbx_content_codec.specs.Keyed.{AreInOrder}
use Rattle.pbx_content_codec.specs.Stability.{IsStableTo, HasStable, stabilized_by, stabilized_at, IsStabilizedFrom, IsStableAt, AreStableAt}
use Rattle.pbx_content_codec.specs.View.{val_of, fields_in, entry_of, pair_of}
use Rattle.pbx_content_codec.specs.declared.fields.FieldView.{FieldView}
use Rattle.pbx_content_codec.specs.Fields.{view_of, field_like}
use Rattle.pbx_content_codec.proofs.Likeness.{found_view}
use Rattle.pbx_content_codec.proofs.Tree.{elements_many, pairs_there, val_of-Many, val_of-Pairs}
use Rattle.pbx_content_codec.proofs.Keyed.{by_ordered}
use Rattle.pbx_content_codec.proofs.Ready.{empty_stays}
use Rattle.pbx_content_codec.proofs.Changes.{above_ascends, get-with_option, ascending-with_option}

-- ---- one value

left_by : (shape : Shape) (inner : InnerOnto) (f : FieldShape) (c : Cardinality) (v : Option Val)
    → onto_by_cardinality shape inner f c v [] ≡ Some (stabilized_by shape f c v)
left_by shape inner f Singular v = at (is_plain f.kind) refl
  where
    at : (b : Bool) → is_plain f.kind ≡ b → singular_onto shape inner f f.kind v [] ≡ Some v
    at true p = plain_onto shape inner f f.kind v [] p
    at false p = let m = no_plain f.kind p in rw m.1 refl
left_by shape inner f Repeated v = ap (λ (x : List Val). Some (shown shape false f.kind (Some (many (vals_of x))))) (append-nil (elements v))
left_by shape inner f (Map key) v = ap (λ x. Some (shown shape false f.kind (Some (keyed (by_key x))))) (append-nil (pairs_held v))

left_is : (shape : Shape) (inner : InnerOnto) (f : FieldShape) (v : Option Val) → value_onto shape inner f v [] ≡ Some (stabilized_at shape (Some f) v)
left_is shape inner f v = at (is_float f.kind)
  where
    at : (b : Bool) → (if b then Some None else onto_by_cardinality shape inner f f.cardinality v [])
        ≡ Some (if b then None else stabilized_by shape f f.cardinality v)
    at true = refl
    at false = left_by shape inner f f.cardinality v

nothing_left : (shape : Shape) (o : Option FieldShape) → stabilized_at shape o None ≡ None
nothing_left shape None = refl
nothing_left shape (Some f) = at (is_float f.kind)
  where
    by : (c : Cardinality) → stabilized_by shape f c None ≡ None
    by Singular = refl
    by Repeated = refl
    by (Map key) = refl

    at : (b : Bool) → (if b then None else stabilized_by shape f f.cardinality None) ≡ None
    at true = refl
    at false = by f.cardinality

-- ---- one value that stays

pub not_empty : {X : Type 0} (b : Bool) (xs : List X) → (IsTrue b ↔ (xs ≡ [])) → b ≡ false → xs ≡ [] → ⊥
not_empty b xs h e none = let bad : b ≡ true = h.1 none in let worse : true ≡ false = sym bad ∙ e in absurd cc

pub list_stays : (shape : Shape) (f : FieldShape) (hs : List Held) → (hs ≡ [] → ⊥)
    → stabilized_by shape f Repeated (Some (val_of (held.Many hs))) ≡ Some (val_of (held.Many hs))
list_stays shape f [] some = absurd (some refl)
list_stays shape f (h ∷ hs) some =
    ap (λ (vs : List Val). shown shape false f.kind (Some (many (vals_of vs)))) (elements_many (h ∷ hs))
    ∙ ap (λ (v : Val). Some v) (sym (val_of-Many (h ∷ hs)))

pub pairs_stay : (shape : Shape) (f : FieldShape) (key : Kind) (ps : List Pair) → (ps ≡ [] → ⊥) → AreInOrder (map pair_of ps)
    → stabilized_by shape f (Map key) (Some (val_of (held.Pairs ps))) ≡ Some (val_of (held.Pairs ps))
pairs_stay shape f key [] some h = absurd (some refl)
pairs_stay shape f key (p ∷ ps) some h =
    ap (λ (qs : List (Key × Val)). shown shape false f.kind (Some (keyed (by_key qs)))) (pairs_there (p ∷ ps))
    ∙ ap (λ (qs : Pairs). shown shape false f.kind (Some (keyed qs))) (by_ordered (map pair_of (p ∷ ps)) h)
    ∙ ap (λ (v : Val). Some v) (sym (val_of-Pairs (p ∷ ps)))

-- ---- a content

-- each number has what is left of its value
pub record AreLeft (shape : Shape) (gs : List FieldShape) (old new : Fields) : Type 0 where
  pub ascend : IsAscending new
  pub values : (n : ℕ) → get n new ≡ stabilized_at shape (field_of n gs) (get n old)

pub stabilized_from : (shape : Shape) (gs : List FieldShape) (old new : Content) → IsProper shape → AreFieldsOf shape gs
    → AreLeft shape gs (fields old) (fields new) → kept new ≡ kept old → IsStabilizedFrom shape gs old new
stabilized_from shape gs old new proper are left keeps = λ levels.
    onto_nothing shape levels gs old (fields new) proper are left.ascend
    (λ n none. left.values n ∙ ap (λ (x : Option FieldShape). stabilized_at shape x (get n (fields old))) none)
    (λ g own. left_is shape (payload_onto shape levels) g (get g.number (fields old))
    ∙ ap (λ (x : Option Val). Some x)
    (sym (left.values g.number ∙ ap (λ (x : Option FieldShape). stabilized_at shape x (get g.number (fields old))) own)))
    ∙ ap (λ (x : Content). Some x) (whole new (kept old) keeps)
  where
    whole : (c : Content) (ks : List Rec) → kept c ≡ ks → content (fields c) ks ≡ c
    whole (content fs ls) ks e = ap (content fs) (sym e)

-- ---- contents that stay

stabilized_like : (shape : Shape) (f : FieldShape) (c : Cardinality) (v : Option Val) → stabilized_by shape (field_like (view_of f)) c v ≡ stabilized_by shape f c v
stabilized_like shape f Singular v = refl
stabilized_like shape f Repeated v = refl
stabilized_like shape f (Map key) v = refl

pub field_stays : (shape : Shape) (levels : ℕ) (gs : List FieldShape) (n : ℕ) (w : Val) (v : FieldView) → Some v ≡ option_map view_of (field_of n gs)
    → is_float v.kind ≡ false → stabilized_by shape (field_like v) v.cardinality (Some w) ≡ Some w → HasStable true shape levels (field_like v) (Some w)
    → IsStableAt shape levels gs n w
field_stays shape levels gs n w v e plain stays has =
    let f = found_view (field_of n gs) v e in (
      f.0,
      f.1,
      rw (sym (ap (λ (x : FieldView). is_float x.kind) f.2) ∙ plain)
          (sym (stabilized_like shape f.0 f.0.cardinality (Some w))
          ∙ subst (λ (x : FieldView). stabilized_by shape (field_like x) x.cardinality (Some w) ≡ Some w) f.2 stays),
      λ t deeper once kind deep s. has t deeper (ap (λ (x : FieldView). x.cardinality) f.2 ∙ once) (ap (λ (x : FieldView). x.kind) f.2 ∙ kind) deep s,
    )

stable_got : (shape : Shape) (levels : ℕ) (gs : List FieldShape) (fs : Fields) (n : ℕ) (v : Val) → AreStableAt shape levels gs fs → get n fs ≡ Some v
    → IsStableAt shape levels gs n v
stable_got shape levels gs no_fields n v h e = absurd cc
stable_got shape levels gs (field m w fs) n v h e = at (n == m) refl e (stable_got shape levels gs fs n v h.1)
  where
    at : (b : Bool) → (n == m) ≡ b → (if b then Some w else get n fs) ≡ Some v → (get n fs ≡ Some v → IsStableAt shape levels gs n v)
        → IsStableAt shape levels gs n v
    at true d e ih =
        let here : m ≡ n = grind (arith, nat_tests) in
        let same : w ≡ v = cc in
        subst (λ (x : ℕ). IsStableAt shape levels gs x v) here (subst (λ (x : Val). IsStableAt shape levels gs m x) same h.0)
    at false d e ih = ih e

stays_left : (shape : Shape) (levels : ℕ) (gs : List FieldShape) (fs : Fields) → IsAscending fs → AreStableAt shape levels gs fs → AreLeft shape gs fs fs
stays_left shape levels gs fs asc h = record { ascend = asc; values = λ n. at n (get n fs) refl }
  where
    at : (n : ℕ) (o : Option Val) → get n fs ≡ o → get n fs ≡ stabilized_at shape (field_of n gs) (get n fs)
    at n None e =
        e ∙ sym (nothing_left shape (field_of n gs)) ∙ ap (λ (x : Option Val). stabilized_at shape (field_of n gs) x) (sym e)
    at n (Some v) e =
        let s = stable_got shape levels gs fs n v h e in
        e ∙ sym s.2 ∙ ap (λ (x : Option FieldShape). stabilized_at shape x (Some v)) (sym s.1)
        ∙ ap (λ (x : Option Val). stabilized_at shape (field_of n gs) x) (sym e)

inner_stable : (shape : Shape) (d : ℕ) (gs : List FieldShape) (fs : Fields) (f : FieldShape) (t : ℕ) → AreStableAt shape (suc d) gs fs
    → field_of f.number gs ≡ Some f → f.cardinality ≡ Singular → f.kind ≡ kinds.Message t
    → IsStableTo shape d (fields_of shape t) (message_held (get f.number fs))
inner_stable shape d gs fs f t h l once kind = at (get f.number fs) refl
  where
    at : (o : Option Val) → get f.number fs ≡ o → IsStableTo shape d (fields_of shape t) (message_held o)
    at None e = empty_stays shape d (fields_of shape t)
    at (Some v) e =
        let s = stable_got shape (suc d) gs fs f.number v h e in
        let same : s.0 ≡ f = some_is s.0 f (sym s.1 ∙ l) in
        s.3 t d (ap (λ (x : FieldShape). x.cardinality) same ∙ once) (ap (λ (x : FieldShape). x.kind) same ∙ kind) refl refl
      where
        some_is : (x y : FieldShape) → Some x ≡ Some y → x ≡ y
        some_is x y e = cc

pub stable_from : (shape : Shape) (levels : ℕ) (gs : List FieldShape) (c : Content) → IsProper shape → AreFieldsOf shape gs → IsAscending (fields c)
    → AreStableAt shape levels gs (fields c) → IsStableTo shape levels gs c
unfolding IsStableTo
stable_from shape zero gs c proper are asc h = stabilized_from shape gs c c proper are (stays_left shape zero gs (fields c) asc h) refl zero
stable_from shape (suc d) gs c proper are asc h = (
  stabilized_from shape gs c c proper are (stays_left shape (suc d) gs (fields c) asc h) refl (suc d),
  λ f t l once kind. inner_stable shape d gs (fields c) f t h l once kind,
)

-- ---- put back, field by field

abbrev entries : List (ℕ × Held) → Fields
entries xs = fields_in (map entry_of xs)

-- what is there is left of the fields that were put back, and the kept records are there
pub record IsStabilizing (shape : Shape) (gs : List FieldShape) (start now : Content) (done : List (ℕ × Held)) : Type 0 where
  pub left : fields start ≡ no_fields → AreLeft shape gs (entries done) (fields now)
  pub keeps : kept now ≡ kept start

pub stabilizing_none : (shape : Shape) (gs : List FieldShape) (start : Content) → IsStabilizing shape gs start start []
stabilizing_none shape gs start = record {
  left = λ empty. subst (λ (x : Fields). AreLeft shape gs no_fields x) (sym empty)
      (record { ascend = tt; values = λ n. sym (nothing_left shape (field_of n gs)) });
  keeps = refl;
}

-- the number that stands behind others is greater
behind_first : (n : ℕ) (done : List (ℕ × Held)) (x : ℕ × Held) (rest : List (ℕ × Held)) → IsBelow n (done ++ x ∷ rest)
    → NumbersAscend (done ++ x ∷ rest) → n < x.0
behind_first n [] x rest b o = grind (arith, nat_tests)
behind_first n (d ∷ ds) x rest b o =
    let first : n < d.0 = grind (arith, nat_tests) in
    let behind : d.0 < x.0 = behind_first d.0 ds x rest o.0 o.1 in
    omega (arith, first, behind)

-- so the others have their values
get_behind : (n : ℕ) (done : List (ℕ × Held)) (x : ℕ × Held) (rest : List (ℕ × Held)) → NumbersAscend (done ++ x ∷ rest)
    → get n (entries (done ++ x ∷ [])) ≡ (if n == x.0 then Some (val_of x.1) else get n (entries done))
get_behind n [] x rest o = refl
get_behind n (d ∷ ds) x rest o = at (n == d.0) refl (n == x.0) refl (get_behind n ds x rest o.1)
  where
    at : (a : Bool) → (n == d.0) ≡ a → (b : Bool) → (n == x.0) ≡ b
        → get n (entries (ds ++ x ∷ [])) ≡ (if b then Some (val_of x.1) else get n (entries ds))
        → (if a then Some (val_of d.1) else get n (entries (ds ++ x ∷ [])))
        ≡ (if b then Some (val_of x.1) else (if a then Some (val_of d.1) else get n (entries ds)))
    at true p true q ih = let less : d.0 < x.0 = behind_first d.0 ds x rest o.0 o.1 in absurd (grind (arith, nat_tests))
    at true p false q ih = refl
    at false p b q ih = ih

left_more : (shape : Shape) (gs : List FieldShape) (x : ℕ × Val) (old more new : Fields) → AreLeft shape gs old new
    → ((n : ℕ) → get n more ≡ (if n == x.0 then Some x.1 else get n old))
    → AreLeft shape gs more (with_option x.0 (stabilized_at shape (field_of x.0 gs) (Some x.1)) new)
left_more shape gs x old more new left got = record {
  ascend = ascending-with_option x.0 (stabilized_at shape (field_of x.0 gs) (Some x.1)) new left.ascend;
  values = λ n. get-with_option n x.0 (stabilized_at shape (field_of x.0 gs) (Some x.1)) new left.ascend ∙ at n (n == x.0) refl
      ∙ ap (λ (v : Option Val). stabilized_at shape (field_of n gs) v) (sym (got n));
}
  where
    at : (n : ℕ) (b : Bool) → (n == x.0) ≡ b
        → (if b then stabilized_at shape (field_of x.0 gs) (Some x.1) else get n new)
        ≡ stabilized_at shape (field_of n gs) (if b then Some x.1 else get n old)
    at n true d =
        let here : x.0 ≡ n = grind (arith, nat_tests) in
        ap (λ (m : ℕ). stabilized_at shape (field_of m gs) (Some x.1)) here
    at n false d = left.values n

-- all are those that were put back, the next one and the others
all_parts : (all done : List (ℕ × Held)) (x : ℕ × Held) → map (λ (y : ℕ × Held). y) done ≡ take (length done) all
    → (length done < length all) × (x ≡ get_or all (length done) x) → all ≡ done ++ x ∷ drop (suc (length done)) all
all_parts all done x front next =
    sym (take-append-drop (length done) all)
    ∙ ap (λ (ys : List (ℕ × Held)). ys ++ drop (length done) all) (sym front ∙ map-id done)
    ∙ ap (λ (ys : List (ℕ × Held)). done ++ ys) (drop-cons all (length done) x next.0 ∙ ap (λ (y : ℕ × Held). y ∷ drop (suc (length done)) all) (sym next.1))

pub stabilizing_more : (shape : Shape) (gs : List FieldShape) (start now after : Content) (all done : List (ℕ × Held)) (x : ℕ × Held) → NumbersAscend all
    → map (λ (y : ℕ × Held). y) done ≡ take (length done) all → (length done < length all) × (x ≡ get_or all (length done) x)
    → IsStabilizing shape gs start now done
    → after ≡ with_fields now (with_option (entry_of x).0 (stabilized_at shape (field_of (entry_of x).0 gs) (Some (entry_of x).1)) (fields now))
    → IsStabilizing shape gs start after (done ++ x ∷ [])
stabilizing_more shape gs start (content fs ks) after all done x order front next h put = record {
  left = λ empty. subst (λ (c : Content). AreLeft shape gs (entries (done ++ x ∷ [])) (fields c)) (sym put)
      (left_more shape gs (entry_of x) (entries done) (entries (done ++ x ∷ [])) fs (h.left empty)
      (λ n. get_behind n done x (drop (suc (length done)) all) (subst NumbersAscend (all_parts all done x front next) order)));
  keeps = ap kept put ∙ h.keeps;
}

pub stabilizing_all : (shape : Shape) (gs : List FieldShape) (old start now : Content) (all : List (ℕ × Held)) → IsProper shape → AreFieldsOf shape gs
    → fields old ≡ entries all → start ≡ with_fields old no_fields → IsStabilizing shape gs start now all → IsStabilizedFrom shape gs old now
stabilizing_all shape gs (content fs ks) start now all proper are taken empty h =
    stabilized_from shape gs (content fs ks) now proper are
    (subst (λ (x : Fields). AreLeft shape gs x (fields now)) (sym taken) (h.left (ap fields empty)))
    (h.keeps ∙ ap kept empty)

-- ---- field by field, from the first to the last

-- what holds of the fields from this place on holds of all
pub record AreStableFrom (shape : Shape) (levels : ℕ) (gs : List FieldShape) (all rest : List (ℕ × Held)) (least : ℕ) : Type 0 where
  pub ascend : IsAbove least (entries rest) → IsAbove 0 (entries all)
  pub values : AreStableAt shape levels gs (entries rest) → AreStableAt shape levels gs (entries all)

pub stable_none : (shape : Shape) (levels : ℕ) (gs : List FieldShape) (all : List (ℕ × Held)) → AreStableFrom shape levels gs all all 0
stable_none shape levels gs all = record { ascend = λ h. h; values = λ h. h }

stable_more : (shape : Shape) (levels : ℕ) (gs : List FieldShape) (all rest : List (ℕ × Held)) (x : ℕ × Held) (least : ℕ)
    → AreStableFrom shape levels gs all (x ∷ rest) least → least < (entry_of x).0 → IsStableAt shape levels gs (entry_of x).0 (entry_of x).1
    → AreStableFrom shape levels gs all rest (entry_of x).0
stable_more shape levels gs all rest x least h less one = record { ascend = λ a. h.ascend (less, a); values = λ v. h.values (one, v) }

stable_all : (shape : Shape) (levels : ℕ) (gs : List FieldShape) (c : Content) (all : List (ℕ × Held)) (least : ℕ) → IsProper shape → AreFieldsOf shape gs
    → fields c ≡ entries all → AreStableFrom shape levels gs all [] least → IsStableTo shape levels gs c
stable_all shape levels gs c all least proper are is h =
    stable_from shape levels gs c proper are
    (subst IsAscending (sym is) (above_ascends 0 (entries all) (h.ascend tt)))
    (subst (AreStableAt shape levels gs) (sym is) (h.values tt))

past_all : (xs : List (ℕ × Held)) (i : ℕ) → length xs ≤ i → drop i xs ≡ []
past_all [] zero le = refl
past_all [] (suc i) le = refl
past_all (x ∷ xs) zero le = absurd (omega arith)
past_all (x ∷ xs) (suc i) le = past_all xs i (omega arith)

pub stable_end : (shape : Shape) (levels : ℕ) (gs : List FieldShape) (c : Content) (all : List (ℕ × Held)) (i least : ℕ) → IsProper shape → AreFieldsOf shape gs
    → fields c ≡ entries all → length all ≤ i → AreStableFrom shape levels gs all (drop i all) least → IsStableTo shape levels gs c
stable_end shape levels gs c all i least proper are is le h =
    stable_all shape levels gs c all least proper are is
    (subst (λ (xs : List (ℕ × Held)). AreStableFrom shape levels gs all xs least) (past_all all i le) h)

pub stable_step : (shape : Shape) (levels : ℕ) (gs : List FieldShape) (all : List (ℕ × Held)) (i : ℕ) (x : ℕ × Held) (least : ℕ) → i < length all
    → x ≡ get_or all i x → AreStableFrom shape levels gs all (drop i all) least → least < (entry_of x).0
    → IsStableAt shape levels gs (entry_of x).0 (entry_of x).1 → AreStableFrom shape levels gs all (drop (suc i) all) (entry_of x).0
stable_step shape levels gs all i x least lt is h less one =
    let front : drop i all ≡ x ∷ drop (suc i) all = drop-cons all i x lt ∙ ap (λ (y : ℕ × Held). y ∷ drop (suc i) all) (sym is) in
    stable_more shape levels gs all (drop (suc i) all) x least (subst (λ (xs : List (ℕ × Held)). AreStableFrom shape levels gs all xs least) front h) less one
