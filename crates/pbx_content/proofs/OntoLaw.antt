-- What records mean behind a content: behind nothing, behind what other records mean, and when at all.
use Rattle.std.proofs.Common.{◌≡◌, ℕ, zero, suc, Bool, true, false, ◌&&◌, if◌then◌else◌, List, [], ◌∷◌, Option, Some, None, option_map, refl, sym, ap, ◌∙◌}
use Rattle.std.proofs.Common.{subst}
use Rattle.std.specs.Prelude.{◌↔◌, option_and_then}
use Rattle.std.specs.Option.{is_some}
use Rattle.pbx_wire.specs.declared.rec.Rec.{Rec}
use Rattle.pbx_content.specs.declared.shape.Kind.{Kind}
use Rattle.pbx_content.specs.declared.shape.Kind.TheVariants as kind
use Rattle.pbx_content.specs.declared.shape.Cardinality.{Cardinality}
use Rattle.pbx_content.specs.declared.shape.Cardinality.TheVariants.{Singular, Repeated, Map}
use Rattle.pbx_content.specs.declared.shape.Shape.{Shape}
use Rattle.pbx_content.specs.declared.shape.FieldShape.{FieldShape}
use Rattle.pbx_content.specs.Content.{Content, empty, fields, get, Fields, no_fields, Val}
use Rattle.pbx_content.specs.Records.{bytes_of, those_of, each, last_of, any, after_last}
use Rattle.pbx_content.specs.Shape.{fields_of, is_float, is_rival}
use Rattle.pbx_content.specs.Meaning.{Inner, no_inner, alone, spread, shown, joined, entry_in, singular, by_cardinality, value, value_among, with_field, values}
use Rattle.pbx_content.specs.Meaning.{layer, records_of, meaning}
use Rattle.pbx_content.specs.Onto.{message_held, still, InnerOnto, from_empty, latest, joined_onto, singular_onto, onto_by_cardinality, value_onto}
use Rattle.pbx_content.specs.Onto.{value_onto_among, values_onto, layer_onto, meaning_onto}
use Rattle.pbx_content.proofs.OntoSplits.{there_map, not_there, is_plain, no_plain, plain_singular, Splits, those_there, among_there, there_both, inner_at}
use Rattle.pbx_content.proofs.OntoSplits.{meaning_is, inner_splits}

-- ---- behind nothing

latest_nothing : (shape : Shape) (f : FieldShape) (o : Option Val) → latest shape f None o ≡ shown shape f.presence f.kind o
latest_nothing shape f None = refl
latest_nothing shape f (Some v) = refl

pub joined_nothing : (inner : InnerOnto) (gs : List FieldShape) (bs : List (List ℕ)) → joined_onto inner gs None bs ≡ joined (from_empty inner) gs bs
joined_nothing inner gs [] = refl
joined_nothing inner gs (b ∷ bs) = refl

-- a field of at most one that is no message
pub plain_onto : (shape : Shape) (inner : InnerOnto) (f : FieldShape) (k : Kind) (old : Option Val) (rs : List Rec) → is_plain k ≡ true
    → singular_onto shape inner f k old rs ≡ option_map (λ vs. latest shape f old (last_of vs)) (each (alone shape no_inner k) rs)
plain_onto shape inner f (kind.Message t) old rs e = absurd cc
plain_onto shape inner f k old rs e = refl

singular_nothing : (shape : Shape) (inner : InnerOnto) (f : FieldShape) (rs : List Rec)
    → singular_onto shape inner f f.kind None rs ≡ singular shape (from_empty inner) f.presence f.kind rs
singular_nothing shape inner f rs = at (is_plain f.kind) refl
  where
    messages : (t : ℕ) (o : Option (List (List ℕ)))
        → option_and_then (joined_onto inner (fields_of shape t) None) o ≡ option_and_then (joined (from_empty inner) (fields_of shape t)) o
    messages t None = refl
    messages t (Some bs) = joined_nothing inner (fields_of shape t) bs

    scalars : (o : Option (List Val))
        → option_map (λ vs. latest shape f None (last_of vs)) o ≡ option_map (λ vs. shown shape f.presence f.kind (last_of vs)) o
    scalars None = refl
    scalars (Some vs) = ap (λ (x : Option Val). Some x) (latest_nothing shape f (last_of vs))

    at : (b : Bool) → is_plain f.kind ≡ b → singular_onto shape inner f f.kind None rs ≡ singular shape (from_empty inner) f.presence f.kind rs
    at true e =
        plain_onto shape inner f f.kind None rs e ∙ scalars (each (alone shape no_inner f.kind) rs)
        ∙ sym (plain_singular shape (from_empty inner) f.presence f.kind rs e)
    at false e = let m = no_plain f.kind e in rw m.1 (messages m.0 (each bytes_of rs))

cardinality_nothing : (shape : Shape) (inner : InnerOnto) (f : FieldShape) (c : Cardinality) (rs : List Rec)
    → onto_by_cardinality shape inner f c None rs ≡ by_cardinality shape (from_empty inner) f c rs
cardinality_nothing shape inner f Singular rs = singular_nothing shape inner f rs
cardinality_nothing shape inner f Repeated rs = refl
cardinality_nothing shape inner f (Map key) rs = refl

pub value_nothing : (shape : Shape) (inner : InnerOnto) (f : FieldShape) (rs : List Rec)
    → value_onto shape inner f None rs ≡ value shape (from_empty inner) f rs
value_nothing shape inner f rs = at (is_float f.kind)
  where
    at : (b : Bool)
        → (if b then Some None else onto_by_cardinality shape inner f f.cardinality None rs)
        ≡ (if b then Some None else by_cardinality shape (from_empty inner) f f.cardinality rs)
    at true = refl
    at false = cardinality_nothing shape inner f f.cardinality rs

abbrev absent : Option Val
absent = None

still_nothing : (gs : List FieldShape) (f : FieldShape) (rs : List Rec) → still gs f rs absent ≡ absent
still_nothing gs f rs = at (any (is_rival gs f) rs)
  where
    at : (b : Bool) → (if b then absent else absent) ≡ absent
    at true = refl
    at false = refl

among_nothing : (shape : Shape) (inner : InnerOnto) (gs : List FieldShape) (f : FieldShape) (rs : List Rec)
    → value_onto_among shape inner gs f None rs ≡ value_among shape (from_empty inner) gs f rs
among_nothing shape inner gs f rs =
    let counting = those_of f.number (after_last (is_rival gs f) rs) in
    ap (λ (x : Option (Option Val)). option_and_then (λ all. x) (value shape (from_empty inner) f (those_of f.number rs)))
    (ap (λ (x : Option Val). value_onto shape inner f x counting) (still_nothing gs f rs) ∙ value_nothing shape inner f counting)

values_nothing : (shape : Shape) (inner : InnerOnto) (gs hs : List FieldShape) (rs : List Rec)
    → values_onto shape inner gs hs no_fields rs ≡ values shape (from_empty inner) gs hs rs
values_nothing shape inner gs [] rs = refl
values_nothing shape inner gs (h ∷ hs) rs = rw (among_nothing shape inner gs h rs, values_nothing shape inner gs hs rs) refl

pub layer_nothing : (shape : Shape) (inner : InnerOnto) (gs : List FieldShape) (rs : List Rec)
    → layer_onto shape inner gs empty rs ≡ layer shape (from_empty inner) gs rs
layer_nothing shape inner gs rs = rw (values_nothing shape inner gs gs rs) refl

-- what payloads mean behind a content, with one level fewer left for each
unfoldable pub onto_at : Shape → ℕ → InnerOnto
onto_at shape zero gs c bs = None
onto_at shape (suc levels) gs c bs = option_and_then (meaning_onto shape levels gs c) (records_of levels bs)

pub onto_is : (shape : Shape) (levels : ℕ) (gs : List FieldShape) (old : Content) (rs : List Rec)
    → meaning_onto shape levels gs old rs ≡ layer_onto shape (onto_at shape levels) gs old rs
unfolding meaning_onto onto_at
onto_is shape zero gs old rs = refl
onto_is shape (suc levels) gs old rs = refl

alike : (f g : Inner) → ((gs : List FieldShape) (bs : List (List ℕ)) → f gs bs ≡ g gs bs) → f ≡ g
alike f g h = λ i. λ gs. λ bs. h gs bs i

bound_alike : {A B : Type 0} (f g : A → Option B) (o : Option A) → ((x : A) → f x ≡ g x) → option_and_then f o ≡ option_and_then g o
bound_alike f g None h = refl
bound_alike f g (Some x) h = h x

onto_by : (shape : Shape) (levels : ℕ) → from_empty (onto_at shape levels) ≡ inner_at shape levels → (gs : List FieldShape) (rs : List Rec)
    → meaning_onto shape levels gs empty rs ≡ meaning shape levels gs rs
onto_by shape levels e gs rs =
    onto_is shape levels gs empty rs ∙ layer_nothing shape (onto_at shape levels) gs rs ∙ ap (λ (x : Inner). layer shape x gs rs) e
    ∙ sym (meaning_is shape levels gs rs)

pub inners_alike : (shape : Shape) (levels : ℕ) → from_empty (onto_at shape levels) ≡ inner_at shape levels
unfolding onto_at inner_at
inners_alike shape zero = refl
inners_alike shape (suc l) = alike (from_empty (onto_at shape (suc l))) (inner_at shape (suc l)) (λ gs bs.
    bound_alike (meaning_onto shape l gs empty) (meaning shape l gs) (records_of l bs) (λ rs. onto_by shape l (inners_alike shape l) gs rs))

-- Behind nothing, records mean what they mean.
pub onto_empty : (shape : Shape) (levels : ℕ) (gs : List FieldShape) (rs : List Rec) → meaning_onto shape levels gs empty rs ≡ meaning shape levels gs rs
onto_empty shape levels gs rs = onto_by shape levels (inners_alike shape levels) gs rs

pub onto_splits : (shape : Shape) (levels : ℕ) → Splits (from_empty (onto_at shape levels))
onto_splits shape levels = subst Splits (sym (inners_alike shape levels)) (inner_splits shape levels)

-- ---- when at all

-- payloads mean something behind a content exactly where they do behind nothing
pub record Judges (inner : InnerOnto) : Type 0 where
  pub judges : (gs : List FieldShape) (c : Content) (bs : List (List ℕ)) → is_some (inner gs c bs) ≡ is_some (inner gs empty bs)

maps_judge : {A B C : Type 0} (g : A → B) (h : A → C) (o : Option A) → is_some (option_map g o) ≡ is_some (option_map h o)
maps_judge g h None = refl
maps_judge g h (Some x) = refl

joined_judges : (inner : InnerOnto) → Judges inner → (gs : List FieldShape) (old : Option Val) (bs : List (List ℕ))
    → is_some (joined_onto inner gs old bs) ≡ is_some (joined (from_empty inner) gs bs)
joined_judges inner j gs old [] = refl
joined_judges inner j gs old (b ∷ bs) =
    there_map _ (inner gs (message_held old) (b ∷ bs)) ∙ j.judges gs (message_held old) (b ∷ bs) ∙ sym (there_map _ (inner gs empty (b ∷ bs)))

singular_judges : (shape : Shape) (inner : InnerOnto) → Judges inner → (f : FieldShape) (old : Option Val) (rs : List Rec)
    → is_some (singular_onto shape inner f f.kind old rs) ≡ is_some (singular shape (from_empty inner) f.presence f.kind rs)
singular_judges shape inner j f old rs = at (is_plain f.kind) refl
  where
    messages : (t : ℕ) (o : Option (List (List ℕ)))
        → is_some (option_and_then (joined_onto inner (fields_of shape t) old) o)
        ≡ is_some (option_and_then (joined (from_empty inner) (fields_of shape t)) o)
    messages t None = refl
    messages t (Some bs) = joined_judges inner j (fields_of shape t) old bs

    at : (b : Bool) → is_plain f.kind ≡ b
        → is_some (singular_onto shape inner f f.kind old rs) ≡ is_some (singular shape (from_empty inner) f.presence f.kind rs)
    at true e =
        ap is_some (plain_onto shape inner f f.kind old rs e)
        ∙ maps_judge _ (λ vs. shown shape f.presence f.kind (last_of vs)) (each (alone shape no_inner f.kind) rs)
        ∙ ap is_some (sym (plain_singular shape (from_empty inner) f.presence f.kind rs e))
    at false e = let m = no_plain f.kind e in rw m.1 (messages m.0 (each bytes_of rs))

cardinality_judges : (shape : Shape) (inner : InnerOnto) → Judges inner → (f : FieldShape) (c : Cardinality) (old : Option Val) (rs : List Rec)
    → is_some (onto_by_cardinality shape inner f c old rs) ≡ is_some (by_cardinality shape (from_empty inner) f c rs)
cardinality_judges shape inner j f Singular old rs = singular_judges shape inner j f old rs
cardinality_judges shape inner j f Repeated old rs = maps_judge _ _ (each (spread shape (from_empty inner) f.kind) rs)
cardinality_judges shape inner j f (Map key) old rs = maps_judge _ _ (each (entry_in (from_empty inner) key f.kind) rs)

pub value_judges : (shape : Shape) (inner : InnerOnto) → Judges inner → (f : FieldShape) (old : Option Val) (rs : List Rec)
    → is_some (value_onto shape inner f old rs) ≡ is_some (value shape (from_empty inner) f rs)
value_judges shape inner j f old rs = at (is_float f.kind)
  where
    at : (b : Bool)
        → is_some (if b then Some None else onto_by_cardinality shape inner f f.cardinality old rs)
        ≡ is_some (if b then Some None else by_cardinality shape (from_empty inner) f f.cardinality rs)
    at true = refl
    at false = cardinality_judges shape inner j f f.cardinality old rs

among_judges : (shape : Shape) (inner : InnerOnto) → Judges inner → Splits (from_empty inner)
    → (gs : List FieldShape) (f : FieldShape) (old : Option Val) (rs : List Rec)
    → is_some (value_onto_among shape inner gs f old rs) ≡ is_some (value shape (from_empty inner) f (those_of f.number rs))
among_judges shape inner j s gs f old rs = at (value shape (from_empty inner) f (those_of f.number rs)) refl
  where
    counting : List Rec
    counting = those_of f.number (after_last (is_rival gs f) rs)

    at : (o : Option (Option Val)) → value shape (from_empty inner) f (those_of f.number rs) ≡ o
        → is_some (option_and_then (λ all. value_onto shape inner f (still gs f rs old) (those_of f.number (after_last (is_rival gs f) rs))) o) ≡ is_some o
    at None e = refl
    at (Some v) e =
        value_judges shape inner j f (still gs f rs old) (those_of f.number (after_last (is_rival gs f) rs))
        ∙ those_there shape (from_empty inner) s gs f rs v e

values_judge : (shape : Shape) (inner : InnerOnto) → Judges inner → Splits (from_empty inner) → (gs hs : List FieldShape) (old : Fields) (rs : List Rec)
    → is_some (values_onto shape inner gs hs old rs) ≡ is_some (values shape (from_empty inner) gs hs rs)
values_judge shape inner j s gs [] old rs = refl
values_judge shape inner j s gs (h ∷ hs) old rs =
    there_both (with_field h.number) (value_onto_among shape inner gs h (get h.number old) rs) (values_onto shape inner gs hs old rs)
    ∙ ap (λ b. b && is_some (values_onto shape inner gs hs old rs))
    (among_judges shape inner j s gs h (get h.number old) rs ∙ sym (among_there shape (from_empty inner) s gs h rs))
    ∙ ap (λ b. is_some (value_among shape (from_empty inner) gs h rs) && b) (values_judge shape inner j s gs hs old rs)
    ∙ sym (there_both (with_field h.number) (value_among shape (from_empty inner) gs h rs) (values shape (from_empty inner) gs hs rs))

layer_judges : (shape : Shape) (inner : InnerOnto) → Judges inner → Splits (from_empty inner) → (gs : List FieldShape) (old : Content) (rs : List Rec)
    → is_some (layer_onto shape inner gs old rs) ≡ is_some (layer shape (from_empty inner) gs rs)
layer_judges shape inner j s gs old rs =
    there_map _ (values_onto shape inner gs gs (fields old) rs) ∙ values_judge shape inner j s gs gs (fields old) rs
    ∙ sym (there_map _ (values shape (from_empty inner) gs gs rs))

judges_by : (shape : Shape) (levels : ℕ) → Judges (onto_at shape levels) → (gs : List FieldShape) (old : Content) (rs : List Rec)
    → is_some (meaning_onto shape levels gs old rs) ≡ is_some (meaning shape levels gs rs)
judges_by shape levels j gs old rs =
    ap is_some (onto_is shape levels gs old rs) ∙ layer_judges shape (onto_at shape levels) j (onto_splits shape levels) gs old rs
    ∙ ap (λ (x : Inner). is_some (layer shape x gs rs)) (inners_alike shape levels) ∙ ap is_some (sym (meaning_is shape levels gs rs))

there_bound : {A B C : Type 0} (f : A → Option B) (g : A → Option C) (o : Option A) → ((x : A) → is_some (f x) ≡ is_some (g x))
    → is_some (option_and_then f o) ≡ is_some (option_and_then g o)
there_bound f g None h = refl
there_bound f g (Some x) h = h x

pub onto_judges : (shape : Shape) (levels : ℕ) → Judges (onto_at shape levels)
unfolding onto_at
onto_judges shape zero = record { judges = λ gs c bs. refl }
onto_judges shape (suc l) = record {
  judges = λ gs c bs.
      there_bound (meaning_onto shape l gs c) (meaning_onto shape l gs empty) (records_of l bs)
      (λ rs. judges_by shape l (onto_judges shape l) gs c rs ∙ sym (judges_by shape l (onto_judges shape l) gs empty rs));
}

-- Records mean something behind a content exactly where they mean something by themselves.
pub judges_new : (shape : Shape) (levels : ℕ) (gs : List FieldShape) (old : Content) (rs : List Rec)
    → (meaning_onto shape levels gs old rs ≡ None) ↔ (meaning shape levels gs rs ≡ None)
judges_new shape levels gs old rs =
    let e = judges_by shape levels (onto_judges shape levels) gs old rs in
    (λ h. not_there (meaning shape levels gs rs) (sym e ∙ ap is_some h), λ h. not_there (meaning_onto shape levels gs old rs) (e ∙ ap is_some h))

pub unbound : {A B : Type 0} (o : Option A) (p : Option B) (y : B) → option_and_then (λ all. p) o ≡ Some y → ((x : A) × (o ≡ Some x)) × (p ≡ Some y)
unbound None p y e = absurd cc
unbound (Some x) p y e = ((x, refl), e)
