-- What records mean behind a content, one after another.
use Rattle.std.proofs.Common.{◌≡◌, ℕ, zero, suc, Bool, true, false, ◌&&◌, if◌then◌else◌, List, [], ◌∷◌, ◌++◌, map, Option, Some, None, option_map, inl, refl}
use Rattle.std.proofs.Common.{sym}
use Rattle.std.proofs.Common.{ap, ◌∙◌, arith, append-nil, append_assoc}
use Rattle.std.specs.Prelude.{option_and_then}
use Rattle.std.specs.Option.{is_some}
use Rattle.std.specs.List.{filter}
use Rattle.std.proofs.lemmas.List.{map-append}
use Rattle.std.proofs.lemmas.List.Elements.{filter-append}
use Rattle.pbx_wire.specs.declared.rec.Rec.{Rec}
use Rattle.pbx_content.specs.declared.shape.Kind.{Kind}
use Rattle.pbx_content.specs.declared.shape.Cardinality.{Cardinality}
use Rattle.pbx_content.specs.declared.shape.Cardinality.TheVariants.{Singular, Repeated, Map}
use Rattle.pbx_content.specs.declared.shape.Shape.{Shape}
use Rattle.pbx_content.specs.declared.shape.FieldShape.{FieldShape}
use Rattle.pbx_content.specs.Content.{Key, Content, content, empty, kept, fields, get, Fields, Val, message, many, keyed, Pairs, no_pairs, pair, vals_of}
use Rattle.pbx_content.specs.Content.{by_key}
use Rattle.pbx_content.specs.Records.{bytes_of, is_of, those_of, each, flat, last_of, any, after_last}
use Rattle.pbx_content.specs.Shape.{fields_of, is_float, is_kept, is_rival}
use Rattle.pbx_content.specs.Meaning.{meaning, no_inner, alone, spread, shown, pair_in, entry_in, value, records_of}
use Rattle.pbx_content.specs.Onto.{list_of, pair_list, elements, pairs_held, message_held, still, InnerOnto, from_empty, latest, joined_onto, singular_onto}
use Rattle.pbx_content.specs.Onto.{onto_by_cardinality, value_onto, value_onto_among, values_onto, layer_onto, meaning_onto}
use Rattle.pbx_content.specs.Laws.{OntoIsFollowing, OntoAppends, OntoMeansAlone}
use Rattle.pbx_content.proofs.OntoSplits.{each-append, flat-append, is_plain, no_plain, Splits, value_splits, records-append}
use Rattle.pbx_content.proofs.OntoPairs.{by_key-again}
use Rattle.pbx_content.proofs.OntoFields.{AreAbove, fields_ascend, AreGot, values_got}
use Rattle.pbx_content.proofs.OntoLaw.{judges_new, plain_onto, onto_at, onto_is, onto_empty, onto_splits, unbound}
use Rattle.pbx_content.proofs.FaultyLaw.{are_above}

-- payloads mean behind what others mean what all of them mean together
record Appends (shape : Shape) (inner : InnerOnto) : Type 0 where
  appends : (t : ℕ) (bs cs : List (List ℕ)) (old new : Content) → inner (fields_of shape t) old bs ≡ Some new
      → inner (fields_of shape t) new cs ≡ inner (fields_of shape t) old (bs ++ cs)

-- ---- one field

last_some : {X : Type 0} (x : X) (xs : List X) → (y : X) × (last_of (x ∷ xs) ≡ Some y)
last_some x [] = (x, refl)
last_some x (z ∷ xs) = last_some z xs

last_of-append : {X : Type 0} (xs : List X) (y : X) (ys : List X) → last_of (xs ++ y ∷ ys) ≡ last_of (y ∷ ys)
last_of-append [] y ys = refl
last_of-append (x ∷ []) y ys = refl
last_of-append (x ∷ z ∷ xs) y ys = last_of-append (z ∷ xs) y ys

list-vals : (vs : List Val) → list_of (vals_of vs) ≡ vs
list-vals [] = refl
list-vals (v ∷ vs) = ap (λ (t : List Val). v ∷ t) (list-vals vs)

elements-shown : (shape : Shape) (k : Kind) (vs : List Val) → elements (shown shape false k (Some (many (vals_of vs)))) ≡ vs
elements-shown shape k [] = refl
elements-shown shape k (v ∷ vs) = ap (λ (t : List Val). v ∷ t) (list-vals vs)

pub pairs-shown : (shape : Shape) (k : Kind) (ps : Pairs) → pairs_held (shown shape false k (Some (keyed ps))) ≡ pair_list ps
pairs-shown shape k no_pairs = refl
pairs-shown shape k (pair l v ps) = refl

latest_appends : (shape : Shape) (f : FieldShape) (old : Option Val) (xs ys : List Val)
    → latest shape f (latest shape f old (last_of xs)) (last_of ys) ≡ latest shape f old (last_of (xs ++ ys))
latest_appends shape f old xs [] = ap (λ (x : List Val). latest shape f old (last_of x)) (sym (append-nil xs))
latest_appends shape f old xs (y ∷ ys) =
    let last = last_some y ys in
    rw (last_of-append xs y ys, last.1) refl

-- a value of what all records give goes on with those of the next
gathers_append : {Y : Type 0} (f : Rec → Option Y) (onto : Option Val → List Y → Option Val)
    → ((o : Option Val) (as' bs : List Y) → onto (onto o as') bs ≡ onto o (as' ++ bs))
    → (xs ys : List Rec) (old new : Option Val) → option_map (onto old) (each f xs) ≡ Some new
    → option_map (onto new) (each f ys) ≡ option_map (onto old) (each f (xs ++ ys))
gathers_append {Y = Y} f onto step xs ys old new e = at (each f xs) (each f ys) (each-append f xs ys) e
  where
    at : (a b : Option (List Y)) → each f (xs ++ ys) ≡ option_and_then (λ a. option_map (λ c. a ++ c) b) a → option_map (onto old) a ≡ Some new
        → option_map (onto new) b ≡ option_map (onto old) (each f (xs ++ ys))
    at None b d e = absurd cc
    at (Some vs) None d e = rw d refl
    at (Some vs) (Some ws) d e =
        let is : new ≡ onto old vs = cc in
        rw (d, is) (ap (λ (x : Option Val). Some x) (step old vs ws))

joined_appends : (shape : Shape) (inner : InnerOnto) → Appends shape inner → (t : ℕ) (bs cs : List (List ℕ)) (old new : Option Val)
    → joined_onto inner (fields_of shape t) old bs ≡ Some new
    → joined_onto inner (fields_of shape t) new cs ≡ joined_onto inner (fields_of shape t) old (bs ++ cs)
joined_appends shape inner s t [] cs old new e =
    let is : old ≡ new = cc in
    rw is refl
joined_appends shape inner s t (b ∷ bs) [] old new e =
    sym e ∙ ap (λ (x : List (List ℕ)). joined_onto inner (fields_of shape t) old x) (sym (append-nil (b ∷ bs)))
joined_appends shape inner s t (b ∷ bs) (c ∷ cs) old new e = at (inner (fields_of shape t) (message_held old) (b ∷ bs)) refl e
  where
    at : (x : Option Content) → inner (fields_of shape t) (message_held old) (b ∷ bs) ≡ x → option_map (λ c. Some (message c)) x ≡ Some new
        → joined_onto inner (fields_of shape t) new (c ∷ cs) ≡ joined_onto inner (fields_of shape t) old ((b ∷ bs) ++ (c ∷ cs))
    at None d e = absurd cc
    at (Some m) d e =
        let is : Some (message m) ≡ new = cc in
        rw (← is) (ap (option_map (λ c. Some (message c))) (s.appends t (b ∷ bs) (c ∷ cs) (message_held old) m d))

messages_append : (shape : Shape) (inner : InnerOnto) → Appends shape inner → (t : ℕ) (xs ys : List Rec) (old new : Option Val)
    → option_and_then (joined_onto inner (fields_of shape t) old) (each bytes_of xs) ≡ Some new
    → option_and_then (joined_onto inner (fields_of shape t) new) (each bytes_of ys)
    ≡ option_and_then (joined_onto inner (fields_of shape t) old) (each bytes_of (xs ++ ys))
messages_append shape inner s t xs ys old new e = at (each bytes_of xs) (each bytes_of ys) (each-append bytes_of xs ys) e
  where
    at : (a b : Option (List (List ℕ))) → each bytes_of (xs ++ ys) ≡ option_and_then (λ a. option_map (λ c. a ++ c) b) a
        → option_and_then (joined_onto inner (fields_of shape t) old) a ≡ Some new
        → option_and_then (joined_onto inner (fields_of shape t) new) b ≡ option_and_then (joined_onto inner (fields_of shape t) old) (each bytes_of (xs ++ ys))
    at None b d e = absurd cc
    at (Some bs) None d e = rw d refl
    at (Some bs) (Some cs) d e = rw d (joined_appends shape inner s t bs cs old new e)

singular_appends : (shape : Shape) (inner : InnerOnto) → Appends shape inner → (f : FieldShape) (xs ys : List Rec) (old new : Option Val)
    → singular_onto shape inner f f.kind old xs ≡ Some new
    → singular_onto shape inner f f.kind new ys ≡ singular_onto shape inner f f.kind old (xs ++ ys)
singular_appends shape inner s f xs ys old new = at (is_plain f.kind) refl
  where
    at : (b : Bool) → is_plain f.kind ≡ b → singular_onto shape inner f f.kind old xs ≡ Some new
        → singular_onto shape inner f f.kind new ys ≡ singular_onto shape inner f f.kind old (xs ++ ys)
    at true p e =
        plain_onto shape inner f f.kind new ys p
        ∙ gathers_append (alone shape no_inner f.kind) (λ o vs. latest shape f o (last_of vs)) (latest_appends shape f) xs ys old new
        (sym (plain_onto shape inner f f.kind old xs p) ∙ e)
        ∙ sym (plain_onto shape inner f f.kind old (xs ++ ys) p)
    at false p e =
        let m = no_plain f.kind p in
        rw m.1 (messages_append shape inner s m.0 xs ys old new (rw m.1 at e))

-- the old elements and then the new, and the pairs of both
abbrev list_after : Shape → Kind → Option Val → List (List Val) → Option Val
list_after shape k old vs = shown shape false k (Some (many (vals_of (elements old ++ flat vs))))

abbrev map_after : Shape → Kind → Kind → Option Val → List Content → Option Val
map_after shape key k old cs = shown shape false k (Some (keyed (by_key (pairs_held old ++ map (pair_in shape key k) cs))))

list_appends : (shape : Shape) (k : Kind) (o : Option Val) (as' bs : List (List Val))
    → list_after shape k (list_after shape k o as') bs ≡ list_after shape k o (as' ++ bs)
list_appends shape k o as' bs = rw (elements-shown shape k (elements o ++ flat as'), flat-append as' bs, append_assoc (elements o) (flat as') (flat bs)) refl

map_appends : (shape : Shape) (key k : Kind) (o : Option Val) (as' bs : List Content)
    → map_after shape key k (map_after shape key k o as') bs ≡ map_after shape key k o (as' ++ bs)
map_appends shape key k o as' bs =
    let p = pair_in shape key k in
    let pairs = λ (cs : List Content). pairs_held o ++ map p cs in
    let both : pairs as' ++ map p bs ≡ pairs (as' ++ bs) =
    append_assoc (pairs_held o) (map p as') (map p bs) ∙ ap (λ (x : List (Key × Val)). pairs_held o ++ x) (sym (map-append p as' bs)) in
    ap (λ (x : List (Key × Val)). shown shape false k (Some (keyed (by_key (x ++ map p bs))))) (pairs-shown shape k (by_key (pairs as')))
    ∙ ap (λ (x : Pairs). shown shape false k (Some (keyed x))) (by_key-again (pairs as') (map p bs) ∙ ap by_key both)

cardinality_appends : (shape : Shape) (inner : InnerOnto) → Appends shape inner → (f : FieldShape) (c : Cardinality) (xs ys : List Rec) (old new : Option Val)
    → onto_by_cardinality shape inner f c old xs ≡ Some new → onto_by_cardinality shape inner f c new ys ≡ onto_by_cardinality shape inner f c old (xs ++ ys)
cardinality_appends shape inner s f Singular xs ys old new e = singular_appends shape inner s f xs ys old new e
cardinality_appends shape inner s f Repeated xs ys old new e =
    gathers_append (spread shape (from_empty inner) f.kind) (list_after shape f.kind) (list_appends shape f.kind) xs ys old new e
cardinality_appends shape inner s f (Map key) xs ys old new e =
    gathers_append (entry_in (from_empty inner) key f.kind) (map_after shape key f.kind) (map_appends shape key f.kind) xs ys old new e

value_appends : (shape : Shape) (inner : InnerOnto) → Appends shape inner → (f : FieldShape) (xs ys : List Rec) (old new : Option Val)
    → value_onto shape inner f old xs ≡ Some new
    → value_onto shape inner f new ys ≡ value_onto shape inner f old (xs ++ ys)
value_appends shape inner s f xs ys old new e = at (is_float f.kind) e
  where
    at : (b : Bool) → (if b then Some None else onto_by_cardinality shape inner f f.cardinality old xs) ≡ Some new
        → (if b then Some None else onto_by_cardinality shape inner f f.cardinality new ys)
        ≡ (if b then Some None else onto_by_cardinality shape inner f f.cardinality old (xs ++ ys))
    at true e = refl
    at false e = cardinality_appends shape inner s f f.cardinality xs ys old new e

-- ---- with the other members of the field's oneof

after_last-late : (p : Rec → Bool) (xs ys : List Rec) → any p ys ≡ true → after_last p (xs ++ ys) ≡ after_last p ys
after_last-late p [] ys e = refl
after_last-late p (x ∷ xs) ys e = rw (any_late xs) (after_last-late p xs ys e)
  where
    any_late : (xs : List Rec) → any p (xs ++ ys) ≡ true
    any_late [] = e
    any_late (x ∷ xs) = at (p x) (any_late xs)
      where
        at : (b : Bool) → any p (xs ++ ys) ≡ true → (if b then true else any p (xs ++ ys)) ≡ true
        at true h = refl
        at false h = h

any-early : (p : Rec → Bool) (xs ys : List Rec) → any p ys ≡ false → any p (xs ++ ys) ≡ any p xs
any-early p [] ys e = e
any-early p (x ∷ xs) ys e = ap (λ b. if p x then true else b) (any-early p xs ys e)

after_last_none : (p : Rec → Bool) (rs : List Rec) → any p rs ≡ false → after_last p rs ≡ rs
after_last_none p [] e = refl
after_last_none p (r ∷ rs) e = grind arith

after_last-early : (p : Rec → Bool) (xs ys : List Rec) → any p ys ≡ false → after_last p (xs ++ ys) ≡ after_last p xs ++ ys
after_last-early p [] ys e = after_last_none p ys e
after_last-early p (x ∷ xs) ys e = rw (any-early p xs ys e) (at (any p xs) (p x) (after_last-early p xs ys e))
  where
    at : (a b : Bool) → after_last p (xs ++ ys) ≡ after_last p xs ++ ys
        → (if a then after_last p (xs ++ ys) else (if b then xs ++ ys else x ∷ (xs ++ ys)))
        ≡ (if a then after_last p xs else (if b then xs else x ∷ xs)) ++ ys
    at true b ih = ih
    at false true ih = refl
    at false false ih = refl

any-late : (p : Rec → Bool) (xs ys : List Rec) → any p ys ≡ true → any p (xs ++ ys) ≡ true
any-late p [] ys e = e
any-late p (x ∷ xs) ys e = at (p x) (any-late p xs ys e)
  where
    at : (b : Bool) → any p (xs ++ ys) ≡ true → (if b then true else any p (xs ++ ys)) ≡ true
    at true h = refl
    at false h = h

among_appends : (shape : Shape) (inner : InnerOnto) → Appends shape inner → Splits (from_empty inner)
    → (gs : List FieldShape) (f : FieldShape) (xs ys : List Rec) (old new : Option Val)
    → value_onto_among shape inner gs f old xs ≡ Some new → value_onto_among shape inner gs f new ys ≡ value_onto_among shape inner gs f old (xs ++ ys)
among_appends shape inner s p gs f xs ys old new e =
    at (value shape (from_empty inner) f (those_of f.number ys)) (value shape (from_empty inner) f (those_of f.number (xs ++ ys))) all
  where
    parts : ((x : Option Val) × (value shape (from_empty inner) f (those_of f.number xs) ≡ Some x))
        × (value_onto shape inner f (still gs f xs old) (those_of f.number (after_last (is_rival gs f) xs)) ≡ Some new)
    parts =
        unbound (value shape (from_empty inner) f (those_of f.number xs))
        (value_onto shape inner f (still gs f xs old) (those_of f.number (after_last (is_rival gs f) xs))) new e

    all : is_some (value shape (from_empty inner) f (those_of f.number (xs ++ ys))) ≡ is_some (value shape (from_empty inner) f (those_of f.number ys))
    all =
        ap (λ (x : List Rec). is_some (value shape (from_empty inner) f x)) (filter-append (is_of f.number) xs ys)
        ∙ value_splits shape (from_empty inner) p f (those_of f.number xs) (those_of f.number ys)
        ∙ ap (λ (x : Option (Option Val)). is_some x && is_some (value shape (from_empty inner) f (those_of f.number ys))) parts.0.1

    counts : value_onto shape inner f (still gs f ys new) (those_of f.number (after_last (is_rival gs f) ys))
        ≡ value_onto shape inner f (still gs f (xs ++ ys) old) (those_of f.number (after_last (is_rival gs f) (xs ++ ys)))
    counts = by (any (is_rival gs f) ys) refl
      where
        by : (b : Bool) → any (is_rival gs f) ys ≡ b
            → value_onto shape inner f (if b then None else new) (those_of f.number (after_last (is_rival gs f) ys))
            ≡ value_onto shape inner f (if any (is_rival gs f) (xs ++ ys) then None else old) (those_of f.number (after_last (is_rival gs f) (xs ++ ys)))
        by true d = rw (any-late (is_rival gs f) xs ys d, after_last-late (is_rival gs f) xs ys d) refl
        by false d =
            ap (λ (x : List Rec). value_onto shape inner f new (those_of f.number x)) (after_last_none (is_rival gs f) ys d)
            ∙ value_appends shape inner s f (those_of f.number (after_last (is_rival gs f) xs)) (those_of f.number ys) (still gs f xs old) new parts.1
            ∙ ap (value_onto shape inner f (still gs f xs old))
            (sym (ap (those_of f.number) (after_last-early (is_rival gs f) xs ys d) ∙ filter-append (is_of f.number) (after_last (is_rival gs f) xs) ys))
            ∙ ap (λ (b : Bool). value_onto shape inner f (if b then None else old) (those_of f.number (after_last (is_rival gs f) (xs ++ ys))))
            (sym (any-early (is_rival gs f) xs ys d))

    at : (a b : Option (Option Val)) → is_some b ≡ is_some a
        → option_and_then (λ all. value_onto shape inner f (still gs f ys new) (those_of f.number (after_last (is_rival gs f) ys))) a
        ≡ option_and_then (λ all. value_onto shape inner f (still gs f (xs ++ ys) old) (those_of f.number (after_last (is_rival gs f) (xs ++ ys)))) b
    at None None d = refl
    at None (Some w) d = absurd cc
    at (Some v) None d = absurd cc
    at (Some v) (Some w) d = counts

-- ---- the whole message

values_append : (shape : Shape) (inner : InnerOnto) → Appends shape inner → Splits (from_empty inner)
    → (gs hs : List FieldShape) (xs ys : List Rec) (old new : Fields) → AreGot shape inner gs old xs new hs
    → values_onto shape inner gs hs new ys ≡ values_onto shape inner gs hs old (xs ++ ys)
values_append shape inner s p gs [] xs ys old new g = refl
values_append shape inner s p gs (h ∷ hs) xs ys old new g =
    rw (among_appends shape inner s p gs h xs ys (get h.number old) (get h.number new) g.0, values_append shape inner s p gs hs xs ys old new g.1) refl

layer_appends : (shape : Shape) (inner : InnerOnto) → Appends shape inner → Splits (from_empty inner) → (gs : List FieldShape) → AreAbove 0 gs
    → (xs ys : List Rec) (old new : Content) → layer_onto shape inner gs old xs ≡ Some new
    → layer_onto shape inner gs new ys ≡ layer_onto shape inner gs old (xs ++ ys)
layer_appends shape inner s p gs a xs ys old (content fs ks) e = at (values_onto shape inner gs gs (fields old) xs) refl e
  where
    at : (x : Option Fields) → values_onto shape inner gs gs (fields old) xs ≡ x
        → option_map (λ vs. content vs (kept old ++ filter (is_kept gs) xs)) x ≡ Some (content fs ks)
        → layer_onto shape inner gs (content fs ks) ys ≡ layer_onto shape inner gs old (xs ++ ys)
    at None d e = absurd cc
    at (Some vs) d e =
        let is : vs ≡ fs = cc in
        let kept_are : kept old ++ filter (is_kept gs) xs ≡ ks = cc in
        let got = values_got shape inner gs (fields old) xs 0 gs fs a (rw is at d) in
        layer_by (values_append shape inner s p gs gs xs ys (fields old) fs got)
        (ap (λ x. x ++ filter (is_kept gs) ys) (sym kept_are) ∙ append_assoc (kept old) (filter (is_kept gs) xs) (filter (is_kept gs) ys)
        ∙ ap (λ (x : List Rec). kept old ++ x) (sym (filter-append (is_kept gs) xs ys)))
      where
        layer_by : values_onto shape inner gs gs fs ys ≡ values_onto shape inner gs gs (fields old) (xs ++ ys)
            → ks ++ filter (is_kept gs) ys ≡ kept old ++ filter (is_kept gs) (xs ++ ys)
            → layer_onto shape inner gs (content fs ks) ys ≡ layer_onto shape inner gs old (xs ++ ys)
        layer_by p q = rw (p, q) refl

-- ---- levels

appends_by : (shape : Shape) (levels : ℕ) → Appends shape (onto_at shape levels) → (fs : List FieldShape) → AreAbove 0 fs
    → (xs ys : List Rec) (old new : Content) → meaning_onto shape levels fs old xs ≡ Some new
    → meaning_onto shape levels fs new ys ≡ meaning_onto shape levels fs old (xs ++ ys)
appends_by shape levels s fs a xs ys old new e =
    onto_is shape levels fs new ys
    ∙ layer_appends shape (onto_at shape levels) s (onto_splits shape levels) fs a xs ys old new (sym (onto_is shape levels fs old xs) ∙ e)
    ∙ sym (onto_is shape levels fs old (xs ++ ys))

payloads_append : (levels : ℕ) (onto : Content → List Rec → Option Content)
    → ((xs ys : List Rec) (old new : Content) → onto old xs ≡ Some new → onto new ys ≡ onto old (xs ++ ys))
    → (bs cs : List (List ℕ)) (old new : Content) → option_and_then (onto old) (records_of levels bs) ≡ Some new
    → option_and_then (onto new) (records_of levels cs) ≡ option_and_then (onto old) (records_of levels (bs ++ cs))
payloads_append levels onto step bs cs old new e = at (records_of levels bs) (records_of levels cs) (records-append levels bs cs) e
  where
    at : (a b : Option (List Rec)) → records_of levels (bs ++ cs) ≡ option_and_then (λ a. option_map (λ d. a ++ d) b) a
        → option_and_then (onto old) a ≡ Some new
        → option_and_then (onto new) b ≡ option_and_then (onto old) (records_of levels (bs ++ cs))
    at None b d e = absurd cc
    at (Some xs) None d e = rw d refl
    at (Some xs) (Some ys) d e = rw d (step xs ys old new e)

appends_at : (shape : Shape) (levels : ℕ) → ((t : ℕ) → AreAbove 0 (fields_of shape t)) → Appends shape (onto_at shape levels)
unfolding onto_at
appends_at shape zero o = record { appends = λ t bs cs old new e. absurd cc }
appends_at shape (suc l) o = record {
  appends =
      λ t bs cs old new e. payloads_append l (meaning_onto shape l (fields_of shape t))
      (appends_by shape l (appends_at shape l o) (fields_of shape t) (o t)) bs cs old new e;
}

pub onto_appends : OntoAppends
onto_appends shape levels fs old new rs ss proper own e =
    sym (appends_by shape levels (appends_at shape levels (fields_ascend shape proper)) fs (are_above shape proper fs own) rs ss old new e)

pub onto_means_alone : OntoMeansAlone
onto_means_alone shape levels fs old new rs e = at (meaning shape levels fs rs) (judges_new shape levels fs old rs).1
  where
    at : (o : Option Content) → (o ≡ None → meaning_onto shape levels fs old rs ≡ None) → (c : Content) × (o ≡ Some c)
    at (Some c) h = (c, refl)
    at None h = let none = h refl in absurd cc

-- Behind what records mean, others mean what all mean together.
pub onto_following : OntoIsFollowing
onto_following shape levels t rs ss c proper e =
    sym (onto_appends shape levels (fields_of shape t) empty c rs ss proper (inl (t, refl)) (onto_empty shape levels (fields_of shape t) rs ∙ e))
    ∙ onto_empty shape levels (fields_of shape t) (rs ++ ss)
