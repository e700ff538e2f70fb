-- Records mean a message exactly where each part of their list does.
use Rattle.std.proofs.Common.{◌≡◌, ℕ, zero, suc, Bool, true, false, ◌&&◌, if◌then◌else◌, List, [], ◌∷◌, ◌++◌, Option, Some, None, option_map, refl, sym, ap, ◌∙◌, append-nil, append_assoc}
use Rattle.std.specs.Prelude.{option_and_then}
use Rattle.std.specs.Option.{is_some}
use Rattle.std.specs.List.{filter}
use Rattle.std.proofs.lemmas.List.Elements.{filter-append}
use Rattle.pbx_wire.specs.declared.rec.Rec.{Rec}
use Rattle.pbx_content.specs.declared.shape.Kind.{Kind}
use Rattle.pbx_content.specs.declared.shape.Kind.TheVariants as kind
use Rattle.pbx_content.specs.declared.shape.Cardinality.{Cardinality}
use Rattle.pbx_content.specs.declared.shape.Cardinality.TheVariants.{Singular, Repeated, Map}
use Rattle.pbx_content.specs.declared.shape.Shape.{Shape}
use Rattle.pbx_content.specs.declared.shape.FieldShape.{FieldShape}
use Rattle.pbx_content.specs.Content.{Content, content, Fields, Val, message, many, vals_of}
use Rattle.pbx_content.specs.Records.{bytes_of, is_of, those_of, each, flat, last_of, any, after_last, records_in}
use Rattle.pbx_content.specs.Shape.{fields_of, is_float, is_kept, is_rival}
use Rattle.pbx_content.specs.Meaning.{Inner, no_inner, alone, spread, shown, joined, scalar, entry_in, singular, by_cardinality, value, value_among, with_field, values, layer, records_of, meaning}

-- ---- options and tests

pub and_true : (a : Bool) → a ≡ a && true
and_true true = refl
and_true false = refl

pub and_false : (a : Bool) → false ≡ a && false
and_false true = refl
and_false false = refl

and_swap : (a b c d : Bool) → (a && b) && (c && d) ≡ (a && c) && (b && d)
and_swap true true c d = refl
and_swap true false true d = refl
and_swap true false false d = refl
and_swap false b c d = refl

pub there_map : {A B : Type 0} (g : A → B) (o : Option A) → is_some (option_map g o) ≡ is_some o
there_map g None = refl
there_map g (Some x) = refl

pub not_there : {A : Type 0} (o : Option A) → is_some o ≡ false → o ≡ None
not_there None e = refl
not_there (Some x) e = absurd cc

pub there : {A : Type 0} (o : Option A) → is_some o ≡ true → (x : A) × (o ≡ Some x)
there None e = absurd cc
there (Some x) e = (x, refl)

-- ---- lists

pub each-append : {X Y : Type 0} (f : X → Option Y) (xs ys : List X)
    → each f (xs ++ ys) ≡ option_and_then (λ a. option_map (λ b. a ++ b) (each f ys)) (each f xs)
each-append {Y = Y} f [] ys = at (each f ys)
  where
    at : (o : Option (List Y)) → o ≡ option_map (λ b. b) o
    at None = refl
    at (Some b) = refl
each-append {Y = Y} f (x ∷ xs) ys = at (f x) (each f xs) (each f ys) (each-append f xs ys)
  where
    at : (a : Option Y) (b c : Option (List Y)) → each f (xs ++ ys) ≡ option_and_then (λ a. option_map (λ b. a ++ b) c) b
        → option_and_then (λ y. option_map (λ zs. y ∷ zs) (each f (xs ++ ys))) a
        ≡ option_and_then (λ a. option_map (λ b. a ++ b) c) (option_and_then (λ y. option_map (λ zs. y ∷ zs) b) a)
    at None b c e = refl
    at (Some y) None c e = rw e refl
    at (Some y) (Some zs) None e = rw e refl
    at (Some y) (Some zs) (Some ws) e = rw e refl

pub flat-append : {X : Type 0} (xss yss : List (List X)) → flat (xss ++ yss) ≡ flat xss ++ flat yss
flat-append [] yss = refl
flat-append {X = X} (xs ∷ xss) yss = ap (λ (t : List X). xs ++ t) (flat-append xss yss) ∙ sym (append_assoc xs (flat xss) (flat yss))

there_each : {X Y : Type 0} (f : X → Option Y) (xs ys : List X) → is_some (each f (xs ++ ys)) ≡ is_some (each f xs) && is_some (each f ys)
there_each {Y = Y} f xs ys = at (each f xs) (each f ys) (each-append f xs ys)
  where
    at : (a b : Option (List Y)) → each f (xs ++ ys) ≡ option_and_then (λ a. option_map (λ b. a ++ b) b) a
        → is_some (each f (xs ++ ys)) ≡ is_some a && is_some b
    at None b e = rw e refl
    at (Some a) None e = rw e refl
    at (Some a) (Some b) e = rw e refl

-- a function of all images is there exactly where they are
there_mapped : {X Y Z : Type 0} (g : List Y → Z) (f : X → Option Y) (xs ys : List X)
    → is_some (option_map g (each f (xs ++ ys))) ≡ is_some (option_map g (each f xs)) && is_some (option_map g (each f ys))
there_mapped g f xs ys = rw (there_map g (each f (xs ++ ys)), there_map g (each f xs), there_map g (each f ys)) (there_each f xs ys)

-- ---- kinds

-- kinds that are no messages
abbrev pub is_plain : Kind → Bool
is_plain (kind.Message t) = false
is_plain _ = true

pub no_plain : (k : Kind) → is_plain k ≡ false → (t : ℕ) × (k ≡ kind.Message t)
no_plain (kind.Message t) e = (t, refl)
no_plain k e = absurd cc

pub plain_singular : (shape : Shape) (inner : Inner) (p : Bool) (k : Kind) (rs : List Rec) → is_plain k ≡ true
    → singular shape inner p k rs ≡ scalar shape p k rs
plain_singular shape inner p (kind.Message t) rs e = absurd cc
plain_singular shape inner p k rs e = refl

-- ---- one field

-- payloads mean a message together exactly where each part of their list does
pub record Splits (inner : Inner) : Type 0 where
  pub splits : (gs : List FieldShape) (b c : List ℕ) (bs cs : List (List ℕ))
      → is_some (inner gs ((b ∷ bs) ++ (c ∷ cs))) ≡ is_some (inner gs (b ∷ bs)) && is_some (inner gs (c ∷ cs))

joined_splits : (inner : Inner) → Splits inner → (gs : List FieldShape) (bs cs : List (List ℕ))
    → is_some (joined inner gs (bs ++ cs)) ≡ is_some (joined inner gs bs) && is_some (joined inner gs cs)
joined_splits inner s gs [] cs = refl
joined_splits inner s gs (b ∷ bs) [] =
    ap (λ (x : List (List ℕ)). is_some (joined inner gs x)) (append-nil (b ∷ bs)) ∙ and_true (is_some (joined inner gs (b ∷ bs)))
joined_splits inner s gs (b ∷ bs) (c ∷ cs) =
    let as_value : Content → Option Val = λ c. Some (message c) in
    there_map as_value (inner gs ((b ∷ bs) ++ (c ∷ cs))) ∙ s.splits gs b c bs cs
    ∙ ap (λ a. a && is_some (inner gs (c ∷ cs))) (sym (there_map as_value (inner gs (b ∷ bs))))
    ∙ ap (λ a. is_some (joined inner gs (b ∷ bs)) && a) (sym (there_map as_value (inner gs (c ∷ cs))))

message_splits : (inner : Inner) → Splits inner → (gs : List FieldShape) (xs ys : List Rec)
    → is_some (option_and_then (joined inner gs) (each bytes_of (xs ++ ys)))
    ≡ is_some (option_and_then (joined inner gs) (each bytes_of xs)) && is_some (option_and_then (joined inner gs) (each bytes_of ys))
message_splits inner s gs xs ys = at (each bytes_of xs) (each bytes_of ys) (each-append bytes_of xs ys)
  where
    at : (a b : Option (List (List ℕ))) → each bytes_of (xs ++ ys) ≡ option_and_then (λ a. option_map (λ b. a ++ b) b) a
        → is_some (option_and_then (joined inner gs) (each bytes_of (xs ++ ys)))
        ≡ is_some (option_and_then (joined inner gs) a) && is_some (option_and_then (joined inner gs) b)
    at None b e = rw e refl
    at (Some a) None e = rw e (and_false (is_some (joined inner gs a)))
    at (Some a) (Some b) e = rw e (joined_splits inner s gs a b)

singular_splits : (shape : Shape) (inner : Inner) → Splits inner → (p : Bool) (k : Kind) (xs ys : List Rec)
    → is_some (singular shape inner p k (xs ++ ys)) ≡ is_some (singular shape inner p k xs) && is_some (singular shape inner p k ys)
singular_splits shape inner s p (kind.Message t) xs ys = message_splits inner s (fields_of shape t) xs ys
singular_splits shape inner s p k xs ys = there_mapped (λ vs. shown shape p k (last_of vs)) (alone shape no_inner k) xs ys

cardinality_splits : (shape : Shape) (inner : Inner) → Splits inner → (f : FieldShape) (c : Cardinality) (xs ys : List Rec)
    → is_some (by_cardinality shape inner f c (xs ++ ys)) ≡ is_some (by_cardinality shape inner f c xs) && is_some (by_cardinality shape inner f c ys)
cardinality_splits shape inner s f Singular xs ys = singular_splits shape inner s f.presence f.kind xs ys
cardinality_splits shape inner s f Repeated xs ys =
    there_mapped (λ vs. shown shape false f.kind (Some (many (vals_of (flat vs))))) (spread shape inner f.kind) xs ys
cardinality_splits shape inner s f (Map key) xs ys = there_mapped _ (entry_in inner key f.kind) xs ys

pub value_splits : (shape : Shape) (inner : Inner) → Splits inner → (f : FieldShape) (xs ys : List Rec)
    → is_some (value shape inner f (xs ++ ys)) ≡ is_some (value shape inner f xs) && is_some (value shape inner f ys)
value_splits shape inner s f xs ys = at (is_float f.kind)
  where
    at : (b : Bool) → is_some (if b then Some None else by_cardinality shape inner f f.cardinality (xs ++ ys))
        ≡ is_some (if b then Some None else by_cardinality shape inner f f.cardinality xs) && is_some
        (if b then Some None else by_cardinality shape inner f f.cardinality ys)
    at true = refl
    at false = cardinality_splits shape inner s f f.cardinality xs ys

-- ---- one field among others

pub after_last_part : (p : Rec → Bool) (rs : List Rec) → (xs : List Rec) × (rs ≡ xs ++ after_last p rs)
after_last_part p [] = ([], refl)
after_last_part p (r ∷ rs) = at (any p rs) (p r) (after_last_part p rs)
  where
    at : (a b : Bool) → (xs : List Rec) × (rs ≡ xs ++ after_last p rs)
        → (xs : List Rec) × (r ∷ rs ≡ xs ++ (if a then after_last p rs else (if b then rs else r ∷ rs)))
    at true b h = (r ∷ h.0, ap (λ (t : List Rec). r ∷ t) h.1)
    at false true h = (r ∷ [], refl)
    at false false h = ([], refl)

-- where all records of the field have its form, those that count have
pub those_there : (shape : Shape) (inner : Inner) → Splits inner → (gs : List FieldShape) (f : FieldShape) (rs : List Rec) (o : Option Val)
    → value shape inner f (those_of f.number rs) ≡ Some o
    → is_some (value shape inner f (those_of f.number (after_last (is_rival gs f) rs))) ≡ true
those_there shape inner s gs f rs o e =
    second (is_some (value shape inner f (those_of f.number part.0))) (is_some (value shape inner f (those_of f.number (after_last (is_rival gs f) rs)))) both
  where
    part : (xs : List Rec) × (rs ≡ xs ++ after_last (is_rival gs f) rs)
    part = after_last_part (is_rival gs f) rs

    these : those_of f.number rs ≡ those_of f.number part.0 ++ those_of f.number (after_last (is_rival gs f) rs)
    these = ap (those_of f.number) part.1 ∙ filter-append (is_of f.number) part.0 (after_last (is_rival gs f) rs)

    both : true
        ≡ is_some (value shape inner f (those_of f.number part.0)) && is_some (value shape inner f (those_of f.number (after_last (is_rival gs f) rs)))
    both =
        ap is_some (sym e) ∙ ap (λ (x : List Rec). is_some (value shape inner f x)) these
        ∙ value_splits shape inner s f (those_of f.number part.0) (those_of f.number (after_last (is_rival gs f) rs))

    second : (a b : Bool) → true ≡ a && b → b ≡ true
    second true b e = sym e
    second false b e = absurd cc

pub among_there : (shape : Shape) (inner : Inner) → Splits inner → (gs : List FieldShape) (f : FieldShape) (rs : List Rec)
    → is_some (value_among shape inner gs f rs) ≡ is_some (value shape inner f (those_of f.number rs))
among_there shape inner s gs f rs = at (value shape inner f (those_of f.number rs)) refl
  where
    at : (o : Option (Option Val)) → value shape inner f (those_of f.number rs) ≡ o
        → is_some (option_and_then (λ all. value shape inner f (those_of f.number (after_last (is_rival gs f) rs))) o) ≡ is_some o
    at None e = refl
    at (Some v) e = those_there shape inner s gs f rs v e

among_splits : (shape : Shape) (inner : Inner) → Splits inner → (gs : List FieldShape) (f : FieldShape) (xs ys : List Rec)
    → is_some (value_among shape inner gs f (xs ++ ys)) ≡ is_some (value_among shape inner gs f xs) && is_some (value_among shape inner gs f ys)
among_splits shape inner s gs f xs ys =
    among_there shape inner s gs f (xs ++ ys) ∙ ap (λ (x : List Rec). is_some (value shape inner f x)) (filter-append (is_of f.number) xs ys)
    ∙ value_splits shape inner s f (those_of f.number xs) (those_of f.number ys)
    ∙ ap (λ b. b && is_some (value shape inner f (those_of f.number ys))) (sym (among_there shape inner s gs f xs))
    ∙ ap (λ b. is_some (value_among shape inner gs f xs) && b) (sym (among_there shape inner s gs f ys))

-- ---- the whole message

pub there_both : (g : Option Val → Fields → Fields) (a : Option (Option Val)) (b : Option Fields)
    → is_some (option_and_then (λ v. option_map (g v) b) a) ≡ is_some a && is_some b
there_both g None b = refl
there_both g (Some v) None = refl
there_both g (Some v) (Some fs) = refl

values_split : (shape : Shape) (inner : Inner) → Splits inner → (gs hs : List FieldShape) (xs ys : List Rec)
    → is_some (values shape inner gs hs (xs ++ ys)) ≡ is_some (values shape inner gs hs xs) && is_some (values shape inner gs hs ys)
values_split shape inner s gs [] xs ys = refl
values_split shape inner s gs (h ∷ hs) xs ys =
    there_both (with_field h.number) (value_among shape inner gs h (xs ++ ys)) (values shape inner gs hs (xs ++ ys))
    ∙ ap (λ b. b && is_some (values shape inner gs hs (xs ++ ys))) (among_splits shape inner s gs h xs ys)
    ∙ ap (λ b. (is_some (value_among shape inner gs h xs) && is_some (value_among shape inner gs h ys)) && b) (values_split shape inner s gs hs xs ys)
    ∙ and_swap (is_some (value_among shape inner gs h xs)) (is_some (value_among shape inner gs h ys)) (is_some (values shape inner gs hs xs))
    (is_some (values shape inner gs hs ys))
    ∙ ap (λ b. b && (is_some (value_among shape inner gs h ys) && is_some (values shape inner gs hs ys)))
    (sym (there_both (with_field h.number) (value_among shape inner gs h xs) (values shape inner gs hs xs)))
    ∙ ap (λ b. is_some (values shape inner gs (h ∷ hs) xs) && b)
    (sym (there_both (with_field h.number) (value_among shape inner gs h ys) (values shape inner gs hs ys)))

layer_splits : (shape : Shape) (inner : Inner) → Splits inner → (gs : List FieldShape) (xs ys : List Rec)
    → is_some (layer shape inner gs (xs ++ ys)) ≡ is_some (layer shape inner gs xs) && is_some (layer shape inner gs ys)
layer_splits shape inner s gs xs ys =
    let whole : List Rec → Fields → Content = λ rs vs. content vs (filter (is_kept gs) rs) in
    there_map (whole (xs ++ ys)) (values shape inner gs gs (xs ++ ys)) ∙ values_split shape inner s gs gs xs ys
    ∙ ap (λ b. b && is_some (values shape inner gs gs ys)) (sym (there_map (whole xs) (values shape inner gs gs xs)))
    ∙ ap (λ b. is_some (layer shape inner gs xs) && b) (sym (there_map (whole ys) (values shape inner gs gs ys)))

-- ---- levels

-- what payloads mean together, with one level fewer left for each
unfoldable pub inner_at : Shape → ℕ → Inner
inner_at shape zero gs bs = None
inner_at shape (suc levels) gs bs = option_and_then (meaning shape levels gs) (records_of levels bs)

pub meaning_is : (shape : Shape) (levels : ℕ) (gs : List FieldShape) (rs : List Rec) → meaning shape levels gs rs ≡ layer shape (inner_at shape levels) gs rs
unfolding meaning inner_at
meaning_is shape zero gs rs = refl
meaning_is shape (suc levels) gs rs = refl

pub records-append : (levels : ℕ) (bs cs : List (List ℕ))
    → records_of levels (bs ++ cs) ≡ option_and_then (λ a. option_map (λ b. a ++ b) (records_of levels cs)) (records_of levels bs)
records-append levels bs cs = at (each (records_in levels) bs) (each (records_in levels) cs) (each-append (records_in levels) bs cs)
  where
    at : (a b : Option (List (List Rec))) → each (records_in levels) (bs ++ cs) ≡ option_and_then (λ a. option_map (λ c. a ++ c) b) a
        → option_map flat (each (records_in levels) (bs ++ cs)) ≡ option_and_then (λ a. option_map (λ b. a ++ b) (option_map flat b)) (option_map flat a)
    at None b e = rw e refl
    at (Some a) None e = rw e refl
    at (Some a) (Some b) e = rw (e, flat-append a b) refl

payloads_split : (levels : ℕ) (meant : List Rec → Option Content) (bs cs : List (List ℕ))
    → ((xs ys : List Rec) → is_some (meant (xs ++ ys)) ≡ is_some (meant xs) && is_some (meant ys))
    → is_some (option_and_then meant (records_of levels (bs ++ cs)))
    ≡ is_some (option_and_then meant (records_of levels bs)) && is_some (option_and_then meant (records_of levels cs))
payloads_split levels meant bs cs split = at (records_of levels bs) (records_of levels cs) (records-append levels bs cs)
  where
    at : (a b : Option (List Rec)) → records_of levels (bs ++ cs) ≡ option_and_then (λ a. option_map (λ c. a ++ c) b) a
        → is_some (option_and_then meant (records_of levels (bs ++ cs))) ≡ is_some (option_and_then meant a) && is_some (option_and_then meant b)
    at None b e = rw e refl
    at (Some a) None e = rw e (and_false (is_some (meant a)))
    at (Some a) (Some b) e = rw e (split a b)

meaning_by : (shape : Shape) (levels : ℕ) → Splits (inner_at shape levels) → (gs : List FieldShape) (xs ys : List Rec)
    → is_some (meaning shape levels gs (xs ++ ys)) ≡ is_some (meaning shape levels gs xs) && is_some (meaning shape levels gs ys)
meaning_by shape levels s gs xs ys =
    rw (meaning_is shape levels gs (xs ++ ys), meaning_is shape levels gs xs, meaning_is shape levels gs ys)
    (layer_splits shape (inner_at shape levels) s gs xs ys)

pub inner_splits : (shape : Shape) (levels : ℕ) → Splits (inner_at shape levels)
unfolding inner_at
inner_splits shape zero = record { splits = λ gs b c bs cs. refl }
inner_splits shape (suc levels) =
    record {
      splits = λ gs b c bs cs.
          payloads_split levels (meaning shape levels gs) (b ∷ bs) (c ∷ cs) (λ xs ys. meaning_by shape levels (inner_splits shape levels) gs xs ys);
    }

-- Records mean a message exactly where each part of their list does.
pub meaning_splits : (shape : Shape) (levels : ℕ) (gs : List FieldShape) (xs ys : List Rec)
    → is_some (meaning shape levels gs (xs ++ ys)) ≡ is_some (meaning shape levels gs xs) && is_some (meaning shape levels gs ys)
meaning_splits shape levels gs xs ys = meaning_by shape levels (inner_splits shape levels) gs xs ys
