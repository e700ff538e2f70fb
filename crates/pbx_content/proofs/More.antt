-- What bytes mean with some levels, they mean with more.
use Rattle.std.proofs.Common.{◌≡◌, ℕ, zero, suc, ◌≤◌, Bool, true, false, if◌then◌else◌, List, [], ◌∷◌, map, Option, Some, None, option_map, inl, inr, refl, subst, arith}
use Rattle.std.specs.Prelude.{option_and_then}
use Rattle.std.specs.List.{filter}
use Rattle.std.proofs.lemmas.Bool.{cases_lt}
use Rattle.pbx_wire.specs.declared.rec.Rec.{Rec, out-Rec}
use Rattle.pbx_wire.specs.declared.rec.Rec.TheOpen.{Rec-F}
use Rattle.pbx_wire.specs.Spelling.{Body, SpellsLayer, SpellsAll, SpellsBelow}
use Rattle.pbx_wire.proofs.Breaking.{are_spelled}
use Rattle.pbx_content.specs.declared.shape.Kind.{Kind}
use Rattle.pbx_content.specs.declared.shape.Kind.TheVariants as kind
use Rattle.pbx_content.specs.declared.shape.Cardinality.{Cardinality}
use Rattle.pbx_content.specs.declared.shape.Cardinality.TheVariants.{Singular, Repeated, Map}
use Rattle.pbx_content.specs.declared.shape.Shape.{Shape}
use Rattle.pbx_content.specs.declared.shape.FieldShape.{FieldShape}
use Rattle.pbx_content.specs.Content.{Content, content, Val, message, many, keyed, vals_of, by_key}
use Rattle.pbx_content.specs.Records.{bytes_of, those_of, each, flat, after_last, records_in}
use Rattle.pbx_content.specs.Shape.{fields_of, entry_fields, is_float, is_packable, is_kept, is_rival}
use Rattle.pbx_content.specs.Meaning.{Inner, no_inner, as_message, alone, one, or_packed, spread, shown, pair_in, entry_in, repeated, mapped, joined, singular, by_cardinality}
use Rattle.pbx_content.specs.Meaning.{value, value_among, with_field, values, layer, records_of, meaning, meaning_within}

-- ---- records

abbrev IsMore : Body → Body → Type 0
IsMore a b = (bytes : List ℕ) (rs : List Rec) → a bytes rs → b bytes rs

one_more : (a b : Body) → IsMore a b → (bytes : List ℕ) (x : Rec-F Rec) → SpellsLayer a bytes x → SpellsLayer b bytes x
one_more a b m bytes (Rec-F.Varint n v) h = h
one_more a b m bytes (Rec-F.Fixed64 n v) h = h
one_more a b m bytes (Rec-F.Bytes n c) h = h
one_more a b m bytes (Rec-F.Group n rs) h = (h.0, h.1, h.2, h.3, m h.1 rs h.4, h.5, h.6)
one_more a b m bytes (Rec-F.Fixed32 n v) h = h

all_more : (a b : Body) → IsMore a b → (bytes : List ℕ) (rs : List Rec) → SpellsAll a bytes rs → SpellsAll b bytes rs
all_more a b m bytes [] h = h
all_more a b m bytes (r ∷ rs) h = (h.0, h.1, one_more a b m h.0 (out-Rec r) h.2, all_more a b m h.1 rs h.3, h.4)

spells_more : (levels : ℕ) (bytes : List ℕ) (rs : List Rec) → SpellsBelow levels bytes rs → SpellsBelow (suc levels) bytes rs
unfolding SpellsBelow
spells_more zero bytes rs h = absurd h
spells_more (suc levels) bytes rs h = all_more (SpellsBelow levels) (SpellsBelow (suc levels)) (spells_more levels) bytes rs h

-- ---- options

-- what the first is, if anything, the second is too
abbrev pub IsUnder : {A : Type 0} → Option A → Option A → Type 0
IsUnder {A = A} a b = (x : A) → a ≡ Some x → b ≡ Some x

pub map_under : {A B : Type 0} (g : A → B) (a b : Option A) → IsUnder a b → IsUnder (option_map g a) (option_map g b)
map_under g None b u y e = absurd cc
map_under g (Some x) b u y e = rw (u x refl) e

pub bind_under : {A B : Type 0} (f g : A → Option B) (a b : Option A) → IsUnder a b → ((x : A) → IsUnder (f x) (g x))
    → IsUnder (option_and_then f a) (option_and_then g b)
bind_under f g None b u v y e = absurd cc
bind_under f g (Some x) b u v y e = rw (u x refl) (v x y e)

pub each_under : {A B : Type 0} (f g : A → Option B) → ((x : A) → IsUnder (f x) (g x)) → (xs : List A) → IsUnder (each f xs) (each g xs)
each_under f g v [] ys e = e
each_under {B = B} f g v (x ∷ xs) ys e =
    bind_under (λ y. option_map (λ (zs : List B). y ∷ zs) (each f xs)) (λ y. option_map (λ (zs : List B). y ∷ zs) (each g xs)) (f x) (g x) (v x)
    (λ y. map_under (λ (zs : List B). y ∷ zs) (each f xs) (each g xs) (each_under f g v xs)) ys e

-- What bytes spell with some levels of groups, they spell with one more.
pub records_under : (levels : ℕ) (bytes : List ℕ) → IsUnder (records_in levels bytes) (records_in (suc levels) bytes)
records_under levels bytes rs e =
    (are_spelled (suc levels) bytes rs).1 (spells_more (suc levels) bytes rs ((are_spelled levels bytes rs).0 e))

pub all_under : (levels : ℕ) (bs : List (List ℕ)) → IsUnder (records_of levels bs) (records_of (suc levels) bs)
all_under levels bs =
    map_under flat (each (records_in levels) bs) (each (records_in (suc levels)) bs)
    (each_under (records_in levels) (records_in (suc levels)) (records_under levels) bs)

-- ---- one layer

-- what payloads mean in the first, they mean in the second
abbrev pub InnerUnder : Inner → Inner → Type 0
InnerUnder a b = (gs : List FieldShape) (bs : List (List ℕ)) → IsUnder (a gs bs) (b gs bs)

alone_under : (shape : Shape) (a b : Inner) → InnerUnder a b → (k : Kind) (r : Rec) → IsUnder (alone shape a k r) (alone shape b k r)
alone_under shape a b u (kind.Message t) r v e =
    bind_under (as_message a (fields_of shape t)) (as_message b (fields_of shape t)) (bytes_of r) (bytes_of r) (λ c d. d)
    (λ c. map_under message (a (fields_of shape t) (c ∷ [])) (b (fields_of shape t) (c ∷ [])) (u (fields_of shape t) (c ∷ []))) v e
alone_under shape a b u k r v e = e

pub spread_under : (shape : Shape) (a b : Inner) → InnerUnder a b → (k : Kind) (r : Rec) → IsUnder (spread shape a k r) (spread shape b k r)
spread_under shape a b u k r vs = at (is_packable k) (bytes_of r)
  where
    single : IsUnder (one (alone shape a k r)) (one (alone shape b k r))
    single = map_under (λ (w : Val). w ∷ []) (alone shape a k r) (alone shape b k r) (alone_under shape a b u k r)

    at : (c : Bool) (o : Option (List ℕ))
        → (if c then or_packed k (one (alone shape a k r)) o else one (alone shape a k r)) ≡ Some vs
        → (if c then or_packed k (one (alone shape b k r)) o else one (alone shape b k r)) ≡ Some vs
    at false o e = single vs e
    at true None e = single vs e
    at true (Some c) e = e

repeated_under : (shape : Shape) (a b : Inner) → InnerUnder a b → (k : Kind) (rs : List Rec) → IsUnder (repeated shape a k rs) (repeated shape b k rs)
repeated_under shape a b u k rs =
    map_under (λ (vs : List (List Val)). shown shape false k (Some (many (vals_of (flat vs))))) (each (spread shape a k) rs) (each (spread shape b k) rs)
    (each_under (spread shape a k) (spread shape b k) (spread_under shape a b u k) rs)

pub entry_under : (a b : Inner) → InnerUnder a b → (key k : Kind) (r : Rec) → IsUnder (entry_in a key k r) (entry_in b key k r)
entry_under a b u key k r =
    bind_under (λ (c : List ℕ). a (entry_fields key k) (c ∷ [])) (λ (c : List ℕ). b (entry_fields key k) (c ∷ [])) (bytes_of r) (bytes_of r) (λ c d. d)
    (λ c. u (entry_fields key k) (c ∷ []))

mapped_under : (shape : Shape) (a b : Inner) → InnerUnder a b → (key k : Kind) (rs : List Rec) → IsUnder (mapped shape a key k rs) (mapped shape b key k rs)
mapped_under shape a b u key k rs =
    map_under (λ (cs : List Content). shown shape false k (Some (keyed (by_key (map (pair_in shape key k) cs))))) (each (entry_in a key k) rs)
    (each (entry_in b key k) rs) (each_under (entry_in a key k) (entry_in b key k) (entry_under a b u key k) rs)

joined_under : (a b : Inner) → InnerUnder a b → (gs : List FieldShape) (bs : List (List ℕ)) → IsUnder (joined a gs bs) (joined b gs bs)
joined_under a b u gs [] o e = e
joined_under a b u gs (c ∷ bs) o e = map_under (λ (d : Content). Some (message d)) (a gs (c ∷ bs)) (b gs (c ∷ bs)) (u gs (c ∷ bs)) o e

singular_under : (shape : Shape) (a b : Inner) → InnerUnder a b → (p : Bool) (k : Kind) (rs : List Rec)
    → IsUnder (singular shape a p k rs) (singular shape b p k rs)
singular_under shape a b u p (kind.Message t) rs o e =
    bind_under (joined a (fields_of shape t)) (joined b (fields_of shape t)) (each bytes_of rs) (each bytes_of rs) (λ c d. d)
    (joined_under a b u (fields_of shape t)) o e
singular_under shape a b u p k rs o e = e

pub value_under : (shape : Shape) (a b : Inner) → InnerUnder a b → (f : FieldShape) (rs : List Rec) → IsUnder (value shape a f rs) (value shape b f rs)
value_under shape a b u f rs o = at (is_float f.kind)
  where
    by : (c : Cardinality) → by_cardinality shape a f c rs ≡ Some o → by_cardinality shape b f c rs ≡ Some o
    by Singular e = singular_under shape a b u f.presence f.kind rs o e
    by Repeated e = repeated_under shape a b u f.kind rs o e
    by (Map key) e = mapped_under shape a b u key f.kind rs o e

    at : (c : Bool) → (if c then Some None else by_cardinality shape a f f.cardinality rs) ≡ Some o
        → (if c then Some None else by_cardinality shape b f f.cardinality rs) ≡ Some o
    at true e = e
    at false e = by f.cardinality e

among_under : (shape : Shape) (a b : Inner) → InnerUnder a b → (gs : List FieldShape) (f : FieldShape) (rs : List Rec)
    → IsUnder (value_among shape a gs f rs) (value_among shape b gs f rs)
among_under shape a b u gs f rs =
    let counting = those_of f.number (after_last (is_rival gs f) rs) in
    bind_under (λ (all : Option Val). value shape a f counting) (λ (all : Option Val). value shape b f counting) (value shape a f (those_of f.number rs))
    (value shape b f (those_of f.number rs)) (value_under shape a b u f (those_of f.number rs)) (λ all. value_under shape a b u f counting)

values_under : (shape : Shape) (a b : Inner) → InnerUnder a b → (gs : List FieldShape) (rs : List Rec) (hs : List FieldShape)
    → IsUnder (values shape a gs hs rs) (values shape b gs hs rs)
values_under shape a b u gs rs [] fs e = e
values_under shape a b u gs rs (h ∷ hs) fs e =
    bind_under (λ (v : Option Val). option_map (with_field h.number v) (values shape a gs hs rs))
    (λ (v : Option Val). option_map (with_field h.number v) (values shape b gs hs rs)) (value_among shape a gs h rs) (value_among shape b gs h rs)
    (among_under shape a b u gs h rs)
    (λ v. map_under (with_field h.number v) (values shape a gs hs rs) (values shape b gs hs rs) (values_under shape a b u gs rs hs)) fs e

layer_under : (shape : Shape) (a b : Inner) → InnerUnder a b → (gs : List FieldShape) (rs : List Rec) → IsUnder (layer shape a gs rs) (layer shape b gs rs)
layer_under shape a b u gs rs =
    map_under (λ vs. content vs (filter (is_kept gs) rs)) (values shape a gs gs rs) (values shape b gs gs rs) (values_under shape a b u gs rs gs)

-- ---- by levels

abbrev inside : Shape → ℕ → Inner
inside shape levels gs bs = option_and_then (meaning shape levels gs) (records_of levels bs)

-- What records mean with some levels, they mean with one more.
pub meaning_under : (shape : Shape) (levels : ℕ) (gs : List FieldShape) (rs : List Rec) → IsUnder (meaning shape levels gs rs) (meaning shape (suc levels) gs rs)
unfolding meaning
meaning_under shape zero gs rs = layer_under shape no_inner (inside shape zero) (λ gs bs c e. absurd cc) gs rs
meaning_under shape (suc levels) gs rs =
    layer_under shape (inside shape levels) (inside shape (suc levels))
    (λ gs bs. bind_under (meaning shape levels gs) (meaning shape (suc levels) gs) (records_of levels bs) (records_of (suc levels) bs) (all_under levels bs)
    (meaning_under shape levels gs))
    gs rs

-- What bytes mean with some levels, they mean with one more.
pub within_under : (shape : Shape) (levels : ℕ) (fs : List FieldShape) (bytes : List ℕ)
    → IsUnder (meaning_within shape levels fs bytes) (meaning_within shape (suc levels) fs bytes)
within_under shape levels fs bytes =
    bind_under (meaning shape levels fs) (meaning shape (suc levels) fs) (records_in levels bytes) (records_in (suc levels) bytes) (records_under levels bytes)
    (meaning_under shape levels fs)

pub more_levels : (shape : Shape) (levels more : ℕ) (fs : List FieldShape) (bytes : List ℕ) (c : Content) → levels ≤ more
    → meaning_within shape levels fs bytes ≡ Some c → meaning_within shape more fs bytes ≡ Some c
more_levels shape levels zero fs bytes c le e =
    let is : levels ≡ zero = omega arith in
    subst (λ n. meaning_within shape n fs bytes ≡ Some c) is e
more_levels shape levels (suc more) fs bytes c le e =
    elim (cases_lt more levels) [
      | inl lt ↦ let is : levels ≡ suc more = omega arith in subst (λ n. meaning_within shape n fs bytes ≡ Some c) is e
      | inr ge ↦ within_under shape more fs bytes c (more_levels shape levels more fs bytes c ge e)
    ]
