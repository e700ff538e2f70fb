-- What a type asks of a content that has values in the order of the type's fields.
use Rattle.std.proofs.Common.{◌≡◌, ℕ, ◌<◌, ◌≤◌, Bool, true, false, not, ◌&&◌, if◌then◌else◌, cond, List, [], ◌∷◌, map, Option, Some, None, subst, refl, sym, arith, inl}
use Rattle.std.specs.Prelude.{◌==◌, is_none, IsTrue}
use Rattle.std.specs.List.{filter, list_all}
use Rattle.pbx_wire.specs.Text.{all_true, is_numbered, are_numbered, are_fit}
use Rattle.pbx_wire.specs.declared.rec.Rec.{Rec}
use Rattle.pbx_content.specs.declared.shape.Cardinality.{Cardinality}
use Rattle.pbx_content.specs.declared.shape.Cardinality.TheVariants.{Singular, Repeated, Map}
use Rattle.pbx_content.specs.declared.shape.Kind.{Kind}
use Rattle.pbx_content.specs.declared.shape.Kind.TheVariants as kind
use Rattle.pbx_content.specs.declared.shape.Shape.{Shape}
use Rattle.pbx_content.specs.declared.shape.FieldShape.{FieldShape}
use Rattle.pbx_content.specs.Content.{Fields, no_fields, field, Val, number, truth, text, message, many, vals_of, has, IsAbove, IsAscending}
use Rattle.pbx_content.specs.Records.{number_of, any}
use Rattle.pbx_content.specs.Shape.{fields_of, field_of, is_float, is_kept, is_read_as, same_oneof, is_other}
use Rattle.pbx_content.specs.Meaning.{with_field}
use Rattle.pbx_content.specs.Sound.{IsSound, AreSound, IsSoundAt, AreElements, IsElement, AreKept, has_one_member}
use Rattle.pbx_content.proofs.WrittenOrder.{AreAbove, AreListed, all_listed}
use Rattle.pbx_desc_encoding.specs.Content.{listed, writable, fields_from, record_content}
use Rattle.pbx_wire.specs.Number.{has_one_of, is_writable_beside}
use Rattle.pbx_desc_encoding.specs.Sound.{IsOf, AreOf, MayBe}
use Rattle.pbx_wire.proofs.Written.{both}

-- ---- fields of the descriptor types

-- a single value has presence
abbrev is_shown : Cardinality → Bool → Bool
is_shown Singular presence = presence
is_shown _ presence = true

-- a field that is read, is of no oneof and shows each value
abbrev is_plain : FieldShape → Bool
is_plain g = not (is_float g.kind) && (is_none g.oneof && is_shown g.cardinality g.presence)

abbrev pub are_plain : List FieldShape → Bool
are_plain [] = true
are_plain (g ∷ gs) = is_plain g && are_plain gs

record IsPlain (g : FieldShape) : Type 0 where
  read : is_float g.kind ≡ false
  alone : g.oneof ≡ None
  shown : is_shown g.cardinality g.presence ≡ true

abbrev ArePlain : List FieldShape → Type 0
ArePlain [] = Unit {0}
ArePlain (g ∷ gs) = IsPlain g × ArePlain gs

is_none-None : (o : Option ℕ) → is_none o ≡ true → o ≡ None
is_none-None None h = refl
is_none-None (Some n) h = absurd cc

not-true : (b : Bool) → not b ≡ true → b ≡ false
not-true true h = absurd cc
not-true false h = refl

plain_from : (gs : List FieldShape) → are_plain gs ≡ true → ArePlain gs
plain_from [] h = tt
plain_from (g ∷ gs) h =
    let parts = both (is_plain g) (are_plain gs) h in
    let read = both (not (is_float g.kind)) _ parts.0 in
    let rest = both (is_none g.oneof) _ read.1 in
    (record { read = not-true (is_float g.kind) read.0; alone = is_none-None g.oneof rest.0; shown = rest.1 }, plain_from gs parts.1)

abbrev pub numbers : List FieldShape → List ℕ
numbers gs = map (λ (g : FieldShape). g.number) gs

-- ---- ascending numbers

fields_lower : (m n : ℕ) (fs : Fields) → m ≤ n → IsAbove n fs → IsAbove m fs
fields_lower m n no_fields le h = tt
fields_lower m n (field k v fs) le h = (omega (arith, h.0), h.1)

ascend_with : (m n : ℕ) (v : Option Val) (fs : Fields) → m < n → IsAbove n fs → IsAbove m (with_field n v fs)
ascend_with m n None fs lt h = fields_lower m n fs (omega arith) h
ascend_with m n (Some v) fs lt h = (lt, h)

pub ascend_from : (n : ℕ) (gs : List FieldShape) (vs : List (Option Val)) → AreAbove n gs → IsAbove n (fields_from gs vs)
ascend_from n [] vs above = tt
ascend_from n (g ∷ gs) [] above = tt
ascend_from n (g ∷ gs) (v ∷ vs) above = ascend_with n g.number v (fields_from gs vs) above.0 (ascend_from g.number gs vs above.2)

pub ascends : (fs : Fields) → IsAbove 0 fs → IsAscending fs
ascends no_fields h = tt
ascends (field n v fs) h = h.1

-- ---- kept records

read_is : (gs : List FieldShape) (r : Rec) → ArePlain gs → any (is_read_as r) gs ≡ has_one_of (numbers gs) r
read_is [] r h = refl
read_is (g ∷ gs) r h = rw (h.0.read, read_is gs r h.1) (at (number_of r == g.number))
  where
    at : (b : Bool) → (if b && true then true else has_one_of (numbers gs) r) ≡ (if b then true else has_one_of (numbers gs) r)
    at true = refl
    at false = refl

writable_is : (gs : List FieldShape) (rs : List Rec) → ArePlain gs → writable gs rs ≡ filter (is_writable_beside (numbers gs)) rs
writable_is gs [] h = refl
writable_is gs (r ∷ rs) h = rw (read_is gs r h, writable_is gs rs h) refl

-- the records that are kept behind plain fields
pub kept_is : (gs : List FieldShape) (rs : List Rec) → are_plain gs ≡ true → writable gs rs ≡ filter (is_writable_beside (numbers gs)) rs
kept_is gs rs plain = writable_is gs rs (plain_from gs plain)

unread : (gs : List FieldShape) (rs : List Rec) → all_true (map (is_kept gs) (writable gs rs)) ≡ true
unread gs [] = refl
unread gs (r ∷ rs) = at (is_numbered r) (is_kept gs r) refl (unread gs rs)
  where
    at : (a b : Bool) → is_kept gs r ≡ b → all_true (map (is_kept gs) (writable gs rs)) ≡ true → all_true (map (is_kept gs) (cond (a && b) (r ∷ writable gs rs) (writable gs rs))) ≡ true
    at true true e ih = rw (e, ih) refl
    at true false e ih = ih
    at false b e ih = ih

numbered : (gs : List FieldShape) (rs : List Rec) → are_numbered (writable gs rs) ≡ true
numbered gs [] = refl
numbered gs (r ∷ rs) = at (is_numbered r) (is_kept gs r) refl (numbered gs rs)
  where
    at : (a b : Bool) → is_numbered r ≡ a → are_numbered (writable gs rs) ≡ true → are_numbered (cond (a && b) (r ∷ writable gs rs) (writable gs rs)) ≡ true
    at true true e ih = rw (e, ih) refl
    at true false e ih = ih
    at false b e ih = ih

kept : (gs : List FieldShape) (rs : List Rec) → are_fit (writable gs rs) ≡ true → AreKept gs (writable gs rs)
kept gs rs fit = record { unread = unread gs rs; numbered = numbered gs rs; fit = fit }

-- ---- no oneofs

no_other : (f g : FieldShape) → f.oneof ≡ None → is_other f g ≡ false
no_other f g e = let none : same_oneof f.oneof g.oneof ≡ false = rw e refl in rw none refl

abbrev not_both : Fields → FieldShape → FieldShape → Bool
not_both fs f g = not (is_other f g && has f.number fs && has g.number fs)

alone_among : (f : FieldShape) (gs : List FieldShape) (fs : Fields) → f.oneof ≡ None → list_all (not_both fs f) gs ≡ true
alone_among f [] fs e = refl
alone_among f (g ∷ gs) fs e = let one : not_both fs f g ≡ true = rw (no_other f g e) refl in rw (one, alone_among f gs fs e) refl

one_member : (all gs : List FieldShape) (fs : Fields) → ArePlain gs → list_all (λ f. list_all (not_both fs f) all) gs ≡ true
one_member all [] fs h = refl
one_member all (g ∷ gs) fs h = rw (alone_among g all fs h.0.alone, one_member all gs fs h.1) refl

-- ---- single values and lists

element : (shape : Shape) (k : Kind) (v : Val) → IsOf shape k v → IsElement shape k v
element shape kind.Int32 (number z) h = h
element shape kind.Bool (truth b) h = refl
element shape kind.String (text s) h = (refl, h)
element shape (kind.Message t) (message c) h = (t, refl, h)
element shape _ _ h = absurd h

single : (shape : Shape) (g : FieldShape) (k : Kind) (v : Val) → g.kind ≡ k → g.cardinality ≡ Singular → g.presence ≡ true → IsOf shape k v → IsSoundAt shape (Some g) v
single shape g kind.Int32 (number z) e one shown h = (one, inl shown, rw e h)
single shape g kind.Bool (truth b) e one shown h = (one, inl shown, e)
single shape g kind.String (text s) e one shown h = (one, inl shown, e, h)
single shape g (kind.Message t) (message c) e one shown h = (one, (t, e, h))
single shape g _ _ e one shown h = absurd h

elements : (shape : Shape) (k : Kind) (vs : List Val) → AreOf shape k vs → AreElements shape k (vals_of vs)
elements shape k [] h = tt
elements shape k (v ∷ vs) h = (element shape k v h.0, elements shape k vs h.1)

several : (shape : Shape) (g : FieldShape) (v : Val) (vs : List Val) → g.cardinality ≡ Repeated → AreOf shape g.kind (v ∷ vs) → IsSoundAt shape (Some g) (many (vals_of (v ∷ vs)))
several shape g v vs many_of h = (many_of, refl, elements shape g.kind (v ∷ vs) h)

-- ---- all values

-- each field may have its value
abbrev pub AreValues : Shape → List FieldShape → List (Option Val) → Type 0
AreValues shape [] [] = Unit {0}
AreValues shape [] (v ∷ vs) = ⊥
AreValues shape (g ∷ gs) [] = ⊥
AreValues shape (g ∷ gs) (v ∷ vs) = MayBe shape g.cardinality g.kind v × AreValues shape gs vs

with_sound : (shape : Shape) (all : List FieldShape) (g : FieldShape) (v : Val) (fs : Fields) → field_of g.number all ≡ Some g → IsSoundAt shape (Some g) v → AreSound shape all fs
    → AreSound shape all (field g.number v fs)
with_sound shape all g v fs e sound rest = (subst (λ (o : Option FieldShape). IsSoundAt shape o v) (sym e) sound, rest)

value_sound : (shape : Shape) (all : List FieldShape) (g : FieldShape) (c : Cardinality) (v : Option Val) (fs : Fields) → field_of g.number all ≡ Some g → g.cardinality ≡ c → is_shown c g.presence ≡ true
    → MayBe shape c g.kind v → AreSound shape all fs → AreSound shape all (with_field g.number v fs)
value_sound shape all g Singular None fs e c shown h rest = rest
value_sound shape all g Singular (Some v) fs e c shown h rest = with_sound shape all g v fs e (single shape g g.kind v refl c shown h) rest
value_sound shape all g Repeated v fs e c shown h rest = subst (λ (o : Option Val). AreSound shape all (with_field g.number o fs)) (sym h.1) (at h.0 h.2)
  where
    at : (ws : List Val) → AreOf shape g.kind ws → AreSound shape all (with_field g.number (listed ws) fs)
    at [] all_of = rest
    at (w ∷ ws) all_of = with_sound shape all g (many (vals_of (w ∷ ws))) fs e (several shape g w ws c all_of) rest
value_sound shape all g (Map key) v fs e c shown h rest = absurd h

values_sound : (shape : Shape) (all gs : List FieldShape) (vs : List (Option Val)) → AreListed all gs → ArePlain gs → AreValues shape gs vs → AreSound shape all (fields_from gs vs)
values_sound shape all [] [] found plain h = tt
values_sound shape all [] (v ∷ vs) found plain h = absurd h
values_sound shape all (g ∷ gs) [] found plain h = absurd h
values_sound shape all (g ∷ gs) (v ∷ vs) found plain h =
    value_sound shape all g g.cardinality v (fields_from gs vs) found.0 refl plain.0.shown h.0 (values_sound shape all gs vs found.1 plain.1 h.1)

-- ---- the whole content

pub content_sound : (shape : Shape) (t : ℕ) (gs : List FieldShape) (vs : List (Option Val)) (rs : List Rec) → fields_of shape t ≡ gs → are_plain gs ≡ true → AreAbove 0 (fields_of shape t)
    → AreValues shape gs vs → are_fit (writable gs rs) ≡ true → IsSound shape t (record_content gs vs rs)
content_sound shape t gs vs rs e plain_test above values fit =
    let fs = fields_from gs vs in
    let plain = plain_from gs plain_test in
    let ascending = subst (AreAbove 0) e above in
    subst (λ (hs : List FieldShape). IsAscending fs × AreSound shape hs fs × IsTrue (has_one_member hs fs) × AreKept hs (writable gs rs)) (sym e)
    (ascends fs (ascend_from 0 gs vs ascending), values_sound shape gs gs vs (all_listed 0 gs ascending) plain values, one_member gs gs fs plain, kept gs rs fit)
