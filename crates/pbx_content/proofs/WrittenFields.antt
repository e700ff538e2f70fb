-- The records of the fields and the kept records mean the content, with its kept records settled.
use Rattle.std.proofs.Common.{◌≡◌, ℕ, ◌^◌, ◌<◌, ◌≤◌, max, Bool, true, false, cond, not, ◌&&◌, if◌then◌else◌, List, [], ◌∷◌, ◌++◌, map, Option, Some, None}
use Rattle.std.proofs.Common.{option_map, inl, inr, refl, sym, ap, ◌∙◌, subst, arith, append-nil}
use Rattle.std.specs.Prelude.{◌==◌}
use Rattle.std.specs.List.{filter, list_all}
use Rattle.std.proofs.lemmas.Bool.Decides.{nat_tests}
use Rattle.std.proofs.lemmas.Bool.{cases_lt}
use Rattle.std.proofs.lemmas.List.Elements.{filter-append}
use Rattle.pbx_wire.specs.Text.{all_true}
use Rattle.pbx_wire.proofs.Written.{both}
use Rattle.pbx_wire.specs.declared.rec.Rec.{Rec}
use Rattle.pbx_wire.specs.declared.rec.Rec.TheVariants as rec
use Rattle.pbx_content.specs.declared.shape.Kind.{Kind}
use Rattle.pbx_content.specs.declared.shape.Kind.TheVariants as kind
use Rattle.pbx_content.specs.declared.shape.Cardinality.{Cardinality}
use Rattle.pbx_content.specs.declared.shape.Cardinality.TheVariants.{Singular, Repeated, Map}
use Rattle.pbx_content.specs.declared.shape.Shape.{Shape}
use Rattle.pbx_content.specs.declared.shape.FieldShape.{FieldShape}
use Rattle.pbx_content.specs.Content.{content, Fields, no_fields, field, Val, number, truth, text, octets, message, many, keyed}
use Rattle.pbx_content.specs.Content.{Vals, no_vals, val, Pairs, no_pairs, pair, get, has, IsAbove, IsAscending}
use Rattle.pbx_content.specs.Records.{number_of, is_of, those_of, any, after_last}
use Rattle.pbx_content.specs.Shape.{Form, as_varint, as_four, as_eight, as_payload, form_of, field_of, is_float, is_read_as, is_kept, is_other, is_rival}
use Rattle.pbx_content.specs.Meaning.{Inner, singular, by_cardinality, value, value_among, with_field, values, layer}
use Rattle.pbx_content.specs.Encoding.{type_of, keys_of, number_rec, with_kept, packed_text, is_packed, fields_recs, field_recs, vals_recs, val_rec, pairs_recs}
use Rattle.pbx_content.specs.Same.{settled_kept, type_in, settled_fields, settled_val}
use Rattle.pbx_content.specs.Sound.{has_one_member, AreSound, IsSoundAt, fields_depth, val_depth}
use Rattle.pbx_content.proofs.Sorted.{those_of-with_kept, filter-with_kept, any-with_kept, any-append, after_last_none, none_after}
use Rattle.pbx_content.proofs.WrittenOrder.{AreAbove, AreListed, all_listed, known_above, one_of_them, field_number}
use Rattle.pbx_content.proofs.WrittenNumbers.{number_numeral}
use Rattle.pbx_content.proofs.WrittenShort.{size, size-filter}
use Rattle.pbx_content.proofs.WrittenValues.{Reads, element_no_float, field_back}

-- ---- fields by number

pub get-above : (n m : ℕ) (fs : Fields) → IsAbove m fs → n ≤ m → get n fs ≡ None
get-above n m no_fields h le = refl
get-above n m (field k v fs) h le =
    let low : n < k = omega (arith, h.0) in
    let apart : (n == k) ≡ false = grind (arith, nat_tests) in
    rw apart (get-above n k fs h.1 (omega arith))

has_got : (n : ℕ) (fs : Fields) (v : Val) → get n fs ≡ Some v → has n fs ≡ true
has_got n no_fields v e = absurd cc
has_got n (field m w fs) v e = at (n == m) e (has_got n fs v)
  where
    at : (b : Bool) → (if b then Some w else get n fs) ≡ Some v → (get n fs ≡ Some v → has n fs ≡ true) → (if b then true else has n fs) ≡ true
    at true e ih = refl
    at false e ih = ih e

-- ---- records of one number

abbrev pub HaveNumber : ℕ → List Rec → Type 0
HaveNumber n [] = Unit {0}
HaveNumber n (r ∷ rs) = (number_of r ≡ n) × HaveNumber n rs

those_same : (n : ℕ) (rs : List Rec) → HaveNumber n rs → those_of n rs ≡ rs
those_same n [] h = refl
those_same n (r ∷ rs) h = let ih = those_same n rs h.1 in let e = h.0 in grind (arith, nat_tests, ih, e)

those_other : (m n : ℕ) (rs : List Rec) → HaveNumber n rs → (m == n) ≡ false → those_of m rs ≡ []
those_other m n [] h e = refl
those_other m n (r ∷ rs) h e = let ih = those_other m n rs h.1 e in let d = h.0 in grind (arith, nat_tests, ih, d)

number_number : (n : ℕ) (form : Form) (v : ℕ) → number_of (number_rec n form v) ≡ n
number_number n as_varint v = refl
number_number n as_four v = refl
number_number n as_eight v = refl
number_number n as_payload v = refl

val_number : (shape : Shape) (n : ℕ) (k : Kind) (v : Val) → number_of (val_rec shape n k v) ≡ n
val_number shape n k (number z) = number_number n (form_of k) _
val_number shape n k (truth b) = number_number n (form_of k) _
val_number shape n k (text s) = refl
val_number shape n k (octets b) = refl
val_number shape n k (message c) = refl
val_number shape n k (many ws) = refl
val_number shape n k (keyed ps) = refl

vals_number : (shape : Shape) (n : ℕ) (k : Kind) (vs : Vals) → HaveNumber n (vals_recs shape n k vs)
vals_number shape n k no_vals = tt
vals_number shape n k (val v vs) = (val_number shape n k v, vals_number shape n k vs)

pairs_number : (shape : Shape) (n : ℕ) (key k : Kind) (ps : Pairs) → HaveNumber n (pairs_recs shape n key k ps)
pairs_number shape n key k no_pairs = tt
pairs_number shape n key k (pair l v ps) = (refl, pairs_number shape n key k ps)

field_recs_number : (shape : Shape) (f : FieldShape) (v : Val) → HaveNumber f.number (field_recs shape (Some f) v)
field_recs_number shape f (number z) = (number_number f.number (form_of f.kind) _, tt)
field_recs_number shape f (truth b) = (number_number f.number (form_of f.kind) _, tt)
field_recs_number shape f (text s) = (refl, tt)
field_recs_number shape f (octets b) = (refl, tt)
field_recs_number shape f (message c) = (refl, tt)
field_recs_number shape f (many vs) = at (is_packed f) (vals_number shape f.number f.kind vs)
  where
    at : (b : Bool) → HaveNumber f.number (vals_recs shape f.number f.kind vs)
        → HaveNumber f.number (if b then rec.Bytes f.number (packed_text f.kind vs) ∷ [] else vals_recs shape f.number f.kind vs)
    at true h = (refl, tt)
    at false h = h
field_recs_number shape f (keyed ps) = pairs_number shape f.number (keys_of f.cardinality) f.kind ps

pub have_number : (shape : Shape) (n : ℕ) (gs : List FieldShape) (v : Val) → HaveNumber n (field_recs shape (field_of n gs) v)
have_number shape n gs v = at (field_of n gs) (field_number n gs)
  where
    at : (o : Option FieldShape) → ((f : FieldShape) → o ≡ Some f → n ≡ f.number) → HaveNumber n (field_recs shape o v)
    at None h = tt
    at (Some f) h = rw (h f refl) (field_recs_number shape f v)

-- the records of a field, if it has a value
abbrev own : Shape → List FieldShape → ℕ → Option Val → List Rec
own shape gs n None = []
own shape gs n (Some v) = field_recs shape (field_of n gs) v

ascending_tail : (n : ℕ) (fs : Fields) → IsAbove n fs → IsAscending fs
ascending_tail n no_fields h = tt
ascending_tail n (field m v fs) h = h.1

those_own : (shape : Shape) (gs : List FieldShape) (m : ℕ) (fs : Fields) → IsAscending fs → those_of m (fields_recs shape gs fs) ≡ own shape gs m (get m fs)
those_own shape gs m no_fields h = refl
those_own shape gs m (field n v fs) h =
    filter-append (is_of m) (field_recs shape (field_of n gs) v) (fields_recs shape gs fs)
    ∙ at (m == n) refl (those_own shape gs m fs (ascending_tail n fs h)) (have_number shape n gs v)
  where
    at : (b : Bool) → (m == n) ≡ b → those_of m (fields_recs shape gs fs) ≡ own shape gs m (get m fs) → HaveNumber n (field_recs shape (field_of n gs) v)
        → those_of m (field_recs shape (field_of n gs) v) ++ those_of m (fields_recs shape gs fs) ≡ own shape gs m (if b then Some v else get m fs)
    at true e ih own_n =
        let same : n ≡ m = grind (arith, nat_tests) in
        let none : get m fs ≡ None = get-above m n fs h (omega arith) in
        let P : ℕ → Type 0 = λ k. HaveNumber k (field_recs shape (field_of n gs) v) in
        let here : HaveNumber m (field_recs shape (field_of n gs) v) = subst P same own_n in
        rw (ih, none, those_same m (field_recs shape (field_of n gs) v) here, append-nil) (ap (λ k. field_recs shape (field_of k gs) v) same)
    at false e ih own_n = rw (those_other m n (field_recs shape (field_of n gs) v) own_n e) ih

-- ---- kept records

read_as : (r : Rec) (n : ℕ) (gs : List FieldShape) (f : FieldShape) → number_of r ≡ n → field_of n gs ≡ Some f → is_float f.kind ≡ false
    → any (is_read_as r) gs ≡ true
read_as r n [] f e h k = absurd (cc)
read_as r n (g ∷ gs) f e h k = at (n == g.number) refl h (read_as r n gs f e)
  where
    always : (b : Bool) → any (is_read_as r) gs ≡ true → (if b then true else any (is_read_as r) gs) ≡ true
    always true e = refl
    always false e = e

    at : (b : Bool) → (n == g.number) ≡ b → (if b then Some g else field_of n gs) ≡ Some f
        → (field_of n gs ≡ Some f → is_float f.kind ≡ false → any (is_read_as r) gs ≡ true)
        → (if is_read_as r g then true else any (is_read_as r) gs) ≡ true
    at true d h ih =
        let same : g ≡ f = cc in
        let plain : is_float g.kind ≡ false = ap (λ (x : FieldShape). is_float x.kind) same ∙ k in
        let test : (number_of r == g.number) ≡ true = grind (arith, nat_tests) in
        rw (test, plain) refl
    at false d h ih = always (is_read_as r g) (ih h k)

none_kept : (n : ℕ) (gs : List FieldShape) (f : FieldShape) (rs : List Rec) → field_of n gs ≡ Some f → is_float f.kind ≡ false → HaveNumber n rs
    → filter (is_kept gs) rs ≡ []
none_kept n gs f [] h k e = refl
none_kept n gs f (r ∷ rs) h k e = rw (read_as r n gs f e.0 h k, none_kept n gs f rs h k e.1) refl

all_kept : (p : Rec → Bool) (rs : List Rec) → all_true (map p rs) ≡ true → filter p rs ≡ rs
all_kept p [] h = refl
all_kept p (r ∷ rs) h = let t = both (p r) (all_true (map p rs)) h in rw (t.0, all_kept p rs t.1) refl

no_kept_of : (gs : List FieldShape) (f : FieldShape) (rs : List Rec) → field_of f.number gs ≡ Some f → is_float f.kind ≡ false
    → all_true (map (is_kept gs) rs) ≡ true → those_of f.number rs ≡ []
no_kept_of gs f [] h k e = refl
no_kept_of gs f (r ∷ rs) h k e =
    let t = both (is_kept gs r) (all_true (map (is_kept gs) rs)) e in
    at (is_of f.number r) refl t.0 (no_kept_of gs f rs h k t.1)
  where
    at : (b : Bool) → is_of f.number r ≡ b → is_kept gs r ≡ true → those_of f.number rs ≡ [] → cond b (r ∷ those_of f.number rs) (those_of f.number rs) ≡ []
    at true d kept ih =
        let here : number_of r ≡ f.number = grind (arith, nat_tests) in
        let read = read_as r f.number gs f here h k in
        absurd (let bad : not true ≡ true = rw read at kept in cc)
    at false d kept ih = ih

-- ---- records of other members of a oneof

no_rival_kept : (gs : List FieldShape) (f : FieldShape) (rs : List Rec) → all_true (map (is_kept gs) rs) ≡ true → any (is_rival gs f) rs ≡ false
no_rival_kept gs f [] e = refl
no_rival_kept gs f (r ∷ rs) e =
    let t = both (is_kept gs r) (all_true (map (is_kept gs) rs)) e in
    rw (unread gs t.0) (no_rival_kept gs f rs t.1)
  where
    unread : (hs : List FieldShape) → not (any (is_read_as r) hs) ≡ true → any (λ g. is_other f g && is_read_as r g) hs ≡ false
    unread [] e = refl
    unread (g ∷ hs) e = let ih = unread hs in at (is_read_as r g) (is_other f g) e ih
      where
        at : (a b : Bool) → not (if a then true else any (is_read_as r) hs) ≡ true
            → (not (any (is_read_as r) hs) ≡ true → any (λ g. is_other f g && is_read_as r g) hs ≡ false)
            → (if b && a then true else any (λ g. is_other f g && is_read_as r g) hs) ≡ false
        at true b e ih = absurd cc
        at false true e ih = ih e
        at false false e ih = ih e

-- no record of a field with a value is of another member, where one member alone has a value
no_rival_own : (f : FieldShape) (fs : Fields) (r : Rec) → has f.number fs ≡ true → has (number_of r) fs ≡ true → (gs : List FieldShape)
    → list_all (λ g. not (is_other f g && has f.number fs && has g.number fs)) gs ≡ true → any (λ g. is_other f g && is_read_as r g) gs ≡ false
no_rival_own f fs r here there [] h = refl
no_rival_own f fs r here there (g ∷ gs) h =
    let t = both (not (is_other f g && has f.number fs && has g.number fs)) (list_all (λ g. not (is_other f g && has f.number fs && has g.number fs)) gs) h in
    at (number_of r == g.number) refl (is_other f g) (rw here at t.0) (no_rival_own f fs r here there gs t.1)
  where
    at : (b : Bool) → (number_of r == g.number) ≡ b → (a : Bool) → not (a && true && has g.number fs) ≡ true
        → any (λ g. is_other f g && is_read_as r g) gs ≡ false
        → (if a && (b && not (is_float g.kind)) then true else any (λ g. is_other f g && is_read_as r g) gs) ≡ false
    at true d true h ih =
        let same : number_of r ≡ g.number = grind (arith, nat_tests) in
        let value : has g.number fs ≡ true = ap (λ n. has n fs) (sym same) ∙ there in
        absurd (let bad : not true ≡ true = rw value at h in cc)
    at true d false h ih = ih
    at false d true h ih = ih
    at false d false h ih = ih

any_number : (p : Rec → Bool) (n : ℕ) (rs : List Rec) → ((r : Rec) → number_of r ≡ n → p r ≡ false) → HaveNumber n rs → any p rs ≡ false
any_number p n [] none h = refl
any_number p n (r ∷ rs) none h = rw (none r h.0) (any_number p n rs none h.1)

no_rivals : (shape : Shape) (gs : List FieldShape) (f : FieldShape) (all : Fields) → has f.number all ≡ true
    → list_all (λ g. not (is_other f g && has f.number all && has g.number all)) gs ≡ true → (fs : Fields) → ((n : ℕ) → has n fs ≡ true → has n all ≡ true)
    → any (is_rival gs f) (fields_recs shape gs fs) ≡ false
no_rivals shape gs f all here one no_fields sub = refl
no_rivals shape gs f all here one (field n v fs) sub =
    any-append (is_rival gs f) (field_recs shape (field_of n gs) v) (fields_recs shape gs fs)
    (any_number (is_rival gs f) n (field_recs shape (field_of n gs) v) (λ r e. no_rival_own f all r here (there r e) gs one) (have_number shape n gs v))
    (no_rivals shape gs f all here one fs (λ m h. sub m (later m h)))
  where
    there : (r : Rec) → number_of r ≡ n → has (number_of r) all ≡ true
    there r e = ap (λ m. has m all) e ∙ sub n (let same : (n == n) ≡ true = grind (arith, nat_tests) in rw same refl)

    later : (m : ℕ) → has m fs ≡ true → (if m == n then true else has m fs) ≡ true
    later m h = at (m == n)
      where
        at : (b : Bool) → (if b then true else has m fs) ≡ true
        at true = refl
        at false = h

-- ---- sound fields

sound_no_float : (shape : Shape) (f : FieldShape) (v : Val) → IsSoundAt shape (Some f) v → is_float f.kind ≡ false
sound_no_float shape f (number z) h = (number_numeral f.kind z h.2).read
sound_no_float shape f (truth b) h = rw h.2 refl
sound_no_float shape f (text s) h = rw h.2 refl
sound_no_float shape f (octets b) h = rw h.2 refl
sound_no_float shape f (message c) h = rw h.1.1 refl
sound_no_float shape f (many no_vals) h = absurd (let bad : true ≡ false = h.1 in cc)
sound_no_float shape f (many (val v vs)) h = element_no_float shape f.kind v h.2.0
sound_no_float shape f (keyed no_pairs) h = absurd (let bad : true ≡ false = h.0 in cc)
sound_no_float shape f (keyed (pair l v ps)) h = element_no_float shape f.kind v h.1.2.1

sound_at : (shape : Shape) (gs : List FieldShape) (n : ℕ) (fs : Fields) (v : Val) → AreSound shape gs fs → get n fs ≡ Some v
    → IsSoundAt shape (field_of n gs) v × (val_depth v ≤ fields_depth fs)
sound_at shape gs n no_fields v h e = absurd cc
sound_at shape gs n (field m w fs) v h e = at (n == m) refl e (sound_at shape gs n fs v h.1)
  where
    at : (b : Bool) → (n == m) ≡ b → (if b then Some w else get n fs) ≡ Some v
        → (get n fs ≡ Some v → IsSoundAt shape (field_of n gs) v × (val_depth v ≤ fields_depth fs))
        → IsSoundAt shape (field_of n gs) v × (val_depth v ≤ max (val_depth w) (fields_depth fs))
    at true d e ih =
        let number : m ≡ n = grind (arith, nat_tests) in
        let same : w ≡ v = cc in
        let P : Val → Type 0 = λ x. IsSoundAt shape (field_of n gs) x × (val_depth x ≤ max (val_depth w) (fields_depth fs)) in
        let Q : ℕ → Type 0 = λ k. IsSoundAt shape (field_of k gs) w in
        subst P same (subst Q number h.0, omega arith)
    at false d e ih = let t = ih e in (t.0, omega (arith, t.1))

sound_field : (shape : Shape) (gs : List FieldShape) (n : ℕ) (v : Val) → IsSoundAt shape (field_of n gs) v
    → (f : FieldShape) × (field_of n gs ≡ Some f) × IsSoundAt shape (Some f) v
sound_field shape gs n v h = at (field_of n gs) refl h
  where
    at : (o : Option FieldShape) → field_of n gs ≡ o → IsSoundAt shape o v → (f : FieldShape) × (field_of n gs ≡ Some f) × IsSoundAt shape (Some f) v
    at None e h = absurd h
    at (Some f) e h = (f, e, h)

none_own : (shape : Shape) (gs : List FieldShape) (fs : Fields) → AreSound shape gs fs → filter (is_kept gs) (fields_recs shape gs fs) ≡ []
none_own shape gs no_fields h = refl
none_own shape gs (field n v fs) h =
    let f = sound_field shape gs n v h.0 in
    filter-append (is_kept gs) (field_recs shape (field_of n gs) v) (fields_recs shape gs fs)
    ∙ rw (none_kept n gs f.0 (field_recs shape (field_of n gs) v) f.1 (sound_no_float shape f.0 v f.2) (have_number shape n gs v)) (none_own shape gs fs h.1)

-- ---- records that hold a content

-- the fields of a message that may have the values
pub record AreFields (shape : Shape) (gs : List FieldShape) (fs : Fields) : Type 0 where
  pub above : AreAbove 0 gs
  pub ascending : IsAscending fs
  pub sound : AreSound shape gs fs
  pub one_member : has_one_member gs fs ≡ true

-- of each number the records of the field's value, no record of another member of its oneof, and these kept
pub record Holds (shape : Shape) (gs : List FieldShape) (fs : Fields) (kept rs : List Rec) : Type 0 where
  pub own_recs : (f : FieldShape) → field_of f.number gs ≡ Some f → is_float f.kind ≡ false → those_of f.number rs ≡ own shape gs f.number (get f.number fs)
  pub alone : (f : FieldShape) → field_of f.number gs ≡ Some f → (v : Val) → get f.number fs ≡ Some v → any (is_rival gs f) rs ≡ false
  pub keeps : filter (is_kept gs) rs ≡ kept

own_alone : (shape : Shape) (gs : List FieldShape) (fs : Fields) → AreFields shape gs fs → (f : FieldShape) → field_of f.number gs ≡ Some f → (v : Val)
    → get f.number fs ≡ Some v
    → any (is_rival gs f) (fields_recs shape gs fs) ≡ false
own_alone shape gs fs h f listed v e =
    no_rivals shape gs f fs (has_got f.number fs v e)
    (one_of_them (λ f. list_all (λ g. not (is_other f g && has f.number fs && has g.number fs)) gs) f.number gs f listed h.one_member) fs (λ n e. e)

-- what is written of the fields alone, field by field
pub holds_own : (shape : Shape) (gs : List FieldShape) (fs : Fields) → AreFields shape gs fs → Holds shape gs fs [] (fields_recs shape gs fs)
holds_own shape gs fs h = record {
  own_recs = λ f listed plain. those_own shape gs f.number fs h.ascending;
  alone = own_alone shape gs fs h;
  keeps = none_own shape gs fs h.sound;
}

kept_alone : (b : Bool) (kept : List Rec) → with_kept b [] kept ≡ settled_kept b kept
kept_alone true kept = refl
kept_alone false kept = refl

-- the same with the kept records
pub holds_written : (shape : Shape) (gs : List FieldShape) (fs : Fields) (b : Bool) (kept : List Rec) → AreFields shape gs fs
    → all_true (map (is_kept gs) kept) ≡ true
    → Holds shape gs fs (settled_kept b kept) (with_kept b (fields_recs shape gs fs) kept)
holds_written shape gs fs b kept h unread = record {
  own_recs = λ f listed plain.
      those_of-with_kept f.number b (fields_recs shape gs fs) kept
      ∙ rw (no_kept_of gs f kept listed plain unread, append-nil) (those_own shape gs f.number fs h.ascending);
  alone = λ f listed v e.
      any-with_kept (is_rival gs f) b (fields_recs shape gs fs) kept (own_alone shape gs fs h f listed v e) (no_rival_kept gs f kept unread);
  keeps =
      filter-with_kept (is_kept gs) b (fields_recs shape gs fs) kept ∙ rw (none_own shape gs fs h.sound, all_kept (is_kept gs) kept unread) (kept_alone b kept);
}

-- ---- one field of the type

value_nothing : (shape : Shape) (inner : Inner) (f : FieldShape) → value shape inner f [] ≡ Some None
value_nothing shape inner f = at (is_float f.kind) f.cardinality
  where
    single : (k : Kind) → singular shape inner f.presence k [] ≡ Some None
    single kind.Double = refl
    single kind.Float = refl
    single kind.Int32 = refl
    single kind.Int64 = refl
    single kind.Uint32 = refl
    single kind.Uint64 = refl
    single kind.Sint32 = refl
    single kind.Sint64 = refl
    single kind.Fixed32 = refl
    single kind.Fixed64 = refl
    single kind.Sfixed32 = refl
    single kind.Sfixed64 = refl
    single kind.Bool = refl
    single kind.String = refl
    single kind.Bytes = refl
    single (kind.Message t) = refl
    single (kind.Enum e) = refl

    at : (b : Bool) (c : Cardinality) → (if b then Some None else by_cardinality shape inner f c []) ≡ Some None
    at true c = refl
    at false Singular = single f.kind
    at false Repeated = refl
    at false (Map key) = refl

among_is : (shape : Shape) (inner : Inner) (gs : List FieldShape) (f : FieldShape) (rs : List Rec) (v : Option Val)
    → value shape inner f (those_of f.number rs) ≡ Some v
    → value shape inner f (those_of f.number (after_last (is_rival gs f) rs)) ≡ Some v → value_among shape inner gs f rs ≡ Some v
among_is shape inner gs f rs v e d = rw (e, d) refl

absent : (shape : Shape) (inner : Inner) (gs : List FieldShape) (f : FieldShape) (rs : List Rec) → (is_float f.kind ≡ false → those_of f.number rs ≡ [])
    → value_among shape inner gs f rs ≡ Some None
absent shape inner gs f rs none = at (is_float f.kind) refl
  where
    float : (rs : List Rec) → is_float f.kind ≡ true → value shape inner f rs ≡ Some None
    float rs e = rw e refl

    at : (b : Bool) → is_float f.kind ≡ b → value_among shape inner gs f rs ≡ Some None
    at true e = among_is shape inner gs f rs None (float _ e) (float _ e)
    at false e =
        let nothing = value_nothing shape inner f in
        among_is shape inner gs f rs None (rw (none e) nothing) (rw (none_after f.number (is_rival gs f) rs (none e)) nothing)

per_field : (shape : Shape) (levels : ℕ) (inner : Inner) → Reads shape inner levels → (gs : List FieldShape) (fs : Fields) (kept rs : List Rec)
    → AreFields shape gs fs
    → Holds shape gs fs kept rs → size rs < 2 ^ 64 → fields_depth fs ≤ levels → (f : FieldShape) → field_of f.number gs ≡ Some f
    → value_among shape inner gs f rs ≡ Some (option_map (settled_val shape (type_of f.kind)) (get f.number fs))
per_field shape levels inner r gs fs kept rs h holds short d f listed = at (get f.number fs) refl
  where
    at : (o : Option Val) → get f.number fs ≡ o → value_among shape inner gs f rs ≡ Some (option_map (settled_val shape (type_of f.kind)) o)
    at None e = absent shape inner gs f rs (λ plain. holds.own_recs f listed plain ∙ rw e refl)
    at (Some v) e =
        let s = sound_at shape gs f.number fs v h.sound e in
        let sound : IsSoundAt shape (Some f) v = let P : Option FieldShape → Type 0 = λ o. IsSoundAt shape o v in subst P listed s.0 in
        let these : those_of f.number rs ≡ field_recs shape (Some f) v = holds.own_recs f listed (sound_no_float shape f v sound) ∙ rw (e, listed) refl in
        let within : size (field_recs shape (Some f) v) < 2 ^ 64 = omega (arith, short, ap size these, size-filter (is_of f.number) rs) in
        let back = field_back shape inner levels r f v sound within (omega (arith, s.1, d)) in
        among_is shape inner gs f rs (Some (settled_val shape (type_of f.kind) v)) (rw these back)
        (rw (after_last_none (is_rival gs f) rs (holds.alone f listed v e), these) back)

-- ---- all fields of the type

-- values by number, in the order of the type's fields
abbrev gathered : List FieldShape → (ℕ → Option Val) → Fields
gathered [] look = no_fields
gathered (f ∷ fs) look = with_field f.number (look f.number) (gathered fs look)

values_gathered : (shape : Shape) (inner : Inner) (gs : List FieldShape) (rs : List Rec) (look : ℕ → Option Val)
    → ((f : FieldShape) → field_of f.number gs ≡ Some f → value_among shape inner gs f rs ≡ Some (look f.number))
    → (hs : List FieldShape) → AreListed gs hs → values shape inner gs hs rs ≡ Some (gathered hs look)
values_gathered shape inner gs rs look each [] h = refl
values_gathered shape inner gs rs look each (f ∷ hs) h = rw (each f h.0, values_gathered shape inner gs rs look each hs h.1) refl

same_gathered : (n : ℕ) (gs : List FieldShape) (look more : ℕ → Option Val) → AreAbove n gs → ((k : ℕ) → n < k → look k ≡ more k)
    → gathered gs look ≡ gathered gs more
same_gathered n [] look more a h = refl
same_gathered n (g ∷ gs) look more a h =
    rw (h g.number a.0, same_gathered g.number gs look more a.2 (λ k lt. h k (omega (arith, a.0)))) refl

-- each number is one of a field
abbrev AreKnown : List FieldShape → Fields → Type 0
AreKnown gs no_fields = Unit {0}
AreKnown gs (field n v fs) = (field_of n gs ≡ None → ⊥) × AreKnown gs fs

known_less : (g : FieldShape) (gs : List FieldShape) (n : ℕ) (fs : Fields) → g.number ≤ n → IsAbove n fs → AreKnown (g ∷ gs) fs → AreKnown gs fs
known_less g gs n no_fields le a h = tt
known_less g gs n (field m v fs) le a h =
    let apart : (m == g.number) ≡ false = grind (arith, nat_tests, a.0) in
    (rw apart at h.0, known_less g gs m fs (omega (arith, a.0)) a.1 h.1)

none_gathered : (gs : List FieldShape) → gathered gs (λ k. None) ≡ no_fields
none_gathered [] = refl
none_gathered (g ∷ gs) = none_gathered gs

gathered_again : (n : ℕ) (gs : List FieldShape) (fs : Fields) → AreAbove n gs → IsAscending fs → AreKnown gs fs → gathered gs (λ k. get k fs) ≡ fs
gathered_again n [] no_fields a h known = refl
gathered_again n [] (field m v fs) a h known = absurd (known.0 refl)
gathered_again n (g ∷ gs) no_fields a h known = none_gathered gs
gathered_again n (g ∷ gs) (field m v fs) a h known =
    at (g.number == m) refl (λ known. gathered_again g.number gs fs a.2 (ascending_tail m fs h) known)
    (λ known. gathered_again g.number gs (field m v fs) a.2 h known)
  where
    at : (b : Bool) → (g.number == m) ≡ b → (AreKnown gs fs → gathered gs (λ k. get k fs) ≡ fs)
        → (AreKnown gs (field m v fs) → gathered gs (λ k. get k (field m v fs)) ≡ field m v fs)
        → with_field g.number (if b then Some v else get g.number fs) (gathered gs (λ k. get k (field m v fs))) ≡ field m v fs
    at true e less all =
        let same : g.number ≡ m = grind (arith, nat_tests) in
        let above : IsAbove g.number fs = let P : ℕ → Type 0 = λ k. IsAbove k fs in subst P (sym same) h in
        let rest = same_gathered g.number gs (λ k. get k (field m v fs)) (λ k. get k fs) a.2 (λ k lt. rest_at k lt) in
        rw (rest, less (known_less g gs g.number fs (omega arith) above known.1), same) refl
      where
        rest_at : (k : ℕ) → g.number < k → get k (field m v fs) ≡ get k fs
        rest_at k lt = let apart : (k == m) ≡ false = grind (arith, nat_tests) in rw apart refl
    at false e less all =
        let apart : (m == g.number) ≡ false = grind (arith, nat_tests) in
        let later : field_of m gs ≡ None → ⊥ = rw apart at known.0 in
        let above : g.number < m = above_from (m == g.number) apart later in
        let none : get g.number fs ≡ None = get-above g.number m fs h (omega arith) in
        rw none (all (known_less g gs g.number (field m v fs) (omega arith) (above, h) known))
      where
        above_from : (b : Bool) → (m == g.number) ≡ false → (field_of m gs ≡ None → ⊥) → g.number < m
        above_from b apart later = elim (cases_lt g.number m) [
          | inl lt ↦ lt
          | inr le ↦ absurd (later (known_above g.number m gs a.2 (omega arith)))
        ]

get-settled : (shape : Shape) (gs : List FieldShape) (n : ℕ) (fs : Fields)
    → get n (settled_fields shape gs fs) ≡ option_map (settled_val shape (type_in (field_of n gs))) (get n fs)
get-settled shape gs n no_fields = refl
get-settled shape gs n (field m v fs) = at (n == m) refl (get-settled shape gs n fs)
  where
    at : (b : Bool) → (n == m) ≡ b → get n (settled_fields shape gs fs) ≡ option_map (settled_val shape (type_in (field_of n gs))) (get n fs)
        → (if b then Some (settled_val shape (type_in (field_of m gs)) v) else get n (settled_fields shape gs fs))
        ≡ option_map (settled_val shape (type_in (field_of n gs))) (if b then Some v else get n fs)
    at true e ih = let same : m ≡ n = grind (arith, nat_tests) in ap (λ k. Some (settled_val shape (type_in (field_of k gs)) v)) same
    at false e ih = ih

above-settled : (shape : Shape) (gs : List FieldShape) (n : ℕ) (fs : Fields) → IsAbove n fs → IsAbove n (settled_fields shape gs fs)
above-settled shape gs n no_fields h = tt
above-settled shape gs n (field m v fs) h = (h.0, above-settled shape gs m fs h.1)

ascending-settled : (shape : Shape) (gs : List FieldShape) (fs : Fields) → IsAscending fs → IsAscending (settled_fields shape gs fs)
ascending-settled shape gs no_fields h = tt
ascending-settled shape gs (field m v fs) h = above-settled shape gs m fs h

known-settled : (shape : Shape) (gs : List FieldShape) (fs : Fields) → AreSound shape gs fs → AreKnown gs (settled_fields shape gs fs)
known-settled shape gs no_fields h = tt
known-settled shape gs (field n v fs) h =
    (λ none. let P : Option FieldShape → Type 0 = λ o. IsSoundAt shape o v in subst P none h.0, known-settled shape gs fs h.1)

pub layer_back : (shape : Shape) (levels : ℕ) (inner : Inner) → Reads shape inner levels → (gs : List FieldShape) (fs : Fields) (kept rs : List Rec)
    → AreFields shape gs fs
    → Holds shape gs fs kept rs → size rs < 2 ^ 64 → fields_depth fs ≤ levels → layer shape inner gs rs ≡ Some (content (settled_fields shape gs fs) kept)
layer_back shape levels inner r gs fs kept rs h holds short d =
    let look : (f : FieldShape) → field_of f.number gs ≡ Some f
    → option_map (settled_val shape (type_of f.kind)) (get f.number fs) ≡ get f.number (settled_fields shape gs fs) =
    λ f listed.
    sym (get-settled shape gs f.number fs ∙ ap (λ (o : Option FieldShape). option_map (settled_val shape (type_in o)) (get f.number fs)) listed) in
    let all = values_gathered shape inner gs rs (λ k. get k (settled_fields shape gs fs))
    (λ f listed. per_field shape levels inner r gs fs kept rs h holds short d f listed ∙ ap (λ (o : Option Val). Some o) (look f listed))
    gs (all_listed 0 gs h.above) in
    let again = gathered_again 0 gs (settled_fields shape gs fs) h.above (ascending-settled shape gs fs h.ascending) (known-settled shape gs fs h.sound) in
    rw (all, again, holds.keeps) refl
