-- A content that a message may have stays as it is where no record comes.
use Rattle.std.proofs.Common.{◌≡◌, ℕ, Bool, true, false, if◌then◌else◌, List, [], ◌++◌, Option, Some, None, refl, sym, ap, ◌∙◌, subst, inl, append-nil}
use Rattle.std.specs.Prelude.{◌==◌}
use Rattle.std.proofs.lemmas.Bool.{eqb-true}
use Rattle.pbx_content.specs.declared.shape.Kind.{Kind}
use Rattle.pbx_content.specs.declared.shape.Kind.TheVariants as kind
use Rattle.pbx_content.specs.declared.shape.Cardinality.{Cardinality}
use Rattle.pbx_content.specs.declared.shape.Cardinality.TheVariants.{Singular, Repeated, Map}
use Rattle.pbx_content.specs.declared.shape.Shape.{Shape}
use Rattle.pbx_content.specs.declared.shape.FieldShape.{FieldShape}
use Rattle.pbx_content.specs.Content.{Key, key_before, content, get, Fields, no_fields, field, Val, number, truth, text, octets, message, many, keyed}
use Rattle.pbx_content.specs.Content.{Vals, no_vals, val, Pairs, no_pairs, pair, vals_of, with_pair, by_key}
use Rattle.pbx_content.specs.Shape.{fields_of, field_of, is_float}
use Rattle.pbx_content.specs.Meaning.{is_default, shown}
use Rattle.pbx_content.specs.Onto.{list_of, pair_list, InnerOnto, singular_onto, onto_by_cardinality, value_onto}
use Rattle.pbx_content.specs.Sound.{IsBefore, AreSound, IsSoundAt, AreElements, IsElement, ArePairs}
use Rattle.pbx_content.specs.Laws.{payload_onto, SoundIsStable}
use Rattle.pbx_content.proofs.WrittenNumbers.{number_numeral}
use Rattle.pbx_content.proofs.OntoOne.{none_stays, onto_nothing}

-- ---- one value

element_read : (shape : Shape) (k : Kind) (v : Val) → IsElement shape k v → is_float k ≡ false
element_read shape k (number z) h = (number_numeral k z h).read
element_read shape k (truth b) h = rw h refl
element_read shape k (text s) h = rw h.0 refl
element_read shape k (octets b) h = rw h refl
element_read shape k (message c) h = rw h.1 refl
element_read shape k (many vs) h = absurd h
element_read shape k (keyed ps) h = absurd h

singular_stays : (shape : Shape) (inner : InnerOnto) (f : FieldShape) (k : Kind) (old : Option Val) → singular_onto shape inner f k old [] ≡ Some old
singular_stays shape inner f (kind.Message t) old = refl
singular_stays shape inner f k old = refl

of_cardinality : (shape : Shape) (inner : InnerOnto) (f : FieldShape) (c : Cardinality) (v : Val) → is_float f.kind ≡ false → f.cardinality ≡ c
    → onto_by_cardinality shape inner f c (Some v) [] ≡ Some (Some v) → value_onto shape inner f (Some v) [] ≡ Some (Some v)
of_cardinality shape inner f c v read is h = rw (read, is) h

vals-list : (vs : Vals) → vals_of (list_of vs) ≡ vs
vals-list no_vals = refl
vals-list (val v vs) = ap (λ (t : Vals). val v t) (vals-list vs)

first_pair : (k : Key) (v : Val) (ps : Pairs) → IsBefore k ps → with_pair k v ps ≡ pair k v ps
first_pair k v no_pairs h = refl
first_pair k v (pair l w ps) h = let before : key_before k l ≡ true = h in rw before refl

pairs-list : (shape : Shape) (key k : Kind) (ps : Pairs) → ArePairs shape key k ps → by_key (pair_list ps) ≡ ps
pairs-list shape key k no_pairs h = refl
pairs-list shape key k (pair l v ps) h = ap (with_pair l v) (pairs-list shape key k ps h.3) ∙ first_pair l v ps h.2

stays_shown : (shape : Shape) (k : Kind) (v w : Val) → is_default shape k v ≡ false → w ≡ v → shown shape false k (Some w) ≡ Some v
stays_shown shape k v w e is = rw (is, e) refl

many_read : (shape : Shape) (k : Kind) (vs : Vals) → is_default shape k (many vs) ≡ false → AreElements shape k vs → is_float k ≡ false
many_read shape k no_vals e h = absurd cc
many_read shape k (val v vs) e h = element_read shape k v h.0

keyed_read : (shape : Shape) (key k : Kind) (ps : Pairs) → is_default shape k (keyed ps) ≡ false → ArePairs shape key k ps → is_float k ≡ false
keyed_read shape key k no_pairs e h = absurd cc
keyed_read shape key k (pair l v ps) e h = element_read shape k v h.1

value_stays : (shape : Shape) (inner : InnerOnto) (f : FieldShape) (v : Val) → IsSoundAt shape (Some f) v → value_onto shape inner f (Some v) [] ≡ Some (Some v)
value_stays shape inner f (number z) (is, shows, h) =
    of_cardinality shape inner f Singular (number z) (number_numeral f.kind z h).read is (singular_stays shape inner f f.kind (Some (number z)))
value_stays shape inner f (truth b) (is, shows, h) =
    of_cardinality shape inner f Singular (truth b) (rw h refl) is (singular_stays shape inner f f.kind (Some (truth b)))
value_stays shape inner f (text s) (is, shows, h, u) =
    of_cardinality shape inner f Singular (text s) (rw h refl) is (singular_stays shape inner f f.kind (Some (text s)))
value_stays shape inner f (octets b) (is, shows, h) =
    of_cardinality shape inner f Singular (octets b) (rw h refl) is (singular_stays shape inner f f.kind (Some (octets b)))
value_stays shape inner f (message c) (is, (t, h, s)) =
    of_cardinality shape inner f Singular (message c) (rw h refl) is (singular_stays shape inner f f.kind (Some (message c)))
value_stays shape inner f (many vs) (is, some, h) =
    let same : many (vals_of (list_of vs ++ [])) ≡ many vs =
    ap (λ (t : List Val). many (vals_of t)) (append-nil (list_of vs)) ∙ ap (λ (t : Vals). many t) (vals-list vs) in
    of_cardinality shape inner f Repeated (many vs) (many_read shape f.kind vs some h) is
    (ap (λ (o : Option Val). Some o) (stays_shown shape f.kind (many vs) (many (vals_of (list_of vs ++ []))) some same))
value_stays shape inner f (keyed ps) (some, (key, is, h)) =
    let same : keyed (by_key (pair_list ps ++ [])) ≡ keyed ps =
    ap (λ (t : List (Key × Val)). keyed (by_key t)) (append-nil (pair_list ps)) ∙ ap (λ (t : Pairs). keyed t) (pairs-list shape key f.kind ps h) in
    of_cardinality shape inner f (Map key) (keyed ps) (keyed_read shape key f.kind ps some h) is
    (ap (λ (o : Option Val). Some o) (stays_shown shape f.kind (keyed ps) (keyed (by_key (pair_list ps ++ []))) some same))

-- ---- all fields

sound_stays : (shape : Shape) (inner : InnerOnto) (gs : List FieldShape) (fs : Fields) (g : FieldShape) → AreSound shape gs fs → field_of g.number gs ≡ Some g
    → value_onto shape inner g (get g.number fs) [] ≡ Some (get g.number fs)
sound_stays shape inner gs no_fields g h e = none_stays shape inner g
sound_stays shape inner gs (field n v fs) g h e = at (g.number == n) refl (sound_stays shape inner gs fs g h.1 e)
  where
    at : (b : Bool) → (g.number == n) ≡ b → value_onto shape inner g (get g.number fs) [] ≡ Some (get g.number fs)
        → value_onto shape inner g (if b then Some v else get g.number fs) [] ≡ Some (if b then Some v else get g.number fs)
    at true d ih =
        let is = eqb-true g.number n d in
        let own : IsSoundAt shape (Some g) v = rw (← e, is) h.0 in
        value_stays shape inner g v own
    at false d ih = ih

sound_own : (shape : Shape) (gs : List FieldShape) (fs : Fields) (k : ℕ) → AreSound shape gs fs → field_of k gs ≡ None → get k fs ≡ None
sound_own shape gs no_fields k h e = refl
sound_own shape gs (field n v fs) k h e = at (k == n) refl (sound_own shape gs fs k h.1 e)
  where
    none : k ≡ n → IsSoundAt shape None v
    none is =
        let here : IsSoundAt shape (field_of k gs) v = subst (λ (j : ℕ). IsSoundAt shape (field_of j gs) v) (sym is) h.0 in
        subst (λ (o : Option FieldShape). IsSoundAt shape o v) e here

    at : (b : Bool) → (k == n) ≡ b → get k fs ≡ None → (if b then Some v else get k fs) ≡ None
    at true d ih = absurd (none (eqb-true k n d))
    at false d ih = ih

pub sound_is_stable : SoundIsStable
sound_is_stable shape levels t (content fs ks) proper h =
    onto_nothing shape levels (fields_of shape t) (content fs ks) fs proper (inl (t, refl)) h.0 (λ n e. sound_own shape (fields_of shape t) fs n h.1 e)
    (λ g e. sound_stays shape (payload_onto shape levels) (fields_of shape t) fs g h.1 e)
