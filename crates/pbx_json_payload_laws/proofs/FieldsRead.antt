-- The records of the fields and the kept records mean the content, with its kept records settled, if each payload has a length of 64 bits.
use Rattle.std.proofs.Common.{◌≡◌, ℕ, ◌^◌, ◌<◌, ◌≤◌, Bool, true, false, if◌then◌else◌, List, [], ◌∷◌, Option, Some, None}
use Rattle.std.proofs.Common.{option_map, inl, inr, refl, sym, ap, ◌∙◌, subst, arith}
use Rattle.std.specs.Prelude.{◌==◌}
use Rattle.std.proofs.lemmas.Bool.Decides.{nat_tests}
use Rattle.std.proofs.lemmas.Bool.{cases_lt}
use Rattle.pbx_wire.specs.declared.rec.Rec.{Rec}
use Rattle.pbx_content.specs.declared.shape.Kind.{Kind}
use Rattle.pbx_content.specs.declared.shape.Kind.TheVariants as kind
use Rattle.pbx_content.specs.declared.shape.Cardinality.{Cardinality}
use Rattle.pbx_content.specs.declared.shape.Cardinality.TheVariants.{Singular, Repeated, Map}
use Rattle.pbx_content.specs.declared.shape.Shape.{Shape}
use Rattle.pbx_content.specs.declared.shape.FieldShape.{FieldShape}
use Rattle.pbx_content.specs.Content.{content, Fields, no_fields, field, Val, number, truth, text, octets, message, many, keyed}
use Rattle.pbx_content.specs.Content.{no_vals, val, no_pairs, pair, get, IsAbove, IsAscending}
use Rattle.pbx_content.specs.Records.{is_of, those_of, after_last}
use Rattle.pbx_content.specs.Shape.{field_of, is_float, is_rival}
use Rattle.pbx_content.specs.Meaning.{Inner, singular, by_cardinality, value, value_among, with_field, values, layer}
use Rattle.pbx_content.specs.Encoding.{type_of, field_recs}
use Rattle.pbx_content.specs.Same.{type_in, settled_fields, settled_val}
use Rattle.pbx_content.specs.Sound.{AreSound, IsSoundAt, fields_depth}
use Rattle.pbx_content.proofs.Sorted.{after_last_none, none_after}
use Rattle.pbx_content.proofs.WrittenOrder.{AreAbove, AreListed, all_listed, known_above}
use Rattle.pbx_content.proofs.WrittenNumbers.{number_numeral}
use Rattle.pbx_content.proofs.SoundLists.{all-filter}
use Rattle.pbx_content.proofs.SoundValues.{get_sound}
use Rattle.pbx_content.proofs.WrittenValues.{Reads, element_no_float}
use Rattle.pbx_content.proofs.WrittenFields.{AreFields, Holds, get-above}
use Rattle.pbx_json_payload_laws.proofs.Shrinks.{IsPayloadBelow, ArePayloadsBelow}
use Rattle.pbx_json_payload_laws.proofs.Values.{field_back}

-- ---- one field of the type

sound_no_float : (shape : Shape) (f : FieldShape) (v : Val) → IsSoundAt shape (Some f) v → is_float f.kind ≡ false
sound_no_float shape f (number z) h = (number_numeral f.kind z h.2).read
sound_no_float shape f (truth b) h = rw h.2 refl
sound_no_float shape f (text s) h = rw h.2 refl
sound_no_float shape f (octets b) h = rw h.2 refl
sound_no_float shape f (message c) h = rw h.1.1 refl
sound_no_float shape f (many no_vals) h = absurd (let bad : true ≡ false = h.1 in cc)
sound_no_float shape f (many (val v vs)) h = element_no_float shape f.kind v h.2.0
sound_no_float shape f (keyed no_pairs) h = absurd (let bad : true ≡ false = h.0 in cc)
sound_no_float shape f (keyed (pair l v ps)) h = element_no_float shape f.kind v h.1.2.1

value_nothing : (shape : Shape) (inner : Inner) (f : FieldShape) → value shape inner f [] ≡ Some None
value_nothing shape inner f = at (is_float f.kind) f.cardinality
  where
    single : (k : Kind) → singular shape inner f.presence k [] ≡ Some None
    single (kind.Message t) = refl
    single k = refl

    at : (b : Bool) (c : Cardinality) → (if b then Some None else by_cardinality shape inner f c []) ≡ Some None
    at true c = refl
    at false Singular = single f.kind
    at false Repeated = refl
    at false (Map key) = refl

among_is : (shape : Shape) (inner : Inner) (gs : List FieldShape) (f : FieldShape) (rs : List Rec) (v : Option Val)
    → value shape inner f (those_of f.number rs) ≡ Some v
    → value shape inner f (those_of f.number (after_last (is_rival gs f) rs)) ≡ Some v → value_among shape inner gs f rs ≡ Some v
among_is shape inner gs f rs v e d = rw (e, d) refl

absent : (shape : Shape) (inner : Inner) (gs : List FieldShape) (f : FieldShape) (rs : List Rec) → (is_float f.kind ≡ false → those_of f.number rs ≡ [])
    → value_among shape inner gs f rs ≡ Some None
absent shape inner gs f rs none = at (is_float f.kind) refl
  where
    float : (rs : List Rec) → is_float f.kind ≡ true → value shape inner f rs ≡ Some None
    float rs e = rw e refl

    at : (b : Bool) → is_float f.kind ≡ b → value_among shape inner gs f rs ≡ Some None
    at true e = among_is shape inner gs f rs None (float _ e) (float _ e)
    at false e =
        let nothing = value_nothing shape inner f in
        among_is shape inner gs f rs None (rw (none e) nothing) (rw (none_after f.number (is_rival gs f) rs (none e)) nothing)

per_field : (shape : Shape) (levels : ℕ) (inner : Inner) → Reads shape inner levels → (gs : List FieldShape) (fs : Fields) (kept rs : List Rec)
    → AreFields shape gs fs
    → Holds shape gs fs kept rs → ArePayloadsBelow (2 ^ 64) rs → fields_depth fs ≤ levels → (f : FieldShape) → field_of f.number gs ≡ Some f
    → value_among shape inner gs f rs ≡ Some (option_map (settled_val shape (type_of f.kind)) (get f.number fs))
per_field shape levels inner r gs fs kept rs h holds short d f listed = at (get f.number fs) refl
  where
    at : (o : Option Val) → get f.number fs ≡ o → value_among shape inner gs f rs ≡ Some (option_map (settled_val shape (type_of f.kind)) o)
    at None e = absent shape inner gs f rs (λ plain. holds.own_recs f listed plain ∙ rw e refl)
    at (Some v) e =
        let s = get_sound shape gs f.number fs v h.sound e in
        let sound : IsSoundAt shape (Some f) v = let P : Option FieldShape → Type 0 = λ o. IsSoundAt shape o v in subst P listed s.0 in
        let these : those_of f.number rs ≡ field_recs shape (Some f) v = holds.own_recs f listed (sound_no_float shape f v sound) ∙ rw (e, listed) refl in
        let within = subst (ArePayloadsBelow (2 ^ 64)) these (all-filter (IsPayloadBelow (2 ^ 64)) (is_of f.number) rs short) in
        let back = field_back shape inner levels r f v sound within (omega (arith, s.1, d)) in
        among_is shape inner gs f rs (Some (settled_val shape (type_of f.kind) v)) (rw these back)
        (rw (after_last_none (is_rival gs f) rs (holds.alone f listed v e), these) back)

-- ---- all fields of the type

ascending_tail : (n : ℕ) (fs : Fields) → IsAbove n fs → IsAscending fs
ascending_tail n no_fields h = tt
ascending_tail n (field m v fs) h = h.1

-- values by number, in the order of the type's fields
abbrev gathered : List FieldShape → (ℕ → Option Val) → Fields
gathered [] look = no_fields
gathered (f ∷ fs) look = with_field f.number (look f.number) (gathered fs look)

values_gathered : (shape : Shape) (inner : Inner) (gs : List FieldShape) (rs : List Rec) (look : ℕ → Option Val)
    → ((f : FieldShape) → field_of f.number gs ≡ Some f → value_among shape inner gs f rs ≡ Some (look f.number))
    → (hs : List FieldShape) → AreListed gs hs → values shape inner gs hs rs ≡ Some (gathered hs look)
values_gathered shape inner gs rs look each [] h = refl
values_gathered shape inner gs rs look each (f ∷ hs) h = rw (each f h.0, values_gathered shape inner gs rs look each hs h.1) refl

same_gathered : (n : ℕ) (gs : List FieldShape) (look more : ℕ → Option Val) → AreAbove n gs → ((k : ℕ) → n < k → look k ≡ more k)
    → gathered gs look ≡ gathered gs more
same_gathered n [] look more a h = refl
same_gathered n (g ∷ gs) look more a h =
    rw (h g.number a.0, same_gathered g.number gs look more a.2 (λ k lt. h k (omega (arith, a.0)))) refl

-- each number is one of a field
abbrev AreKnown : List FieldShape → Fields → Type 0
AreKnown gs no_fields = Unit {0}
AreKnown gs (field n v fs) = (field_of n gs ≡ None → ⊥) × AreKnown gs fs

known_less : (g : FieldShape) (gs : List FieldShape) (n : ℕ) (fs : Fields) → g.number ≤ n → IsAbove n fs → AreKnown (g ∷ gs) fs → AreKnown gs fs
known_less g gs n no_fields le a h = tt
known_less g gs n (field m v fs) le a h =
    let apart : (m == g.number) ≡ false = grind (arith, nat_tests, a.0) in
    (rw apart at h.0, known_less g gs m fs (omega (arith, a.0)) a.1 h.1)

none_gathered : (gs : List FieldShape) → gathered gs (λ k. None) ≡ no_fields
none_gathered [] = refl
none_gathered (g ∷ gs) = none_gathered gs

gathered_again : (n : ℕ) (gs : List FieldShape) (fs : Fields) → AreAbove n gs → IsAscending fs → AreKnown gs fs → gathered gs (λ k. get k fs) ≡ fs
gathered_again n [] no_fields a h known = refl
gathered_again n [] (field m v fs) a h known = absurd (known.0 refl)
gathered_again n (g ∷ gs) no_fields a h known = none_gathered gs
gathered_again n (g ∷ gs) (field m v fs) a h known =
    at (g.number == m) refl (λ known. gathered_again g.number gs fs a.2 (ascending_tail m fs h) known)
    (λ known. gathered_again g.number gs (field m v fs) a.2 h known)
  where
    at : (b : Bool) → (g.number == m) ≡ b → (AreKnown gs fs → gathered gs (λ k. get k fs) ≡ fs)
        → (AreKnown gs (field m v fs) → gathered gs (λ k. get k (field m v fs)) ≡ field m v fs)
        → with_field g.number (if b then Some v else get g.number fs) (gathered gs (λ k. get k (field m v fs))) ≡ field m v fs
    at true e less all =
        let same : g.number ≡ m = grind (arith, nat_tests) in
        let above : IsAbove g.number fs = let P : ℕ → Type 0 = λ k. IsAbove k fs in subst P (sym same) h in
        let rest = same_gathered g.number gs (λ k. get k (field m v fs)) (λ k. get k fs) a.2 (λ k lt. rest_at k lt) in
        rw (rest, less (known_less g gs g.number fs (omega arith) above known.1), same) refl
      where
        rest_at : (k : ℕ) → g.number < k → get k (field m v fs) ≡ get k fs
        rest_at k lt = let apart : (k == m) ≡ false = grind (arith, nat_tests) in rw apart refl
    at false e less all =
        let apart : (m == g.number) ≡ false = grind (arith, nat_tests) in
        let later : field_of m gs ≡ None → ⊥ = rw apart at known.0 in
        let above : g.number < m = above_from (m == g.number) apart later in
        let none : get g.number fs ≡ None = get-above g.number m fs h (omega arith) in
        rw none (all (known_less g gs g.number (field m v fs) (omega arith) (above, h) known))
      where
        above_from : (b : Bool) → (m == g.number) ≡ false → (field_of m gs ≡ None → ⊥) → g.number < m
        above_from b apart later = elim (cases_lt g.number m) [
          | inl lt ↦ lt
          | inr le ↦ absurd (later (known_above g.number m gs a.2 (omega arith)))
        ]

get-settled : (shape : Shape) (gs : List FieldShape) (n : ℕ) (fs : Fields)
    → get n (settled_fields shape gs fs) ≡ option_map (settled_val shape (type_in (field_of n gs))) (get n fs)
get-settled shape gs n no_fields = refl
get-settled shape gs n (field m v fs) = at (n == m) refl (get-settled shape gs n fs)
  where
    at : (b : Bool) → (n == m) ≡ b → get n (settled_fields shape gs fs) ≡ option_map (settled_val shape (type_in (field_of n gs))) (get n fs)
        → (if b then Some (settled_val shape (type_in (field_of m gs)) v) else get n (settled_fields shape gs fs))
        ≡ option_map (settled_val shape (type_in (field_of n gs))) (if b then Some v else get n fs)
    at true e ih = let same : m ≡ n = grind (arith, nat_tests) in ap (λ k. Some (settled_val shape (type_in (field_of k gs)) v)) same
    at false e ih = ih

above-settled : (shape : Shape) (gs : List FieldShape) (n : ℕ) (fs : Fields) → IsAbove n fs → IsAbove n (settled_fields shape gs fs)
above-settled shape gs n no_fields h = tt
above-settled shape gs n (field m v fs) h = (h.0, above-settled shape gs m fs h.1)

ascending-settled : (shape : Shape) (gs : List FieldShape) (fs : Fields) → IsAscending fs → IsAscending (settled_fields shape gs fs)
ascending-settled shape gs no_fields h = tt
ascending-settled shape gs (field m v fs) h = above-settled shape gs m fs h

known-settled : (shape : Shape) (gs : List FieldShape) (fs : Fields) → AreSound shape gs fs → AreKnown gs (settled_fields shape gs fs)
known-settled shape gs no_fields h = tt
known-settled shape gs (field n v fs) h =
    (λ none. let P : Option FieldShape → Type 0 = λ o. IsSoundAt shape o v in subst P none h.0, known-settled shape gs fs h.1)

pub layer_back : (shape : Shape) (levels : ℕ) (inner : Inner) → Reads shape inner levels → (gs : List FieldShape) (fs : Fields) (kept rs : List Rec)
    → AreFields shape gs fs
    → Holds shape gs fs kept rs → ArePayloadsBelow (2 ^ 64) rs → fields_depth fs ≤ levels → layer shape inner gs rs ≡ Some (content (settled_fields shape gs fs) kept)
layer_back shape levels inner r gs fs kept rs h holds short d =
    let look : (f : FieldShape) → field_of f.number gs ≡ Some f
    → option_map (settled_val shape (type_of f.kind)) (get f.number fs) ≡ get f.number (settled_fields shape gs fs) =
    λ f listed.
    sym (get-settled shape gs f.number fs ∙ ap (λ (o : Option FieldShape). option_map (settled_val shape (type_in o)) (get f.number fs)) listed) in
    let all = values_gathered shape inner gs rs (λ k. get k (settled_fields shape gs fs))
    (λ f listed. per_field shape levels inner r gs fs kept rs h holds short d f listed ∙ ap (λ (o : Option Val). Some o) (look f listed))
    gs (all_listed 0 gs h.above) in
    let again = gathered_again 0 gs (settled_fields shape gs fs) h.above (ascending-settled shape gs fs h.ascending) (known-settled shape gs fs h.sound) in
    rw (all, again, holds.keeps) refl
