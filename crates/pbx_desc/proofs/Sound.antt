-- A sound content is made of the values of its fields and its kept records.
use Rattle.std.proofs.Common.{◌≡◌, ℕ, ◌<◌, ◌≤◌, Bool, true, false, ◌&&◌, if◌then◌else◌, List, [], ◌∷◌, map, Option, Some, None, refl, sym, ap, ◌∙◌, subst, arith, inl, inr}
use Rattle.std.specs.Prelude.{◌==◌}
use Rattle.std.proofs.lemmas.Bool.Decides.{nat_tests}
use Rattle.std.proofs.lemmas.Bool.{cases_lt}
use Rattle.pbx_wire.specs.Text.{all_true, is_numbered, are_numbered}
use Rattle.pbx_wire.proofs.Written.{both}
use Rattle.pbx_wire.specs.declared.rec.Rec.{Rec}
use Rattle.pbx_content.specs.declared.shape.Cardinality.{Cardinality}
use Rattle.pbx_content.specs.declared.shape.Cardinality.TheVariants.{Singular, Repeated, Map}
use Rattle.pbx_content.specs.declared.shape.Kind.{Kind}
use Rattle.pbx_content.specs.declared.shape.Kind.TheVariants as kind
use Rattle.pbx_content.specs.declared.shape.Shape.{Shape}
use Rattle.pbx_content.specs.declared.shape.FieldShape.{FieldShape}
use Rattle.pbx_content.specs.Content.{Content, content, fields, kept, Fields, no_fields, field, Val, number, truth, text, octets, message, many, keyed, Vals, no_vals, val, vals_of, get, IsAbove, IsAscending}
use Rattle.pbx_content.specs.Shape.{fields_of, field_of, is_kept}
use Rattle.pbx_content.specs.Meaning.{with_field}
use Rattle.pbx_content.specs.Sound.{IsSound, AreSound, IsSoundAt, AreElements, IsElement, AreKept, IsNumber}
use Rattle.pbx_content.proofs.WrittenOrder.{AreAbove, AreListed, all_listed, known_above}
use Rattle.pbx_content.proofs.WrittenFields.{get-above}
use Rattle.pbx_desc_encoding.specs.Content.{writable, fields_from, record_content}
use Rattle.pbx_desc_encoding.specs.Sound.{IsOf, AreOf, MayBe}
use Rattle.pbx_desc.specs.Exact.{are_writable}

-- ---- values by number

-- the values of these fields
abbrev pub values_at : List FieldShape → Fields → List (Option Val)
values_at gs fs = map (λ (g : FieldShape). get g.number fs) gs

-- each number is one of a field
abbrev AreKnown : List FieldShape → Fields → Type 0
AreKnown gs no_fields = Unit {0}
AreKnown gs (field n v fs) = (field_of n gs ≡ None → ⊥) × AreKnown gs fs

known_from : (shape : Shape) (gs : List FieldShape) (fs : Fields) → AreSound shape gs fs → AreKnown gs fs
known_from shape gs no_fields h = tt
known_from shape gs (field n v fs) h = (λ none. subst (λ (o : Option FieldShape). IsSoundAt shape o v) none h.0, known_from shape gs fs h.1)

known_less : (g : FieldShape) (gs : List FieldShape) (n : ℕ) (fs : Fields) → g.number ≤ n → IsAbove n fs → AreKnown (g ∷ gs) fs → AreKnown gs fs
known_less g gs n no_fields le a h = tt
known_less g gs n (field m v fs) le a h =
    let apart : (m == g.number) ≡ false = grind (arith, nat_tests, a.0) in
    (rw apart at h.0, known_less g gs m fs (omega (arith, a.0)) a.1 h.1)

no_values : (gs : List FieldShape) → fields_from gs (values_at gs no_fields) ≡ no_fields
no_values [] = refl
no_values (g ∷ gs) = no_values gs

-- a lesser number in front is none of theirs
values_behind : (n m : ℕ) (v : Val) (gs : List FieldShape) (fs : Fields) → m ≤ n → AreAbove n gs → values_at gs (field m v fs) ≡ values_at gs fs
values_behind n m v [] fs le a = refl
values_behind n m v (g ∷ gs) fs le a =
    let apart : (g.number == m) ≡ false = grind (arith, nat_tests, a.0) in
    rw (apart, values_behind g.number m v gs fs (omega (arith, a.0)) a.2) refl

above_tail : (n : ℕ) (fs : Fields) → IsAbove n fs → IsAscending fs
above_tail n no_fields h = tt
above_tail n (field m v fs) h = h.1

fields_again : (n : ℕ) (gs : List FieldShape) (fs : Fields) → AreAbove n gs → IsAscending fs → AreKnown gs fs → fields_from gs (values_at gs fs) ≡ fs
fields_again n [] no_fields a h known = refl
fields_again n [] (field m v fs) a h known = absurd (known.0 refl)
fields_again n (g ∷ gs) no_fields a h known = no_values gs
fields_again n (g ∷ gs) (field m v fs) a h known =
    at (g.number == m) refl (λ known. fields_again g.number gs fs a.2 (above_tail m fs h) known)
    (λ known. fields_again g.number gs (field m v fs) a.2 h known)
  where
    at : (b : Bool) → (g.number == m) ≡ b → (AreKnown gs fs → fields_from gs (values_at gs fs) ≡ fs)
        → (AreKnown gs (field m v fs) → fields_from gs (values_at gs (field m v fs)) ≡ field m v fs)
        → with_field g.number (if b then Some v else get g.number fs) (fields_from gs (values_at gs (field m v fs))) ≡ field m v fs
    at true e less all =
        let same : g.number ≡ m = grind (arith, nat_tests) in
        let above : IsAbove g.number fs = let P : ℕ → Type 0 = λ k. IsAbove k fs in subst P (sym same) h in
        rw (values_behind g.number m v gs fs (omega (arith, same)) a.2, less (known_less g gs g.number fs (omega arith) above known.1), same) refl
    at false e less all =
        let apart : (m == g.number) ≡ false = grind (arith, nat_tests) in
        let later : field_of m gs ≡ None → ⊥ = rw apart at known.0 in
        let above : g.number < m = above_from later in
        let none : get g.number fs ≡ None = get-above g.number m fs h (omega arith) in
        rw none (all (known_less g gs g.number (field m v fs) (omega arith) (above, h) known))
      where
        above_from : (field_of m gs ≡ None → ⊥) → g.number < m
        above_from later = elim (cases_lt g.number m) [
          | inl lt ↦ lt
          | inr le ↦ absurd (later (known_above g.number m gs a.2 (omega arith)))
        ]

-- ---- kept records

kept_again : (gs : List FieldShape) (rs : List Rec) → all_true (map (is_kept gs) rs) ≡ true → are_numbered rs ≡ true → writable gs rs ≡ rs
kept_again gs [] u n = refl
kept_again gs (r ∷ rs) u n =
    let us = both (is_kept gs r) (all_true (map (is_kept gs) rs)) u in
    let ns = both (is_numbered r) (are_numbered rs) n in
    rw (ns.0, us.0, kept_again gs rs us.1 ns.1) refl

written_all : (gs : List FieldShape) (rs : List Rec) → all_true (map (is_kept gs) rs) ≡ true → are_numbered rs ≡ true → are_writable gs rs ≡ true
written_all gs [] u n = refl
written_all gs (r ∷ rs) u n =
    let us = both (is_kept gs r) (all_true (map (is_kept gs) rs)) u in
    let ns = both (is_numbered r) (are_numbered rs) n in
    rw (ns.0, us.0) (written_all gs rs us.1 ns.1)

-- ---- values of fields

-- the kinds of the fields of descriptor records
abbrev is_simple : Kind → Bool
is_simple kind.Int32 = true
is_simple kind.Bool = true
is_simple kind.String = true
is_simple (kind.Message t) = true
is_simple _ = false

abbrev no_map : Cardinality → Bool
no_map Singular = true
no_map Repeated = true
no_map (Map key) = false

abbrev pub are_simple : List FieldShape → Bool
are_simple [] = true
are_simple (g ∷ gs) = no_map g.cardinality && (is_simple g.kind && are_simple gs)

number_of_kind : (shape : Shape) (k : Kind) (z : _) → is_simple k ≡ true → IsNumber k z → IsOf shape k (number z)
number_of_kind shape kind.Int32 z s h = h
number_of_kind shape kind.Bool z s h = absurd h
number_of_kind shape kind.String z s h = absurd h
number_of_kind shape (kind.Message t) z s h = absurd h
number_of_kind shape _ z s h = absurd cc

element_is : (shape : Shape) (k : Kind) (v : Val) → is_simple k ≡ true → IsElement shape k v → IsOf shape k v
element_is shape k (number z) s h = number_of_kind shape k z s h
element_is shape k (truth b) s h = rw h tt
element_is shape k (text t) s h = rw h.0 h.1
element_is shape k (octets b) s h = absurd (let bad : true ≡ false = sym s ∙ ap is_simple h in cc)
element_is shape k (message c) s h = rw h.1 h.2
element_is shape k (many vs) s h = absurd h
element_is shape k (keyed ps) s h = absurd h

-- the values of a list
abbrev list_in : Vals → List Val
list_in no_vals = []
list_in (val v vs) = v ∷ list_in vs

list_again : (vs : Vals) → vals_of (list_in vs) ≡ vs
list_again no_vals = refl
list_again (val v vs) = ap (val v) (list_again vs)

elements_are : (shape : Shape) (k : Kind) (vs : Vals) → is_simple k ≡ true → AreElements shape k vs → AreOf shape k (list_in vs)
elements_are shape k no_vals s h = tt
elements_are shape k (val v vs) s h = (element_is shape k v s h.0, elements_are shape k vs s h.1)

single_is : (shape : Shape) (c : Cardinality) (k : Kind) (v : Val) → c ≡ Singular → IsOf shape k v → MayBe shape c k (Some v)
single_is shape c k v e h = rw e h

list_is : (shape : Shape) (c : Cardinality) (k : Kind) (v : Val) (vs : Vals) → c ≡ Repeated → is_simple k ≡ true → IsElement shape k v × AreElements shape k vs → MayBe shape c k (Some (many (val v vs)))
list_is shape c k v vs e s h = rw e (v ∷ list_in vs, ap (λ ws. Some (many (val v ws))) (sym (list_again vs)), elements_are shape k (val v vs) s h)

value_is : (shape : Shape) (g : FieldShape) (v : Val) → no_map g.cardinality ≡ true → is_simple g.kind ≡ true → IsSoundAt shape (Some g) v → MayBe shape g.cardinality g.kind (Some v)
value_is shape g (number z) m s h = single_is shape g.cardinality g.kind (number z) h.0 (number_of_kind shape g.kind z s h.2)
value_is shape g (truth b) m s h = single_is shape g.cardinality g.kind (truth b) h.0 (rw h.2 tt)
value_is shape g (text t) m s h = single_is shape g.cardinality g.kind (text t) h.0 (rw h.2 h.3)
value_is shape g (octets b) m s h = absurd (let bad : true ≡ false = sym s ∙ ap is_simple h.2 in cc)
value_is shape g (message c) m s h = single_is shape g.cardinality g.kind (message c) h.0 (rw h.1.1 h.1.2)
value_is shape g (many no_vals) m s h = absurd (let bad : true ≡ false = h.1 in cc)
value_is shape g (many (val v vs)) m s h = list_is shape g.cardinality g.kind v vs h.0 s h.2
value_is shape g (keyed ps) m s h = absurd (let bad : true ≡ false = sym m ∙ ap no_map h.1.1 in cc)

no_value_is : (shape : Shape) (c : Cardinality) (k : Kind) → no_map c ≡ true → MayBe shape c k None
no_value_is shape Singular k m = tt
no_value_is shape Repeated k m = ([], refl, tt)
no_value_is shape (Map key) k m = absurd cc

-- the value of a field is one that the field may have
got_is : (shape : Shape) (all : List FieldShape) (g : FieldShape) (fs : Fields) → field_of g.number all ≡ Some g → no_map g.cardinality ≡ true → is_simple g.kind ≡ true → AreSound shape all fs
    → MayBe shape g.cardinality g.kind (get g.number fs)
got_is shape all g no_fields e m s h = no_value_is shape g.cardinality g.kind m
got_is shape all g (field n v fs) e m s h = at (g.number == n) refl (got_is shape all g fs e m s h.1)
  where
    at : (b : Bool) → (g.number == n) ≡ b → MayBe shape g.cardinality g.kind (get g.number fs) → MayBe shape g.cardinality g.kind (if b then Some v else get g.number fs)
    at false same ih = ih
    at true same ih =
        let is : g.number ≡ n = grind (arith, nat_tests) in
        let own : field_of n all ≡ Some g = subst (λ (m : ℕ). field_of m all ≡ Some g) is e in
        value_is shape g v m s (subst (λ (o : Option FieldShape). IsSoundAt shape o v) own h.0)

-- each field's value is one that the field may have
abbrev pub MayHave : List FieldShape → Shape → Fields → Type 0
MayHave [] shape fs = Unit {0}
MayHave (g ∷ gs) shape fs = MayBe shape g.cardinality g.kind (get g.number fs) × MayHave gs shape fs

all_may : (shape : Shape) (all gs : List FieldShape) (fs : Fields) → AreListed all gs → are_simple gs ≡ true → AreSound shape all fs → MayHave gs shape fs
all_may shape all [] fs l s h = tt
all_may shape all (g ∷ gs) fs l s h =
    let one = both (no_map g.cardinality) _ s in
    let rest = both (is_simple g.kind) (are_simple gs) one.1 in
    (got_is shape all g fs l.0 one.0 rest.0 h, all_may shape all gs fs l.1 rest.1 h)

-- ---- the whole content

-- what a sound content of a type with these fields is
pub record IsMade (shape : Shape) (gs : List FieldShape) (c : Content) : Type 0 where
  pub may : MayHave gs shape (fields c)
  pub made : record_content gs (values_at gs (fields c)) (kept c) ≡ c
  pub written : are_writable gs (kept c) ≡ true

pub made_of : (shape : Shape) (t : ℕ) (gs : List FieldShape) (c : Content) → fields_of shape t ≡ gs → are_simple gs ≡ true → AreAbove 0 (fields_of shape t) → IsSound shape t c → IsMade shape gs c
made_of shape t gs (content fs ks) e simple above sound =
    let ascending = subst (AreAbove 0) e above in
    let values = subst (λ (hs : List FieldShape). AreSound shape hs fs) e sound.1 in
    let unread = subst (λ (hs : List FieldShape). AreKept hs ks) e sound.3 in
    record {
      may = all_may shape gs gs fs (all_listed 0 gs ascending) simple values;
      made = ap (λ hs. content hs (writable gs ks)) (fields_again 0 gs fs ascending sound.0 (known_from shape gs fs values)) ∙ ap (content fs) (kept_again gs ks unread.unread unread.numbered);
      written = written_all gs ks unread.unread unread.numbered;
    }
