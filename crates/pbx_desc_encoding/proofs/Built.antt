-- Contents that are made field by field.
use Rattle.std.proofs.Common.{◌≡◌, ℕ, true, List, [], ◌∷◌, ◌++◌, map, Option, Some, None, refl, sym, ap, ◌∙◌, subst, arith}
use Rattle.std.specs.Prelude.{Result, Ok, Err, IfOk, OnOk}
use Rattle.std.specs.List.{filter}
use Rattle.std.proofs.lemmas.List.{map-append}
use Rattle.pbx_wire.specs.Text.{are_fit}
use Rattle.pbx_wire.specs.declared.rec.Rec.{Rec}
use Rattle.std.proofs.lemmas.Bool.Decides.{nat_tests}
use Rattle.pbx_content_map.specs.Entries.{IsBelow, IsAscending, with_entries}
use Rattle.pbx_content_map.proofs.Places.{ascending_entries}
use Rattle.pbx_content_codec.specs.declared.contents.Contents.{Contents}
use Rattle.pbx_content_codec.specs.declared.contents.Held.TheViews.{roll-Contents}
use Rattle.pbx_content_codec.proofs.TreeFields.{rolled}
use Rattle.pbx_content_codec.specs.declared.contents.Held.{Held}
use Rattle.pbx_content_codec.specs.declared.contents.Held as held
use Rattle.pbx_content.specs.declared.shape.Cardinality.{Cardinality}
use Rattle.pbx_content.specs.declared.shape.Cardinality.TheVariants.{Repeated}
use Rattle.pbx_content.specs.declared.shape.FieldShape.{FieldShape}
use Rattle.pbx_content.specs.declared.shape.Kind.{Kind}
use Rattle.pbx_content.specs.Content.{content, Fields, no_fields, field, Val, many, vals_of, IsAbove, IsAscending as AreAscending}
use Rattle.pbx_content.specs.Meaning.{with_field}
use Rattle.pbx_content.specs.Shape.{fields_of}
use Rattle.pbx_content_codec.specs.View.{fields_in, entry_of, content_of, val_of}
use Rattle.pbx_desc_shapes.specs.DescriptorShape.{descriptor_shape}
use Rattle.pbx_content.proofs.WrittenOrder.{AreAbove, fields_above}
use Rattle.pbx_desc_shapes.proofs.DescriptorsProper.{descriptor_shape_proper}
use Rattle.pbx_desc_encoding.specs.Building.{entries, followed_by, Puts, Holds}
use Rattle.pbx_desc_encoding.specs.Sound.{AreOf, MayBe}
use Rattle.pbx_desc_encoding.specs.Content.{listed, fields_from, record_content}
use Rattle.pbx_wire.specs.Number.{is_writable_beside}
use Rattle.pbx_desc_encoding.proofs.Told.{val_of-Many}
use Rattle.pbx_desc_encoding.proofs.Fields.{AreValues, are_plain, numbers, kept_is, content_sound, ascend_from, ascends}

-- ---- fields behind fields

followed-nil : (fs : Fields) → followed_by fs no_fields ≡ fs
followed-nil no_fields = refl
followed-nil (field n v fs) = ap (field n v) (followed-nil fs)

followed-assoc : (fs gs hs : Fields) → followed_by (followed_by fs gs) hs ≡ followed_by fs (followed_by gs hs)
followed-assoc no_fields gs hs = refl
followed-assoc (field n v fs) gs hs = ap (field n v) (followed-assoc fs gs hs)

pub with-followed : (n : ℕ) (v : Option Val) (fs : Fields) → followed_by (with_field n v no_fields) fs ≡ with_field n v fs
with-followed n None fs = refl
with-followed n (Some v) fs = refl

fields_in-append : (xs ys : List (ℕ × Val)) → fields_in (xs ++ ys) ≡ followed_by (fields_in xs) (fields_in ys)
fields_in-append [] ys = refl
fields_in-append (x ∷ xs) ys = ap (field x.0 x.1) (fields_in-append xs ys)

pub entries-put : (fs : List (ℕ × Held)) (f : ℕ × Held) → entries (fs ++ f ∷ []) ≡ followed_by (entries fs) (field f.0 (val_of f.1) no_fields)
entries-put fs f = ap fields_in (map-append entry_of fs (f ∷ [])) ∙ fields_in-append (map entry_of fs) (entry_of f ∷ [])

pub entries-same : (fs : List (ℕ × Held)) → entries fs ≡ followed_by (entries fs) no_fields
entries-same fs = sym (followed-nil (entries fs))

-- ---- fields by ascending number

above_list : (n : ℕ) (xs : List (ℕ × Held)) → IsAbove n (entries xs) → IsBelow n xs × IsAscending xs
above_list n [] h = (tt, tt)
above_list n (x ∷ xs) h = (grind (arith, nat_tests, h.0), above_list x.0 xs h.1)

pub list_ascends : (xs : List (ℕ × Held)) → AreAscending (entries xs) → IsAscending xs
list_ascends [] h = tt
list_ascends (x ∷ xs) h = above_list x.0 xs h

pub values_ascend : (gs : List FieldShape) (vs : List (Option Val)) → AreAbove 0 gs → AreAscending (fields_from gs vs)
values_ascend gs vs above = ascends (fields_from gs vs) (ascend_from 0 gs vs above)

front_above : (n : ℕ) (fs gs : Fields) → IsAbove n (followed_by fs gs) → IsAbove n fs
front_above n no_fields gs h = tt
front_above n (field m v fs) gs h = (h.0, front_above m fs gs h.1)

pub front_ascends : (fs gs : Fields) → AreAscending (followed_by fs gs) → AreAscending fs
front_ascends no_fields gs h = tt
front_ascends (field m v fs) gs h = front_above m fs gs h

above_ascends : (n : ℕ) (fs : Fields) → IsAbove n fs → AreAscending fs
above_ascends n no_fields h = tt
above_ascends n (field m v fs) h = h.1

back_above : (n : ℕ) (fs gs : Fields) → IsAbove n (followed_by fs gs) → AreAscending gs
back_above n no_fields gs h = above_ascends n gs h
back_above n (field m v fs) gs h = back_above m fs gs h.1

pub back_ascends : (fs gs : Fields) → AreAscending (followed_by fs gs) → AreAscending gs
back_ascends no_fields gs h = h
back_ascends (field m v fs) gs h = back_above m fs gs h

-- the map that is made of ascending fields holds them
pub list_made : (list fs : List (ℕ × Held)) (ks : List Rec) → fs ≡ with_entries [] list → IsAscending list
    → content_of (roll-Contents (record { fields = fs; kept = ks })) ≡ content (entries list) ks
list_made list fs ks e ascending =
    rolled fs ks ∙ ap (λ (xs : List (ℕ × Held)). content (entries xs) ks) (e ∙ ascending_entries list ascending)

-- ---- values put in

pub put_value : (c : Cardinality) (k : Kind) (n : ℕ) (h : Held) (v : Val) (fs : List (ℕ × Held)) → val_of h ≡ v → MayBe descriptor_shape c k (Some v)
    → Puts c k n (Some v) fs (fs ++ (n, h) ∷ [])
put_value c k n h v fs e value = record {
  fields = entries-put fs ((n, h)) ∙ ap (λ w. followed_by (entries fs) (field n w no_fields)) e;
  value = value;
}

pub put_nothing : (c : Cardinality) (k : Kind) (n : ℕ) (fs : List (ℕ × Held)) → MayBe descriptor_shape c k None → Puts c k n None fs fs
put_nothing c k n fs absent = record { fields = entries-same fs; value = absent }

-- the values of a list, which stands behind the others where it has some
pub put_list : (k : Kind) (n : ℕ) (hs : List Held) (vs : List Val) (fs : List (ℕ × Held)) → map val_of hs ≡ vs → AreOf descriptor_shape k vs → (hs ≡ [] → ⊥) → Puts Repeated k n (listed vs) fs (fs ++ (n, held.Many hs) ∷ [])
put_list k n [] vs fs e all some = absurd (some refl)
put_list k n (h ∷ hs) vs fs e all some = subst (λ (ws : List Val). Puts Repeated k n (listed ws) fs (fs ++ (n, held.Many (h ∷ hs)) ∷ [])) e
    (put_value Repeated k n (held.Many (h ∷ hs)) (many (vals_of (map val_of (h ∷ hs)))) fs (val_of-Many (h ∷ hs)) (map val_of (h ∷ hs), refl, subst (AreOf descriptor_shape k) (sym e) all))

pub puts_some : (k : Kind) (n : ℕ) (hs : List Held) (vs : List Val) (old new : List (ℕ × Held)) → map val_of hs ≡ vs → AreOf descriptor_shape k vs
    → ((j : Kind) → AreOf descriptor_shape j (map val_of hs) → Puts Repeated j n (listed (map val_of hs)) old new) → Puts Repeated k n (listed vs) old new
puts_some k n hs vs old new e all h = subst (λ (ws : List Val). Puts Repeated k n (listed ws) old new) e (h k (subst (AreOf descriptor_shape k) (sym e) all))

pub puts_listed : {E : Type 0} (k : Kind) (n : ℕ) (hs : List Held) (vs : List Val) (old new : List (ℕ × Held)) (r : Result (Unit {0}) E) → map val_of hs ≡ vs → AreOf descriptor_shape k vs
    → OnOk r ((j : Kind) → AreOf descriptor_shape j (map val_of hs) → Puts Repeated j n (listed (map val_of hs)) old new) → OnOk r (Puts Repeated k n (listed vs) old new)
puts_listed k n hs vs old new (Ok u) e all h = puts_some k n hs vs old new e all h
puts_listed k n hs vs old new (Err e) is all h = tt

-- ---- what is left to be put in

-- the value of a field that is put in was the first of those that are left
pub puts_behind : {v : Option Val} {old new : List (ℕ × Held)} {c : Cardinality} {k : Kind} {n : ℕ} (g : FieldShape) (gs : List FieldShape) (vs : List (Option Val)) → Puts c k n v old new → g.number ≡ n
    → followed_by (entries new) (fields_from gs vs) ≡ followed_by (entries old) (fields_from (g ∷ gs) (v ∷ vs))
puts_behind {v} {old} {new} {c} {k} {n} g gs vs puts number =
    ap (λ (fs : Fields). followed_by fs (fields_from gs vs)) puts.fields
    ∙ followed-assoc (entries old) (with_field n v no_fields) (fields_from gs vs)
    ∙ ap (followed_by (entries old)) (with-followed n v (fields_from gs vs) ∙ ap (λ m. with_field m v (fields_from gs vs)) (sym number))

-- with the values that are left the list holds all values
pub record IsLeft (all : List FieldShape) (values : List (Option Val)) (gs : List FieldShape) (vs : List (Option Val)) (list : List (ℕ × Held)) : Type 0 where
  fields : followed_by (entries list) (fields_from gs vs) ≡ fields_from all values
  each : AreValues descriptor_shape gs vs → AreValues descriptor_shape all values

pub start : (gs : List FieldShape) (vs : List (Option Val)) (list : List (ℕ × Held)) → list ≡ [] → IsLeft gs vs gs vs list
start gs vs list e = record { fields = ap (λ (fs : List (ℕ × Held)). followed_by (entries fs) (fields_from gs vs)) e; each = λ h. h }

pub next : {all : List FieldShape} {values : List (Option Val)} {g : FieldShape} {gs : List FieldShape} {v : Option Val} {vs : List (Option Val)} {old new : List (ℕ × Held)} {c : Cardinality} {k : Kind} {n : ℕ}
    → IsLeft all values (g ∷ gs) (v ∷ vs) old → Puts c k n v old new → g.number ≡ n → g.cardinality ≡ c → g.kind ≡ k → IsLeft all values gs vs new
next {all} {values} {g} {gs} {v} {vs} {old} {new} {c} {k} {n} left puts number cardinality kind =
    record { fields = puts_behind g gs vs puts number ∙ left.fields; each = λ h. left.each (rw (cardinality, kind) puts.value, h) }

-- all values are put in, and the kept records stand beside them
pub made : (t : ℕ) (gs : List FieldShape) (vs : List (Option Val)) (list : List (ℕ × Held)) (unknown : List Rec) (contents : Contents) → fields_of descriptor_shape t ≡ gs → are_plain gs ≡ true
    → IsLeft gs vs [] [] list → (IsAscending list → content_of contents ≡ content (entries list) (filter (is_writable_beside (numbers gs)) unknown)) → are_fit (filter (is_writable_beside (numbers gs)) unknown) ≡ true
    → Holds t (record_content gs vs unknown) contents
made t gs vs list unknown contents type plain left is fit =
    let kept = kept_is gs unknown plain in
    let above = fields_above descriptor_shape t descriptor_shape_proper in
    let all : entries list ≡ fields_from gs vs = sym (followed-nil (entries list)) ∙ left.fields in
    let ascending = subst AreAscending (sym all) (values_ascend gs vs (subst (AreAbove 0) type above)) in
    record {
      content = is (list_ascends list ascending) ∙ ap (λ (fs : Fields). content fs (filter (is_writable_beside (numbers gs)) unknown)) all ∙ ap (content (fields_from gs vs)) (sym kept);
      sound = content_sound descriptor_shape t gs vs unknown type plain above (left.each tt) (rw kept fit);
    }

pub whole : {E : Type 0} (t : ℕ) (gs : List FieldShape) (vs : List (Option Val)) (list : List (ℕ × Held)) (unknown : List Rec) (r : Result Contents E) → fields_of descriptor_shape t ≡ gs → are_plain gs ≡ true
    → IsLeft gs vs [] [] list → IfOk r (λ contents. IsAscending list → content_of contents ≡ content (entries list) (filter (is_writable_beside (numbers gs)) unknown))
    → OnOk r (are_fit (filter (is_writable_beside (numbers gs)) unknown) ≡ true) → IfOk r (Holds t (record_content gs vs unknown))
whole t gs vs list unknown (Ok contents) type plain left is fit = made t gs vs list unknown contents type plain left is fit
whole t gs vs list unknown (Err e) type plain left is fit = tt
