-- Fields without those of other members of a oneof.
use Rattle.std.proofs.Common.{◌≡◌, ℕ, zero, suc, ◌<◌, ◌≤◌, Bool, true, false, ◌&&◌, if◌then◌else◌, List, [], ◌∷◌, length, map, drop, get_or, Option, Some, None, refl, sym, ap, ◌∙◌, subst, arith}
use Rattle.std.specs.List.{remove}
use Rattle.std.specs.Prelude.{◌==◌, not}
use Rattle.pbx_wire.specs.declared.rec.Rec.{Rec}
use Rattle.pbx_content.specs.declared.shape.FieldShape.{FieldShape}
use Rattle.pbx_content.specs.Content.{Content, content, fields, kept, Fields, no_fields, field, without, with_fields}
use Rattle.pbx_content.specs.Shape.{field_of, same_oneof}
use Rattle.pbx_content_codec.specs.declared.contents.Held.{Held}
use Rattle.pbx_content_codec.specs.declared.contents.Held.TheViews.{roll-Contents}
use Rattle.pbx_content_codec.specs.declared.contents.Contents.{Contents, out-Contents}
use Rattle.pbx_content_codec.specs.declared.fields.FieldView.{FieldView}
use Rattle.pbx_content_codec.specs.Fields.{field_like}
use Rattle.pbx_content_codec.specs.Merging.{is_rival_to, without_rivals}
use Rattle.pbx_content_codec.specs.View.{content_of, fields_in, entry_of}
use Rattle.pbx_content_codec.proofs.Tree.{content_is, rolled}

pub unchanged : (c : Content) → c ≡ with_fields c (fields c)
unchanged (content fs ks) = refl

-- ---- fields in no oneof

no_oneof : (v : FieldView) (o : Option FieldShape) → v.oneof ≡ None → is_rival_to (field_like v) o ≡ false
no_oneof v None e = refl
no_oneof v (Some g) e = rw e (at g.oneof (g.number == v.number))
  where
    at : (x : Option ℕ) (b : Bool) → same_oneof x None && not b ≡ false
    at None b = refl
    at (Some n) b = refl

pub no_rivals : (gs : List FieldShape) (v : FieldView) (fs : Fields) → v.oneof ≡ None → without_rivals gs (field_like v) fs ≡ fs
no_rivals gs v no_fields e = refl
no_rivals gs v (field m x fs) e = rw (no_oneof v (field_of m gs) e) (ap (field m x) (no_rivals gs v fs e))

-- ---- from the last field to the first

-- the fields without rivals are those of the start, and none from this place on is one
pub record AreCleared (gs : List FieldShape) (f : FieldShape) (start now : List (ℕ × Held)) (place : ℕ) : Type 0 where
  pub same : without_rivals gs f (fields_in (map entry_of start)) ≡ without_rivals gs f (fields_in (map entry_of now))
  pub clear : without_rivals gs f (fields_in (map entry_of (drop place now))) ≡ fields_in (map entry_of (drop place now))
  pub fits : place ≤ length now

drop_whole : (xs : List (ℕ × Held)) → drop (length xs) xs ≡ []
drop_whole [] = refl
drop_whole (x ∷ xs) = drop_whole xs

pub cleared_none : (gs : List FieldShape) (f : FieldShape) (start : List (ℕ × Held)) → AreCleared gs f start start (length start)
cleared_none gs f start = record { same = refl; clear = rw (drop_whole start) refl; fits = omega arith }

drop_front : (xs : List (ℕ × Held)) (i : ℕ) (d : ℕ × Held) → i < length xs → drop i xs ≡ get_or xs i d ∷ drop (suc i) xs
drop_front [] i d lt = absurd (omega arith)
drop_front (x ∷ xs) zero d lt = refl
drop_front (x ∷ xs) (suc i) d lt = drop_front xs i d (omega arith)

pub cleared_stays : (gs : List FieldShape) (f : FieldShape) (start now : List (ℕ × Held)) (place i : ℕ) (d : ℕ × Held) → place ≡ suc i
    → is_rival_to f (field_of (entry_of (get_or now i d)).0 gs) ≡ false
    → AreCleared gs f start now place → AreCleared gs f start now i
cleared_stays gs f start now place i d p e h =
    let front = drop_front now i d (omega (arith, h.fits)) in
    let behind = subst (λ (x : ℕ). without_rivals gs f (fields_in (map entry_of (drop x now))) ≡ fields_in (map entry_of (drop x now))) p h.clear in
    record {
      same = h.same;
      clear =
          ap (λ (x : List (ℕ × Held)). without_rivals gs f (fields_in (map entry_of x))) front
          ∙ ap (λ b. if b then without_rivals gs f (fields_in (map entry_of (drop (suc i) now)))
          else field (entry_of (get_or now i d)).0 (entry_of (get_or now i d)).1 (without_rivals gs f (fields_in (map entry_of (drop (suc i) now))))) e
          ∙ ap (field (entry_of (get_or now i d)).0 (entry_of (get_or now i d)).1) behind
          ∙ ap (λ (x : List (ℕ × Held)). fields_in (map entry_of x)) (sym front);
      fits = omega (arith, h.fits);
    }

removed_same : (gs : List FieldShape) (f : FieldShape) (xs : List (ℕ × Held)) (i : ℕ) (d : ℕ × Held) → i < length xs
    → is_rival_to f (field_of (entry_of (get_or xs i d)).0 gs) ≡ true
    → without_rivals gs f (fields_in (map entry_of xs)) ≡ without_rivals gs f (fields_in (map entry_of (remove xs i)))
removed_same gs f [] i d lt e = absurd (omega arith)
removed_same gs f (x ∷ xs) zero d lt e = rw e refl
removed_same gs f (x ∷ xs) (suc i) d lt e =
    ap (λ (y : Fields). if is_rival_to f (field_of (entry_of x).0 gs) then y else field (entry_of x).0 (entry_of x).1 y) (removed_same gs f xs i d
    (omega arith) e)

removed_drop : (xs : List (ℕ × Held)) (i : ℕ) → i < length xs → drop i (remove xs i) ≡ drop (suc i) xs
removed_drop [] i lt = absurd (omega arith)
removed_drop (x ∷ xs) zero lt = refl
removed_drop (x ∷ xs) (suc i) lt = removed_drop xs i (omega arith)

removed_length : (xs : List (ℕ × Held)) (i : ℕ) → i < length xs → suc (length (remove xs i)) ≡ length xs
removed_length [] i lt = absurd (omega arith)
removed_length (x ∷ xs) zero lt = refl
removed_length (x ∷ xs) (suc i) lt = ap suc (removed_length xs i (omega arith))

pub cleared_more : (gs : List FieldShape) (f : FieldShape) (start now : List (ℕ × Held)) (place i : ℕ) (d : ℕ × Held) → place ≡ suc i
    → is_rival_to f (field_of (entry_of (get_or now i d)).0 gs) ≡ true
    → AreCleared gs f start now place → AreCleared gs f start (remove now i) i
cleared_more gs f start now place i d p e h =
    let less : i < length now = omega (arith, h.fits) in
    let behind = subst (λ (x : ℕ). without_rivals gs f (fields_in (map entry_of (drop x now))) ≡ fields_in (map entry_of (drop x now))) p h.clear in
    record {
      same = h.same ∙ removed_same gs f now i d less e;
      clear = rw (removed_drop now i less) behind;
      fits = omega (arith, h.fits, removed_length now i less);
    }

pub cleared_all : (gs : List FieldShape) (f : FieldShape) (start now : List (ℕ × Held)) (place : ℕ) → place ≡ 0 → AreCleared gs f start now place
    → fields_in (map entry_of now) ≡ without_rivals gs f (fields_in (map entry_of start))
cleared_all gs f start now place none h =
    sym (h.same ∙ sym (ap (λ (x : ℕ). without_rivals gs f (fields_in (map entry_of (drop x now)))) none) ∙ h.clear
    ∙ ap (λ (x : ℕ). fields_in (map entry_of (drop x now))) none)

-- ---- the whole content

whole_is : (c : Content) (fs gs : Fields) (ks : List Rec) → content fs ks ≡ with_fields c gs → (hs : Fields) → content hs ks ≡ with_fields c hs
whole_is (content cs ls) fs gs ks e hs = let is : ks ≡ ls = ap kept e in rw is refl

fields_are : (c : Content) (fs gs : Fields) (ks : List Rec) → content fs ks ≡ with_fields c gs → fs ≡ gs
fields_are (content cs ls) fs gs ks e = ap fields e

pub cleared_content : (gs : List FieldShape) (f : FieldShape) (mid : Contents) (now : List (ℕ × Held)) (c : Content) (n : ℕ)
    → content_of mid ≡ with_fields c (without n (fields c))
    → fields_in (map entry_of now) ≡ without_rivals gs f (fields_in (map entry_of (out-Contents mid).fields))
    → content_of (roll-Contents (record { fields = now; kept = (out-Contents mid).kept })) ≡ with_fields c (without_rivals gs f (without n (fields c)))
cleared_content gs f mid now c n is clear =
    let parts : content (fields_in (map entry_of (out-Contents mid).fields)) (out-Contents mid).kept ≡ with_fields c (without n (fields c)) = sym
    (content_is mid) ∙ is in
    rolled now (out-Contents mid).kept
    ∙ ap (λ (x : Fields). content x (out-Contents mid).kept)
    (clear ∙ ap (without_rivals gs f) (fields_are c (fields_in (map entry_of (out-Contents mid).fields)) (without n (fields c)) (out-Contents mid).kept parts))
    ∙ whole_is c (fields_in (map entry_of (out-Contents mid).fields)) (without n (fields c)) (out-Contents mid).kept parts (without_rivals gs f (without n
    (fields c)))
