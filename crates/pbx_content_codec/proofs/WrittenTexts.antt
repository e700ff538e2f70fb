-- The texts of records, written as they are read off a tree.
use Rattle.std.proofs.Common.{◌≡◌, ℕ, suc, ◌+◌, ◌<◌, Bool, true, List, [], ◌∷◌, ◌++◌, length, drop, drop-cons, get_or, Option}
use Rattle.std.proofs.Common.{sym, ap, ◌∙◌, arith, append-nil, append_assoc}
use Rattle.std.proofs.lemmas.Bool.Decides.{nat_tests}
use Rattle.pbx_wire.specs.Text.{text_of}
use Rattle.pbx_wire.specs.declared.rec.Rec.{Rec}
use Rattle.pbx_wire.proofs.Texts.{text_of-append}
use Rattle.pbx_content_map.specs.Entries.{IsBelow, IsAscending as NumbersAscend}
use Rattle.pbx_content.specs.declared.shape.Shape.{Shape}
use Rattle.pbx_content.specs.declared.shape.FieldShape.{FieldShape}
use Rattle.pbx_content.specs.Content.{IsAbove, IsAscending}
use Rattle.pbx_content.specs.Shape.{fields_of, field_of, keeps_order_of}
use Rattle.pbx_content.specs.Encoding.{encoded, with_kept, fields_recs, field_recs}
use Rattle.pbx_content.proofs.WrittenInOrder.{kept_none, kept_behind}
use Rattle.pbx_content_codec.specs.declared.contents.Held.{Held}
use Rattle.pbx_content_codec.specs.declared.contents.Contents.{Contents, out-Contents}
use Rattle.pbx_content_codec.specs.View.{val_of, content_of}
use Rattle.pbx_content_codec.proofs.TreeFields.{held_fields, content_of_lem}

-- ---- field by field

pub fields_first : (shape : Shape) (gs : List FieldShape) (es : List (ℕ × Held)) (i : ℕ) (e : ℕ × Held) → i < length es → e ≡ get_or es i e
    → text_of (fields_recs shape gs (held_fields (drop i es)))
    ≡ text_of (field_recs shape (field_of e.0 gs) (val_of e.1)) ++ text_of (fields_recs shape gs (held_fields (drop (i + 1) es)))
fields_first shape gs es i e within is =
    let up : suc i ≡ i + 1 = omega arith in
    let next : drop i es ≡ e ∷ drop (i + 1) es =
    drop-cons es i e within ∙ ap (λ (x : ℕ × Held). x ∷ drop (suc i) es) (sym is) ∙ ap (λ (n : ℕ). e ∷ drop n es) up in
    ap (λ (xs : List (ℕ × Held)). text_of (fields_recs shape gs (held_fields xs))) next
    ∙ text_of-append (field_recs shape (field_of e.0 gs) (val_of e.1)) (fields_recs shape gs (held_fields (drop (i + 1) es)))

-- what was written before the field, with it, is what was written behind it
pub field_written : (shape : Shape) (gs : List FieldShape) (es : List (ℕ × Held)) (i : ℕ) (e : ℕ × Held) (before now all : List ℕ) (o : Option FieldShape)
    → i < length es → e ≡ get_or es i e → all ≡ before ++ text_of (fields_recs shape gs (held_fields (drop i es))) → o ≡ field_of e.0 gs
    → now ≡ before ++ text_of (field_recs shape o (val_of e.1)) → all ≡ now ++ text_of (fields_recs shape gs (held_fields (drop (i + 1) es)))
field_written shape gs es i e before now all o within is whole found put =
    whole ∙ ap (λ (t : List ℕ). before ++ t) (fields_first shape gs es i e within is)
    ∙ sym (append_assoc before (text_of (field_recs shape (field_of e.0 gs) (val_of e.1))) (text_of (fields_recs shape gs (held_fields (drop (i + 1) es)))))
    ∙ ap (λ (t : List ℕ). t ++ text_of (fields_recs shape gs (held_fields (drop (i + 1) es))))
    (ap (λ (p : Option FieldShape). before ++ text_of (field_recs shape p (val_of e.1))) (sym found) ∙ sym put)

-- ---- kept records behind

above_of : (n : ℕ) (es : List (ℕ × Held)) → IsBelow n es → NumbersAscend es → IsAbove n (held_fields es)
above_of n [] b o = tt
above_of n (e ∷ es) b o = (grind (arith, nat_tests, b), above_of e.0 es o.0 o.1)

fields_ascend : (es : List (ℕ × Held)) → NumbersAscend es → IsAscending (held_fields es)
fields_ascend [] o = tt
fields_ascend (e ∷ es) o = above_of e.0 es o.0 o.1

encoded_is : (shape : Shape) (t : ℕ) (c : Contents)
    → encoded shape t (content_of c)
    ≡ text_of (with_kept (keeps_order_of shape t) (fields_recs shape (fields_of shape t) (held_fields (out-Contents c).fields)) (out-Contents c).kept)
encoded_is shape t c = ap (encoded shape t) (content_of_lem c)

pub none_behind : (shape : Shape) (t : ℕ) (c : Contents) → NumbersAscend (out-Contents c).fields → (out-Contents c).kept ≡ []
    → encoded shape t (content_of c) ≡ text_of (fields_recs shape (fields_of shape t) (held_fields (out-Contents c).fields)) ++ text_of (out-Contents c).kept
none_behind shape t c order none =
    let gs = fields_of shape t in
    let fs = held_fields (out-Contents c).fields in
    let own = fields_recs shape gs fs in
    encoded_is shape t c ∙ ap (λ (ks : List Rec). text_of (with_kept (keeps_order_of shape t) own ks)) none
    ∙ ap text_of (kept_none shape gs fs (keeps_order_of shape t) (fields_ascend (out-Contents c).fields order))
    ∙ sym (append-nil (text_of own)) ∙ ap (λ (ks : List Rec). text_of own ++ text_of ks) (sym none)

pub all_behind : (shape : Shape) (t : ℕ) (c : Contents) → NumbersAscend (out-Contents c).fields → keeps_order_of shape t ≡ true
    → encoded shape t (content_of c) ≡ text_of (fields_recs shape (fields_of shape t) (held_fields (out-Contents c).fields)) ++ text_of (out-Contents c).kept
all_behind shape t c order keeps =
    let gs = fields_of shape t in
    let fs = held_fields (out-Contents c).fields in
    let own = fields_recs shape gs fs in
    let kept = (out-Contents c).kept in
    encoded_is shape t c ∙ ap (λ (b : Bool). text_of (with_kept b own kept)) keeps
    ∙ ap text_of (kept_behind shape gs fs kept (fields_ascend (out-Contents c).fields order)) ∙ text_of-append own kept
