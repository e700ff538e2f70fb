-- The field that a call means, by its number, and whether it has a value.
use Rattle.std.proofs.Common.{◌≡◌, ℕ, Bool, true, false, List, [], ◌∷◌, length, map, Option, Some, None, refl, sym, ap, ◌∙◌, subst, arith}
use Rattle.std.specs.Prelude.{◌↔◌, IsTrue, Contains, option_map, is_some, Result, Ok, Err, OnOk, IfErr}
use Rattle.pbx_content.specs.declared.shape.FieldShape.{FieldShape}
use Rattle.pbx_content.specs.declared.shape.Shape.{Shape}
use Rattle.pbx_content.specs.Content.{Content, content, Fields, no_fields, Val, fields, get, has, without, with_fields}
use Rattle.pbx_content.specs.Shape.{fields_of, field_of, is_float}
use Rattle.pbx_content.specs.Sound.{IsSound}
use Rattle.pbx_content_codec.specs.declared.contents.Contents.{Contents, out-Contents}
use Rattle.pbx_content_codec.specs.declared.contents.Held.{Held}
use Rattle.pbx_content_codec.specs.View.{content_of, fields_in, entry_of}
use Rattle.pbx_content_codec.proofs.Tree.{content_is}
use Rattle.pbx_desc_records.specs.declared.field.FieldDescriptorProto.{FieldDescriptorProto}
use Rattle.pbx_desc_records.specs.declared.message.DescriptorProto.{DescriptorProto}
use Rattle.pbx_link_meaning.specs.Descriptors.{Described, IsSame, parent_of, extended_of, number_of_field, fields_of_message, extensions_of_message}
use Rattle.pbx_link_meaning.specs.Shapes.{field_shape, extension_shape}
use Rattle.pbx_message_laws.specs.Laws.{SoundIsSettable, HasIsGet}
use Rattle.pbx_message_laws.specs.Pools.{IsPooled, SameIsEqual, FieldIsListed, ExtensionIsListed, ListedIsDeclared}
use Rattle.pbx_message_dynamic.specs.declared.error.SetFieldError.{SetFieldError}
use Rattle.pbx_message_dynamic.specs.declared.error.SetFieldError.TheVariants as errors
use Rattle.pbx_message_dynamic.specs.declared.value.Value.{Value}
use Rattle.pbx_message_dynamic.specs.Fields.{IsOwnField, IsOwnExtension, HasValue, IsCleared, IsFieldSet, IsNotSet}
use Rattle.pbx_message_dynamic.specs.Message.{Dynamic, type_fields, with_content}
use Rattle.pbx_message_dynamic.specs.Targets.{IsNumbered, IsOnly}

-- ---- fields and extensions

some_is : {A : Type 0} (a b : A) → Some a ≡ Some b → a ≡ b
some_is a b e = cc

pub own_field : (d p : Described DescriptorProto) (x : Described FieldDescriptorProto) → SameIsEqual → FieldIsListed → IsPooled d → IsPooled p → IsSame d p
    → parent_of x ≡ Some p → Contains (fields_of_message p) x → IsOnly d (IsOwnField d x) (number_of_field x)
own_field d p x equal listed of by same is within =
    let e : d ≡ p = equal d p of by same in
    let there : field_of (number_of_field x) (type_fields d) ≡ Some (field_shape x) =
    listed d x of (subst (λ (q : Described DescriptorProto). Contains (fields_of_message q) x) (sym e) within) in
    record {
      field = field_shape x;
      own = (p, is, same, there);
      numbered = there;
      number = refl;
      only = λ g o. some_is g (field_shape x) (sym o.3 ∙ there);
    }

pub own_extension : (d p : Described DescriptorProto) (x : Described FieldDescriptorProto) → SameIsEqual → ExtensionIsListed → IsPooled d → IsPooled p → IsSame d p
    → extended_of x ≡ Some p → Contains (extensions_of_message p) x → IsOnly d (IsOwnExtension d x) (number_of_field x)
own_extension d p x equal listed of by same is within =
    let e : d ≡ p = equal d p of by same in
    let there : field_of (number_of_field x) (type_fields d) ≡ Some (extension_shape x) =
    listed d x of (subst (λ (q : Described DescriptorProto). Contains (extensions_of_message q) x) (sym e) within) in
    record {
      field = extension_shape x;
      own = (p, is, same, there);
      numbered = there;
      number = refl;
      only = λ g o. some_is g (extension_shape x) (sym o.3 ∙ there);
    }

-- ---- values

-- what is found by the number is the value of a field
pub has_by : {A : Type 0} (shape : Shape) (t n : ℕ) (c : Content) (h : A → Val) (r : Option A) (b : Bool) → SoundIsSettable → HasIsGet → ListedIsDeclared
    → IsSound shape t c → option_map h r ≡ get n (fields c) → b ≡ is_some r
    → IsTrue b ↔ ((f : FieldShape) × (field_of n (fields_of shape t) ≡ Some f) × (is_float f.kind ≡ false)
    × IsTrue (has f.number (fields c)))
has_by shape t n c h None b settable is declared sound e s = (
  λ here. absurd (let bad : false ≡ true = sym s ∙ here in cc),
  λ w. absurd (let bad : false ≡ true = ap is_some e ∙ sym (is n (fields c)) ∙ ap (λ k. has k (fields c)) (sym (declared shape t n w.0 w.1).1) ∙ w.3 in cc),
)
has_by shape t n c h (Some a) b settable is declared sound e s =
    let f = settable shape t n c (h a) sound (sym e) in
    (λ here. (f.0, f.1, f.2, ap (λ k. has k (fields c)) (declared shape t n f.0 f.1).1 ∙ is n (fields c) ∙ ap is_some (sym e)), λ w. s)

pub has_own : (m : Dynamic) (Own : FieldShape → Type 0) (n : ℕ) (b : Bool) → IsOnly m.of Own n → HasValue m (IsNumbered m.of n) b → HasValue m Own b
has_own m Own n b o h = (
  λ here. (let w = h.0 here in
      let same = some_is w.0 o.field (sym w.1 ∙ o.numbered) in (
        o.field,
        o.own,
        subst (λ (f : FieldShape). is_float f.kind ≡ false) same w.2,
        subst (λ (f : FieldShape). IsTrue (has f.number (fields m.content))) same w.3,
      )),
  λ w. h.1 (
    o.field,
    o.numbered,
    subst (λ (f : FieldShape). is_float f.kind ≡ false) (o.only w.0 w.1) w.2,
    subst (λ (f : FieldShape). IsTrue (has f.number (fields m.content))) (o.only w.0 w.1) w.3,
  ),
)

pub has_none : (m : Dynamic) (Own : FieldShape → Type 0) → ((f : FieldShape) → Own f → ⊥) → HasValue m Own false
has_none m Own none = (λ here. absurd cc, λ w. absurd (none w.0 w.1))

pub cleared_own : (m new : Dynamic) (Own : FieldShape → Type 0) (n : ℕ) → IsOnly m.of Own n
    → new ≡ with_content m (with_fields m.content (without n (fields m.content))) → IsCleared m Own new
cleared_own m new Own n o e = record {
  own = λ f is. e ∙ ap (λ k. with_content m (with_fields m.content (without k (fields m.content)))) (sym (ap (λ (g : FieldShape). g.number) (o.only f is) ∙ o.number));
  other = λ none. absurd (none o.field o.own);
}

pub cleared_none : (m : Dynamic) (Own : FieldShape → Type 0) → ((f : FieldShape) → Own f → ⊥) → IsCleared m Own m
cleared_none m Own none = record { own = λ f is. absurd (none f is); other = λ other. refl }

-- ---- a message that holds no field

pub holds_none : (tree : Contents) → length (out-Contents tree).fields ≡ 0 → fields (content_of tree) ≡ no_fields
holds_none tree e = ap fields (content_is tree) ∙ at (out-Contents tree).fields e
  where
    at : (xs : List (ℕ × Held)) → length xs ≡ 0 → fields_in (map entry_of xs) ≡ no_fields
    at [] e = refl
    at (x ∷ xs) e = absurd (omega (arith, e))

pub has_no_value : (m : Dynamic) (Own : FieldShape → Type 0) → fields m.content ≡ no_fields → HasValue m Own false
has_no_value m Own e = (λ here. absurd cc, λ w. absurd (let bad : false ≡ true = ap (has w.0.number) (sym e) ∙ w.3 in cc))

pub cleared_nothing : (m : Dynamic) (Own : FieldShape → Type 0) → fields m.content ≡ no_fields → IsCleared m Own m
cleared_nothing m Own e = record { own = λ f is. ap (with_content m) (sym (same m.content f.number e)); other = λ other. refl }
  where
    same : (c : Content) (n : ℕ) → fields c ≡ no_fields → with_fields c (without n (fields c)) ≡ c
    same (content fs ks) n e = ap (λ (gs : Fields). content gs ks) (ap (without n) e ∙ sym e)

-- ---- setting

pub set_own : {E : Type 0} (m new : Dynamic) (Own : FieldShape → Type 0) (n : ℕ) (v : Value) (r : Result (Unit {0}) E) → IsOnly m.of Own n
    → OnOk r (IsFieldSet m (IsNumbered m.of n) v new) → OnOk r (IsFieldSet m Own v new)
set_own m new Own n v (Ok u) o is =
    let e : is.0 ≡ o.field = some_is is.0 o.field (sym is.1 ∙ o.numbered) in
    (is.0, subst Own (sym e) o.own, is.2, is.3)
set_own m new Own n v (Err e) o is = is

refused_so : (m : Dynamic) (Own : FieldShape → Type 0) (n : ℕ) (v : Value) (e : SetFieldError) → IsOnly m.of Own n
    → IsNotSet m (IsNumbered m.of n) v e → IsNotSet m Own v e
refused_so m Own n v errors.NotFound o is = λ f own. is o.field o.numbered
refused_so m Own n v errors.InvalidType o is =
    let e : is.0 ≡ o.field = some_is is.0 o.field (sym is.1 ∙ o.numbered) in
    (is.0, subst Own (sym e) o.own, is.2)
refused_so m Own n v errors.NoMemory o is = tt

pub refused_own : {T : Type 0} (m : Dynamic) (Own : FieldShape → Type 0) (n : ℕ) (v : Value) (r : Result T SetFieldError) → IsOnly m.of Own n
    → IfErr r (IsNotSet m (IsNumbered m.of n) v) → IfErr r (IsNotSet m Own v)
refused_own m Own n v (Ok u) o is = tt
refused_own m Own n v (Err e) o is = refused_so m Own n v e o is
