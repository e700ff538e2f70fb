-- What is read of a field.
use Rattle.std.proofs.Common.{◌≡◌, ℕ, false, Option, Some, None, sym, ap, ◌∙◌, subst}
use Rattle.std.specs.Prelude.{IsTrue, Result, Ok, Err, IfOk, IfSome, option_map}
use Rattle.pbx_content.specs.declared.shape.FieldShape.{FieldShape}
use Rattle.pbx_content.specs.declared.shape.Shape.{Shape}
use Rattle.pbx_content.specs.Content.{Content, Val, fields, get}
use Rattle.pbx_content.specs.Shape.{fields_of, field_of, is_float}
use Rattle.pbx_content.specs.Sound.{IsSound}
use Rattle.pbx_message_laws.specs.Defaults.{value_or_default}
use Rattle.pbx_message_laws.specs.Laws.{SoundIsSettable}
use Rattle.pbx_message_laws.specs.Pools.{ListedIsDeclared}
use Rattle.pbx_message_laws.specs.Settable.{IsSettable}
use Rattle.pbx_message_dynamic.specs.declared.value.Value.{Value}
use Rattle.pbx_message_dynamic.specs.Fields.{IsGot}
use Rattle.pbx_message_dynamic.specs.Given.{IsFieldGiven}
use Rattle.pbx_message_dynamic.specs.Message.{Dynamic, type_fields, shape_in}
use Rattle.pbx_message_dynamic.specs.Targets.{IsNumbered, IsOnly}

some_is : {A : Type 0} (a b : A) → Some a ≡ Some b → a ≡ b
some_is a b e = cc

-- the field may have the value that is there
pub there_settable : (shape : Shape) (t n : ℕ) (c : Content) (w : Val) (f : FieldShape) → SoundIsSettable → IsSound shape t c → Some w ≡ get n (fields c)
    → field_of n (fields_of shape t) ≡ Some f → IsSettable shape f w
there_settable shape t n c w f law sound e numbered =
    let is = law shape t n c w sound (sym e) in
    subst (λ (g : FieldShape). IsSettable shape g w) (some_is is.0 f (sym is.1 ∙ numbered)) is.3

pub if_there : {A : Type 0} (shape : Shape) (t n : ℕ) (c : Content) (h : A → Val) (r : Option A) (f : FieldShape) → SoundIsSettable → IsSound shape t c
    → option_map h r ≡ get n (fields c) → field_of n (fields_of shape t) ≡ Some f → IfSome r (λ (a : A). IsSettable shape f (h a))
if_there shape t n c h None f law sound e numbered = tt
if_there shape t n c h (Some a) f law sound e numbered = there_settable shape t n c (h a) f law sound e numbered

-- the value of the field, or its default
pub got_field : (m : Dynamic) (n : ℕ) (f : FieldShape) (x : Option Val) (v : Value) → ListedIsDeclared → IsNumbered m.of n f → is_float f.kind ≡ false
    → x ≡ get n (fields m.content) → IsFieldGiven m.of.pool f.cardinality f.kind (value_or_default (shape_in m) f x) v → IsGot m (IsNumbered m.of n) (Some v)
got_field m n f x v declared numbered plain e g =
    let number : f.number ≡ n = (declared (shape_in m) _ n f numbered).1 in
    let same : value_or_default (shape_in m) f x ≡ value_or_default (shape_in m) f (get f.number (fields m.content)) =
    ap (value_or_default (shape_in m) f) (e ∙ ap (λ (k : ℕ). get k (fields m.content)) (sym number)) in
    (f, numbered, (plain, g.by), g.same ∙ same)

-- the message has no field of the number
pub got_nothing : (m : Dynamic) (n : ℕ) → field_of n (type_fields m.of) ≡ None → IsGot m (IsNumbered m.of n) None
got_nothing m n none = λ f is. absurd (let bad : None ≡ Some f = sym none ∙ is in cc)

-- the field of the number is of a float kind
pub got_float : (m : Dynamic) (n : ℕ) (f : FieldShape) → IsNumbered m.of n f → IsTrue (is_float f.kind) → IsGot m (IsNumbered m.of n) None
got_float m n f numbered float = λ g is. subst (λ (h : FieldShape). IsTrue (is_float h.kind)) (some_is f g (sym numbered ∙ is)) float

-- ---- by what is meant

got_so : (m : Dynamic) (Own : FieldShape → Type 0) (n : ℕ) (v : Option Value) → IsOnly m.of Own n → IsGot m (IsNumbered m.of n) v → IsGot m Own v
got_so m Own n None o is = λ f own. subst (λ (g : FieldShape). IsTrue (is_float g.kind)) (sym (o.only f own)) (is o.field o.numbered)
got_so m Own n (Some v) o is =
    let e : is.0 ≡ o.field = some_is is.0 o.field (sym is.1 ∙ o.numbered) in
    (is.0, subst Own (sym e) o.own, is.2, is.3)

pub got_own : {E : Type 0} (m : Dynamic) (Own : FieldShape → Type 0) (n : ℕ) (r : Result (Option Value) E) → IsOnly m.of Own n → IfOk r (IsGot m (IsNumbered m.of n))
    → IfOk r (IsGot m Own)
got_own m Own n (Ok v) o is = got_so m Own n v o is
got_own m Own n (Err e) o is = tt

pub got_none : (m : Dynamic) (Own : FieldShape → Type 0) → ((f : FieldShape) → Own f → ⊥) → IsGot m Own None
got_none m Own none = λ f own. absurd (none f own)
