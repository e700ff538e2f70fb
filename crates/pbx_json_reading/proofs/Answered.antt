-- What the results of readers tell of the answers.
use Rattle.std.proofs.Common.{◌≡◌, ap, sym, subst, refl, ℕ, Bool, Option, Ok, Err, Result, inl, inr, IfOk, IfErr}
use Rattle.serde_json.specs.Data.{Data, null, boolean, number, string, array, object}
use Rattle.pbx_content.specs.Content.{Val}
use Rattle.pbx_content.specs.Meaning.{shown}
use Rattle.pbx_content.specs.declared.shape.Kind.{Kind}
use Rattle.pbx_content.specs.declared.shape.Kind.TheVariants as kind
use Rattle.pbx_json_meaning.specs.Scalars.{scalar_read}
use Rattle.pbx_content.specs.declared.shape.Shape.{Shape}
use Rattle.pbx_content.specs.declared.shape.FieldShape.{FieldShape}
use Rattle.pbx_json_meaning.specs.Asked.{field, one, field_target, has_presence}
use Rattle.pbx_json_meaning.specs.declared.error.JsonError.{JsonError}
use Rattle.pbx_json_meaning.specs.declared.kind.JsonKind.TheVariants.{NoMemory}
use Rattle.pbx_json_walk.specs.Walk.{Answer, IsFaultOf, answer_map, answers, shown_as, or_here, value_answer, target_answer, elements_in, parts_in}
use Rattle.pbx_json_reading.specs.Results.{IsResultOf}

-- the answer in another form
pub told_by : {R X : Type 0} (f : R → X) (a b : Answer X) (r : Result R JsonError) → IsResultOf f b r → a ≡ b → IsResultOf f a r
told_by f a b r h e = subst (λ z. IsResultOf f z r) (sym e) h

-- a value that is made, unless memory runs out
pub told_made : {R X : Type 0} (f : R → X) (x : X) (r : Result R JsonError) → IfOk r (λ c. f c ≡ x) → IfErr r (λ e. e.kind ≡ NoMemory) → IsResultOf f (Ok x) r
told_made f x (Ok c) is err = ap Ok (sym is)
told_made f x (Err e) is err = inl err

-- the two clauses of a result as one
pub told_both : {R X : Type 0} (f : R → X) (a : Answer X) (r : Result R JsonError) → IfOk r (λ c. a ≡ Ok (f c)) → IfErr r (λ e. a ≡ Err e) → IsResultOf f a r
told_both f a (Ok c) is err = is
told_both f a (Err e) is err = inr err

-- and one as two
pub ok_told : {R X : Type 0} (f : R → X) (a : Answer X) (r : Result R JsonError) → IsResultOf f a r → IfOk r (λ c. a ≡ Ok (f c))
ok_told f a (Ok c) h = h
ok_told f a (Err e) h = tt

pub err_told : {R X : Type 0} (f : R → X) (a : Answer X) (r : Result R JsonError) → IsResultOf f a r → IfErr r (λ e. IsFaultOf a e)
err_told f a (Ok c) h = tt
err_told f a (Err e) h = h

-- what is answered for one value is shown as it is
map_shown : (shape : Shape) (k : Kind) (a : Answer (Option Val)) → answer_map (shown_as shape (one k)) a ≡ a
map_shown shape k (Ok o) = refl
map_shown shape k (Err e) = refl

pub one_answer : (shape : Shape) (allow : Bool) (d : Data) (k : Kind)
    → answers shape allow d (one k) ≡ value_answer shape allow k d (elements_in shape allow d) (parts_in shape allow d)
one_answer shape allow null k = map_shown shape k _
one_answer shape allow (boolean b) k = map_shown shape k _
one_answer shape allow (number n) k = map_shown shape k _
one_answer shape allow (string s) k = map_shown shape k _
one_answer shape allow (array ds) k = map_shown shape k _
one_answer shape allow (object ms) k = map_shown shape k _

pub field_answer : (shape : Shape) (allow : Bool) (d : Data) (f : FieldShape)
    → answers shape allow d (field f) ≡ answer_map (shown shape (has_presence f) f.kind) (target_answer shape allow (field_target shape d f) d (elements_in shape allow d) (parts_in shape allow d))
field_answer shape allow null f = refl
field_answer shape allow (boolean b) f = refl
field_answer shape allow (number n) f = refl
field_answer shape allow (string s) f = refl
field_answer shape allow (array ds) f = refl
field_answer shape allow (object ms) f = refl

-- a value of a kind that is no message
pub plain_answer : (shape : Shape) (allow : Bool) (d : Data) (k : Kind) → ((t : ℕ) → k ≡ kind.Message t → ⊥)
    → value_answer shape allow k d (elements_in shape allow d) (parts_in shape allow d) ≡ or_here (scalar_read shape allow k d)
plain_answer shape allow d kind.Double kept = refl
plain_answer shape allow d kind.Float kept = refl
plain_answer shape allow d kind.Int32 kept = refl
plain_answer shape allow d kind.Int64 kept = refl
plain_answer shape allow d kind.Uint32 kept = refl
plain_answer shape allow d kind.Uint64 kept = refl
plain_answer shape allow d kind.Sint32 kept = refl
plain_answer shape allow d kind.Sint64 kept = refl
plain_answer shape allow d kind.Fixed32 kept = refl
plain_answer shape allow d kind.Fixed64 kept = refl
plain_answer shape allow d kind.Sfixed32 kept = refl
plain_answer shape allow d kind.Sfixed64 kept = refl
plain_answer shape allow d kind.Bool kept = refl
plain_answer shape allow d kind.String kept = refl
plain_answer shape allow d kind.Bytes kept = refl
plain_answer shape allow d (kind.Message p) kept = absurd (kept p refl)
plain_answer shape allow d (kind.Enum p) kept = refl
