-- What is shown of a value, and where lists and maps are shown.
use Rattle.std.proofs.Common.{◌≡◌, Bool, true, false, if◌then◌else◌, Option, Some, None, refl, ap, sym, ◌∙◌}
use Rattle.pbx_content.specs.Content.{Val}
use Rattle.pbx_content.specs.Meaning.{shown, is_default}
use Rattle.pbx_content.specs.declared.shape.Kind.{Kind}
use Rattle.pbx_content.specs.declared.shape.Kind.TheVariants as kind
use Rattle.pbx_content.specs.declared.shape.Cardinality.{Cardinality}
use Rattle.pbx_content.specs.declared.shape.Cardinality.TheVariants.{Singular, Repeated, Map}
use Rattle.pbx_content.specs.declared.shape.FieldShape.{FieldShape}
use Rattle.pbx_content.specs.declared.shape.Shape.{Shape}
use Rattle.pbx_json_meaning.specs.Asked.{target_by, presence_by}
use Rattle.pbx_json_laws.proofs.Fits.{IsFilled}
use Rattle.pbx_json_laws.proofs.Parts.{of_some}

pub list_absent : (p : Bool) (k : Kind) → presence_by p k Repeated ≡ false
list_absent p (kind.Message t) = refl
list_absent p _ = refl

pub map_absent : (p : Bool) (k kk : Kind) → presence_by p k (Map kk) ≡ false
map_absent p (kind.Message t) kk = refl
map_absent p _ kk = refl

-- what is shown is the value itself
pub shown_is : (shape : Shape) (p : Bool) (k : Kind) (o : Option Val) (v : Val) → shown shape p k o ≡ Some v → (o ≡ Some v) × (shown shape p k (Some v) ≡ Some v)
shown_is shape p k None v h = absurd (cc)
shown_is shape p k (Some w) v h = let same : w ≡ v = at p h in (ap (λ x. Some x) same, ap (λ x. shown shape p k (Some x)) (sym same) ∙ h)
  where
    deep : (c : Bool) → (if c then None else Some w) ≡ Some v → w ≡ v
    deep true e = absurd (cc)
    deep false e = of_some w v e

    at : (b : Bool) → (if b then Some w else (if is_default shape k w then None else Some w)) ≡ Some v → w ≡ v
    at true e = of_some w v e
    at false e = deep (is_default shape k w) e

-- without presence no default is shown
pub no_default : (shape : Shape) (k : Kind) (v : Val) → shown shape false k (Some v) ≡ Some v → is_default shape k v ≡ false
no_default shape k v h = at (is_default shape k v) h
  where
    at : (c : Bool) → (if c then None else Some v) ≡ Some v → c ≡ false
    at true e = absurd (cc)
    at false e = refl

pub filled : (shape : Shape) (f : FieldShape) (c : Cardinality) (v : Val) → shown shape (presence_by f.presence f.kind c) f.kind (Some v) ≡ Some v
    → IsFilled shape v (target_by f c)
filled shape f Singular v h = tt
filled shape f Repeated v h = no_default shape f.kind v (ap (λ p. shown shape p f.kind (Some v)) (sym (list_absent f.presence f.kind)) ∙ h)
filled shape f (Map kk) v h = no_default shape f.kind v (ap (λ p. shown shape p f.kind (Some v)) (sym (map_absent f.presence f.kind kk)) ∙ h)
