-- The key of a type before other keys, and the forms of messages whose fields stand beside it.
use Rattle.std.proofs.Common.{◌≡◌, ℕ, ◌++◌, nat_le, List, ◌∷◌, length, filter, codes, Bool, true, false, if◌then◌else◌, refl, ap, sym, ◌∙◌}
use Rattle.std.specs.Str.{bytes_eq}
use Rattle.std.proofs.lemmas.Slice.Eq.{bytes_eq-Decides}
use Rattle.pbx_content.specs.declared.shape.Shape.{Shape}
use Rattle.pbx_wkt_types.specs.Shapes.{form_of}
use Rattle.pbx_wkt_types.specs.declared.form.Form.{Form}
use Rattle.pbx_wkt_types.specs.declared.form.Form.TheVariants as forms
use Rattle.pbx_json_meaning.specs.Forms.{is_object_form, is_object_type}
use Rattle.pbx_json_meaning.specs.Urls.{is_beside_type, stands_beside}
use Rattle.pbx_json_meaning.specs.WriteFaults.{type_keys, is_twice}
use Rattle.pbx_json_laws.proofs.LinesMade.{any_key, none_of}

-- ---- keys

-- a key in front of others, of which none is this
pub fresh_twice : (s k : List ℕ) (ks : List (List ℕ)) → any_key k ks ≡ false → is_twice s ks ≡ false → is_twice s (k ∷ ks) ≡ false
fresh_twice s k ks fresh never = at (bytes_eq k s) refl
  where
    at : (b : Bool) → bytes_eq k s ≡ b
        → nat_le 2 (length (if b then k ∷ filter (λ x. bytes_eq x s) ks else filter (λ x. bytes_eq x s) ks)) ≡ false
    at false e = never
    at true e =
        let same : k ≡ s = (bytes_eq-Decides k s).0 e in
        let none : any_key s ks ≡ false = ap (λ x. any_key x ks) (sym same) ∙ fresh in
        rw (none_of s ks none) refl

-- the type's key, where it is written, is not among the others
pub type_never_twice : (s : List ℕ) (typed : Bool) (ks js : List (List ℕ)) → (typed ≡ true → any_key (codes "@type") (ks ++ js) ≡ false)
    → is_twice s (ks ++ js) ≡ false → is_twice s (type_keys typed ++ ks ++ js) ≡ false
type_never_twice s false ks js fresh never = never
type_never_twice s true ks js fresh never = fresh_twice s (codes "@type") (ks ++ js) (fresh refl) never

-- ---- forms

-- messages whose fields stand beside the type are objects of fields
pub beside_object : (form : Form) → is_beside_type form ≡ true → is_object_form form ≡ true
beside_object forms.Fields h = refl
beside_object _ h = absurd (cc)

pub stands_object : (shape : Shape) (u : ℕ) → stands_beside shape u ≡ true → is_object_type shape u ≡ true
stands_object shape u h = beside_object (form_of shape u) h
