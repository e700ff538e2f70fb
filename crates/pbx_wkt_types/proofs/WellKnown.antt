-- The names of the well-known types are those of the table of their fields.
use Rattle.std.proofs.Common.{◌≡◌, ℕ, List, [], ◌∷◌, map, Bool, true, false, ◌||◌, if◌then◌else◌, Option, Some, None, refl, sym, ap, ◌∙◌, subst}
use Rattle.std.specs.Prelude.{find, is_some, eqb}
use Rattle.std.specs.List.{list_any, starts_with, AllByRecursion}
use Rattle.std.specs.Str.{bytes_eq}
use Rattle.std.proofs.lemmas.Slice.Eq.{bytes_eq-Decides}
use Rattle.pbx_content.specs.declared.shape.Shape.{Shape}
use Rattle.pbx_wkt_types.specs.Names.{is_well_known}
use Rattle.pbx_wkt_types.specs.Types.{message_name}
use Rattle.pbx_wkt_types.specs.Known.{Known, google, known_types, known_of}
use Rattle.pbx_wkt_types.specs.Shapes.{form_of, form_by, is_as_declared}
use Rattle.pbx_wkt_types.specs.declared.form.Form.{Form}
use Rattle.pbx_wkt_types.specs.declared.form.Form.TheVariants as forms

-- what holds of each type holds of the one that is found
pub found : (P : Known → Type 0) (p : Known → Bool) (ks : List Known) (k : Known) → find p ks ≡ Some k → AllByRecursion P ks → P k
found P p [] k h all = absurd cc
found P p (x ∷ xs) k h all = at (p x) h (λ e. found P p xs k e all.1)
  where
    at : (b : Bool) → (if b then Some x else find p xs) ≡ Some k → (find p xs ≡ Some k → P k) → P k
    at true e more = subst P (let same : x ≡ k = cc in same) all.0
    at false e more = more e

pub found_passes : (p : Known → Bool) (ks : List Known) (k : Known) → find p ks ≡ Some k → p k ≡ true
found_passes p [] k h = absurd cc
found_passes p (x ∷ xs) k h = at (p x) refl h (found_passes p xs k)
  where
    at : (b : Bool) → p x ≡ b → (if b then Some x else find p xs) ≡ Some k → (find p xs ≡ Some k → p k ≡ true) → p k ≡ true
    at true is e more = let same : x ≡ k = cc in sym (ap p same) ∙ is
    at false is e more = more e

-- each of the names begins with that of the package
each_begins : AllByRecursion (λ (k : Known). starts_with eqb k.name (google []) ≡ true) known_types
each_begins = (refl, (refl, (refl, (refl, (refl, (refl, (refl, (refl, (refl, (refl, (refl, (refl, (refl, (refl, (refl, (refl, (refl, tt)))))))))))))))))

pub elsewhere : (name : List ℕ) → starts_with eqb name (google []) ≡ false → known_of name ≡ None
unfolding known_of
elsewhere name h = at (find (λ (k : Known). bytes_eq k.name name) known_types) refl
  where
    at : (o : Option Known) → find (λ (k : Known). bytes_eq k.name name) known_types ≡ o → o ≡ None
    at None is = refl
    at (Some k) is =
        let same = (bytes_eq-Decides k.name name).0 (found_passes (λ (k : Known). bytes_eq k.name name) known_types k is) in
        let begins = found (λ (k : Known). starts_with eqb k.name (google []) ≡ true) (λ (k : Known). bytes_eq k.name name) known_types k is each_begins in
        absurd (let other : starts_with eqb k.name (google []) ≡ false = rw same h in cc)

turned : (a b : List ℕ) → bytes_eq a b ≡ bytes_eq b a
turned a b = at (bytes_eq a b) (bytes_eq b a) refl refl
  where
    at : (x y : Bool) → bytes_eq a b ≡ x → bytes_eq b a ≡ y → bytes_eq a b ≡ bytes_eq b a
    at true true h k = h ∙ sym k
    at false false h k = h ∙ sym k
    at true false h k = h ∙ sym ((bytes_eq-Decides b a).1 (sym ((bytes_eq-Decides a b).0 h)))
    at false true h k = (bytes_eq-Decides a b).1 (sym ((bytes_eq-Decides b a).0 k)) ∙ sym k

any_found : (name : List ℕ) (ks : List Known)
    → list_any (λ own. bytes_eq name own) (map (λ (k : Known). k.name) ks) ≡ is_some (find (λ (k : Known). bytes_eq k.name name) ks)
any_found name [] = refl
any_found name (k ∷ ks) = rw (turned name k.name) (at (bytes_eq k.name name) (any_found name ks))
  where
    at : (b : Bool)
        → list_any (λ own. bytes_eq name own) (map (λ (k : Known). k.name) ks) ≡ is_some (find (λ (k : Known). bytes_eq k.name name) ks)
        → (b || list_any (λ own. bytes_eq name own) (map (λ (k : Known). k.name) ks)) ≡ is_some (if b then Some k else find (λ (k : Known). bytes_eq k.name name) ks)
    at true e = refl
    at false e = e

pub well_known_is_known : (name : List ℕ) → is_well_known name ≡ is_some (known_of name)
unfolding is_well_known known_of
well_known_is_known name = any_found name known_types

-- a name that is not well known is that of no type of the table
pub well_known_form : (name : List ℕ) → is_well_known name ≡ false → known_of name ≡ None
well_known_form name h = at (known_of name) (sym (well_known_is_known name) ∙ h)
  where
    at : (o : Option Known) → is_some o ≡ false → o ≡ None
    at None e = refl
    at (Some k) e = absurd cc

pub unknown_form : (name : List ℕ) → known_of name ≡ None → is_well_known name ≡ false
unknown_form name h = well_known_is_known name ∙ ap is_some h

-- JSON tells the messages of any other name as objects of fields
pub plain_form : (shape : Shape) (t : ℕ) → is_well_known (message_name shape t) ≡ false → form_of shape t ≡ forms.Fields
unfolding form_of
plain_form shape t h = ap (form_by shape t) (well_known_form (message_name shape t) h)

-- the form is not that of an object of fields
abbrev is_own : Form → Bool
is_own forms.Fields = false
is_own _ = true

each_own : AllByRecursion (λ (k : Known). is_own k.form ≡ true) known_types
each_own = (refl, (refl, (refl, (refl, (refl, (refl, (refl, (refl, (refl, (refl, (refl, (refl, (refl, (refl, (refl, (refl, (refl, tt)))))))))))))))))

-- and those of no other
pub fields_form : (shape : Shape) (t : ℕ) → form_of shape t ≡ forms.Fields → is_well_known (message_name shape t) ≡ false
unfolding form_of known_of
fields_form shape t h = unknown_form (message_name shape t) (at (known_of (message_name shape t)) refl h)
  where
    of_known : (k : Known) (b : Bool) → is_own k.form ≡ true → (if b then k.form else forms.Misshapen) ≡ forms.Fields → ⊥
    of_known k true own e = absurd (let same : is_own k.form ≡ false = ap is_own e in cc)
    of_known k false own e = absurd cc

    at : (o : Option Known) → known_of (message_name shape t) ≡ o → form_by shape t o ≡ forms.Fields → o ≡ None
    at None is e = refl
    at (Some k) is e =
        absurd (of_known k (is_as_declared shape t k)
        (found (λ (k : Known). is_own k.form ≡ true) (λ (k : Known). bytes_eq k.name (message_name shape t)) known_types k is each_own) e)
