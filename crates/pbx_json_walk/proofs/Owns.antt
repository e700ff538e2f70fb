-- What a message of `Any` is read as: the fields of a type, or a message under `value`, which is there.
use Rattle.std.proofs.Common.{◌≡◌, ℕ, Bool, true, false, if◌then◌else◌, Option, Some, None, Result, Ok, Err, refl, ap}
use Rattle.std.specs.Prelude.{codes, List}
use Rattle.serde_json.specs.Data.{Data, null, boolean, number, string, array, object, Members}
use Rattle.serde_json.specs.Find.{get_member}
use Rattle.pbx_content.specs.Content.{Content}
use Rattle.pbx_content.specs.Shape.{declared_of}
use Rattle.pbx_content.specs.declared.shape.Kind.TheVariants as kind
use Rattle.pbx_content.specs.declared.shape.Shape.{Shape}
use Rattle.pbx_wkt_types.specs.Shapes.{form_of}
use Rattle.pbx_wkt_types.specs.declared.form.Form.{Form}
use Rattle.pbx_wkt_types.specs.declared.form.Form.TheVariants as forms
use Rattle.pbx_json_meaning.specs.Urls.{type_url, type_of_url, stands_beside}
use Rattle.pbx_json_meaning.specs.Forms.{Own, a_list, a_map, beside, under, at_once, holding, kind_at, type_at, itself, value_with, packed}
use Rattle.pbx_json_meaning.specs.Forms.{is_struct, is_list_value, struct_read, list_value_read, value_read, under_value, payload_read, typed_read, members_read, any_read, form_read, own_read}
use Rattle.pbx_json_meaning.specs.Stands.{is_there}
use Rattle.pbx_json_meaning.specs.declared.kind.JsonKind.{JsonKind}
use Rattle.pbx_json_meaning.specs.declared.kind.JsonKind.TheVariants as fault

-- the tree is an object with the member `value`
abbrev pub HasValue : Data → Type 0
HasValue (object ms) = is_there (get_member (codes "value") ms) ≡ true
HasValue _ = ⊥

abbrev pub IsFromType : Shape → Data → Result Own JsonKind → Type 0
IsFromType shape d (Ok (beside skips fs wrap)) = (u : ℕ) × (fs ≡ declared_of shape u)
IsFromType shape d (Ok (under skips k wrap)) = (u : ℕ) × (k ≡ kind.Message u) × HasValue d
IsFromType shape d _ = Unit {0}

module _ (shape : Shape) (allow : Bool) (t : ℕ) where
  once : (d : Data) (r : Result Content JsonKind) → IsFromType shape d (at_once r)
  once d (Ok c) = tt
  once d (Err k) = tt

  struct_from : (d : Data) (s : ℕ) (outer : Content → Content) → IsFromType shape d (struct_read shape s outer)
  struct_from d s outer = at (is_struct (form_of shape s))
    where
      at : (b : Bool) → IsFromType shape d (if b then Ok (a_map (kind_at shape s 1) (λ o. outer (holding shape s 1 o))) else Err fault.Shape)
      at true = tt
      at false = tt

  list_from : (d : Data) (s : ℕ) (outer : Content → Content) → IsFromType shape d (list_value_read shape s outer)
  list_from d s outer = at (is_list_value (form_of shape s))
    where
      at : (b : Bool) → IsFromType shape d (if b then Ok (a_list (kind_at shape s 1) (λ o. outer (holding shape s 1 o))) else Err fault.Shape)
      at true = tt
      at false = tt

  value_from : (d : Data) → IsFromType shape d (value_read shape t d)
  value_from null = tt
  value_from (boolean b) = tt
  value_from (number n) = tt
  value_from (string s) = tt
  value_from (array ds) = list_from (array ds) (type_at shape t 6) (value_with shape t 6)
  value_from (object ms) = struct_from (object ms) (type_at shape t 5) (value_with shape t 5)

  module _ (ms : Members) (url : List ℕ) where
    under_from : (u : ℕ) (o : Option Data) → get_member (codes "value") ms ≡ o → IsFromType shape (object ms) (under_value shape allow t url u o)
    under_from u None e = tt
    under_from u (Some d) e = (u, refl, ap is_there e)

    payload_from : (u : ℕ) → IsFromType shape (object ms) (payload_read shape allow t ms url u)
    payload_from u = at (stands_beside shape u)
      where
        at : (b : Bool) → IsFromType shape (object ms)
            (if b then Ok (beside allow (declared_of shape u) (packed shape t url u)) else under_value shape allow t url u (get_member (codes "value") ms))
        at true = (u, refl)
        at false = under_from u (get_member (codes "value") ms) refl

    typed_from : (o : Option ℕ) → IsFromType shape (object ms) (typed_read shape allow t ms url o)
    typed_from None = tt
    typed_from (Some u) = payload_from u

  members_from : (ms : Members) (o : Option (List ℕ)) → IsFromType shape (object ms) (members_read shape allow t ms o)
  members_from ms None = tt
  members_from ms (Some url) = typed_from ms url (type_of_url shape url)

  any_from : (d : Data) → IsFromType shape d (any_read shape allow t d)
  any_from (object ms) = members_from ms (type_url ms)
  any_from null = tt
  any_from (boolean b) = tt
  any_from (number n) = tt
  any_from (string s) = tt
  any_from (array ds) = tt

  form_from : (f : Form) (d : Data) → IsFromType shape d (form_read shape allow t f d)
  form_from forms.Timestamp d = once d _
  form_from forms.Duration d = once d _
  form_from forms.FieldMask d = once d _
  form_from forms.Wrapper d = once d _
  form_from forms.FloatWrapper d = tt
  form_from forms.Misshapen d = tt
  form_from forms.Struct d = struct_from d t itself
  form_from forms.ListValue d = list_from d t itself
  form_from forms.Value d = value_from d
  form_from forms.Any d = any_from d
  form_from _ d = tt

pub own_from : (shape : Shape) (allow : Bool) (t : ℕ) (d : Data) → IsFromType shape d (own_read shape allow t d)
own_from shape allow t d = form_from shape allow t (form_of shape t) d
