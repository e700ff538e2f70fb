-- What a type's own form reads of a tree is of the type.
use Rattle.std.proofs.Common.{◌≡◌, ℕ, ◌<◌, ℤ, pos, List, Bool, true, false, if◌then◌else◌, Option, Some, option_map, refl, ap, sym, ◌∙◌, subst, arith}
use Rattle.std.specs.Prelude.{Result, Ok, Err}
use Rattle.std.specs.Int.{w32}
use Rattle.std.specs.Int.RustNames.{FitsSigned}
use Rattle.std.specs.List.{AllByRecursion}
use Rattle.std.specs.Str.{is_utf8}
use Rattle.std.proofs.lemmas.Bool.Decides.{nat_tests}
use Rattle.serde_json.specs.Data.{Data, null, boolean, number, string, array, object}
use Rattle.pbx_content.specs.Content as content
use Rattle.pbx_content.specs.Content.{Content, Val}
use Rattle.pbx_content.specs.Encoding.{type_of}
use Rattle.pbx_content.specs.Meaning.{shown, is_default}
use Rattle.pbx_content.specs.Sound.{IsProper}
use Rattle.pbx_content.specs.declared.shape.Kind.{Kind}
use Rattle.pbx_content.specs.declared.shape.Kind.TheVariants as kind
use Rattle.pbx_content.specs.declared.shape.Shape.{Shape}
use Rattle.pbx_text.specs.Duration.{duration_read}
use Rattle.pbx_text.specs.Mask.{mask_read}
use Rattle.pbx_text.specs.Timestamp.{timestamp_read}
use Rattle.pbx_text.specs.declared.fault.TextFault.{TextFault}
use Rattle.pbx_text.proofs.MaskTexts.{mask_texts}
use Rattle.pbx_text.proofs.Ranges.{HasBits, duration_bits, timestamp_bits}
use Rattle.pbx_wkt_types.specs.Known.{Row, struct_rows, list_rows, value_rows, seconds_and_nanos}
use Rattle.pbx_wkt_types.specs.Shapes.{form_of}
use Rattle.pbx_wkt_types.specs.declared.form.Form.{Form}
use Rattle.pbx_wkt_types.specs.declared.form.Form.TheVariants as forms
use Rattle.pbx_wkt_types.proofs.Declared.{HasRow, IsOfForm, of_form}
use Rattle.pbx_json_meaning.specs.Asked.{single, list, map}
use Rattle.pbx_json_meaning.specs.Forms.{is_object_form, is_object_type, kind_in, kind_at, type_at, time_of, mask_of_paths, holding, judged, text_form, a_list, a_map}
use Rattle.pbx_json_meaning.specs.Forms.{whole, at_once, is_struct, is_list_value, struct_read, list_value_read, value_with, value_read, itself}
use Rattle.pbx_json_meaning.specs.Forms.{packed, any_read, form_read, own_read}
use Rattle.pbx_json_meaning.specs.Named.{IsWellNamed}
use Rattle.pbx_json_meaning.specs.Scalars.{scalar_read}
use Rattle.pbx_json_meaning.specs.Stands.{Says, Entry, list_as, map_as, own_as}
use Rattle.pbx_json_meaning.specs.Trees.{HasTexts}
use Rattle.pbx_json_meaning.specs.declared.kind.JsonKind.{JsonKind}
use Rattle.pbx_json_meaning.specs.declared.kind.JsonKind.TheVariants as fault
use Rattle.pbx_json_laws.proofs.EncodedBytes.{encoded_bytes}
use Rattle.pbx_json_laws.proofs.FitForms.{IsPart, held_one, held_fits, singular_part, list_part, map_part, time_fits, mask_fits, packed_fits, wrapper_fits}
use Rattle.pbx_json_laws.proofs.FitKinds.{scalar_fits}
use Rattle.pbx_json_laws.proofs.FitShown.{shown_is, no_default}
use Rattle.pbx_json_laws.proofs.Fits.{Fits, FitsAs, IsPacked, IsOwnRead, ValueHeld, a_null, a_truth, a_text, a_struct, a_values, number_held, value_held}
use Rattle.pbx_json_laws.proofs.Parts.{from_if_ok, from_map}

-- ---- texts

judged_ok : {X : Type 0} (k : JsonKind) (f : X → Content) (r : Result X TextFault) (c : Content) → judged k f r ≡ Ok c → (x : X) × (r ≡ Ok x) × (f x ≡ c)
judged_ok k f (Ok x) c h = (x, refl, cc h)
judged_ok k f (Err e) c h = absurd (cc)

-- a text of a grammar
record IsText {X : Type 0} (grammar : List ℕ → Result X TextFault) (f : X → Content) (c : Content) : Type 0 where
  text : List ℕ
  value : X
  utf8 : is_utf8 text ≡ true
  reads : grammar text ≡ Ok value
  makes : f value ≡ c

text_is : {X : Type 0} (k : JsonKind) (grammar : List ℕ → Result X TextFault) (f : X → Content) (d : Data) (c : Content) → HasTexts d
    → text_form k grammar f d ≡ Ok c → IsText grammar f c
text_is k grammar f (string s) c x h =
    let it = judged_ok k f (grammar s) c h in
    record { text = s; value = it.0; utf8 = x; reads = it.1; makes = it.2 }
text_is k grammar f null c x h = absurd (cc)
text_is k grammar f (boolean b) c x h = absurd (cc)
text_is k grammar f (number n) c x h = absurd (cc)
text_is k grammar f (array ds) c x h = absurd (cc)
text_is k grammar f (object ms) c x h = absurd (cc)

-- ---- lists and maps

-- what a tree is as a list, or as a map of texts, fits
abbrev pub ListsFit : Shape → Data → List Says → Type 0
ListsFit shape d items = (k : Kind) (v : Val) → is_default shape k v ≡ false → list_as k d items ≡ Some (Some v) → Fits shape v (list k)

abbrev pub MapsFit : Shape → Data → List Entry → Type 0
MapsFit shape d es = (k : Kind) (v : Val) → is_default shape k v ≡ false → map_as kind.String k d es ≡ Some (Some v) → Fits shape v (map kind.String k)

-- what a tree is as an `Any` holds a payload that fits
abbrev pub AnyFits : Shape → Bool → Data → List Says → List Entry → Type 0
AnyFits shape allow d items es =
    (t : ℕ) (c : Content) → own_as shape (any_read shape allow t d) d items es ≡ Some c → (it : IsPacked shape t c) × FitsAs shape it.payload it.place

struct_is : (form : Form) → is_struct form ≡ true → form ≡ forms.Struct
struct_is forms.Struct e = refl
struct_is _ e = absurd (cc)

list_is : (form : Form) → is_list_value form ≡ true → form ≡ forms.ListValue
list_is forms.ListValue e = refl
list_is _ e = absurd (cc)

of_form_as : (shape : Shape) (t : ℕ) (form : Form) (c : Content) → form_of shape t ≡ form → IsOwnRead shape t form c → IsOwnRead shape t (form_of shape t) c
of_form_as shape t form c is own = let P : Form → Type 0 = λ y. IsOwnRead shape t y c in subst P (sym is) own

-- a content that is read at once
pub from_at_once : (r : Result Content JsonKind) (c : Content) → at_once r ≡ Ok (whole c) → r ≡ Ok c
from_at_once (Ok e) c h = cc
from_at_once (Err k) c h = absurd (cc)

module _ (shape : Shape) (d : Data) (items : List Says) (es : List Entry) where
  own_whole : (r : Result Content JsonKind) (c : Content) → own_as shape (at_once r) d items es ≡ Some c → r ≡ Ok c
  own_whole (Ok e) c h = cc
  own_whole (Err k) c h = absurd (cc)

  -- a content of the type, which the content is made of
  abbrev IsFrom : ℕ → (Content → Content) → Content → Type 0
  IsFrom t outer c = (e : Content) × FitsAs shape e t × (outer e ≡ c)

  module _ (t : ℕ) where
    abbrev read_map : Option (Option Val)
    read_map = map_as kind.String (kind_at shape t 1) d es

    abbrev read_list : Option (Option Val)
    read_list = list_as (kind_at shape t 1) d items

    struct_fits : MapsFit shape d es → form_of shape t ≡ forms.Struct → (o : Option Val) → option_map (shown shape false (kind_at shape t 1)) read_map ≡ Some o
        → FitsAs shape (holding shape t 1 o) t
    struct_fits maps is o h =
        let it = of_form shape t forms.Struct is refl in
        let one : AllByRecursion (HasRow shape t) struct_rows = subst (AllByRecursion (HasRow shape t)) it.are it.has.each in
        let found = from_map (shown shape false (kind_at shape t 1)) read_map o h in
        held_fits shape t 1 o (omega arith)
        (λ v e. map_part shape t _ kind.String v one.0 one.0.of_cardinality (value found.0 v found.1 (found.2 ∙ e)))
        (of_form_as shape t forms.Struct (holding shape t 1 o) is (o, refl))
      where
        value : (r : Option Val) (v : Val) → read_map ≡ Some r → shown shape false (kind_at shape t 1) r ≡ Some v
            → Fits shape v (map kind.String (kind_at shape t 1))
        value r v reads e =
            let seen = shown_is shape false (kind_at shape t 1) r v e in
            maps (kind_at shape t 1) v (no_default shape (kind_at shape t 1) v seen.1) (reads ∙ ap (λ x. Some x) seen.0)

    list_fits : ListsFit shape d items → form_of shape t ≡ forms.ListValue → (o : Option Val)
        → option_map (shown shape false (kind_at shape t 1)) read_list ≡ Some o → FitsAs shape (holding shape t 1 o) t
    list_fits lists is o h =
        let it = of_form shape t forms.ListValue is refl in
        let one : AllByRecursion (HasRow shape t) list_rows = subst (AllByRecursion (HasRow shape t)) it.are it.has.each in
        let found = from_map (shown shape false (kind_at shape t 1)) read_list o h in
        held_fits shape t 1 o (omega arith)
        (λ v e. list_part shape t _ v one.0 one.0.of_cardinality (value found.0 v found.1 (found.2 ∙ e)))
        (of_form_as shape t forms.ListValue (holding shape t 1 o) is (o, refl))
      where
        value : (r : Option Val) (v : Val) → read_list ≡ Some r → shown shape false (kind_at shape t 1) r ≡ Some v → Fits shape v (list (kind_at shape t 1))
        value r v reads e =
            let seen = shown_is shape false (kind_at shape t 1) r v e in
            lists (kind_at shape t 1) v (no_default shape (kind_at shape t 1) v seen.1) (reads ∙ ap (λ x. Some x) seen.0)

    struct_from : MapsFit shape d es → (outer : Content → Content) (c : Content) → own_as shape (struct_read shape t outer) d items es ≡ Some c → IsFrom t outer c
    struct_from maps outer c h = at (is_struct (form_of shape t)) refl h
      where
        at : (b : Bool) → is_struct (form_of shape t) ≡ b
            → own_as shape (if b then Ok (a_map (kind_at shape t 1) (λ o. outer (holding shape t 1 o))) else Err fault.Shape) d items es ≡ Some c
            → IsFrom t outer c
        at false e k = absurd (cc)
        at true e k =
            let it = from_map (λ o. outer (holding shape t 1 o)) (option_map (shown shape false (kind_at shape t 1)) read_map) c k in
            (holding shape t 1 it.0, struct_fits maps (struct_is (form_of shape t) e) it.0 it.1, it.2)

    list_from : ListsFit shape d items → (outer : Content → Content) (c : Content) → own_as shape (list_value_read shape t outer) d items es ≡ Some c
        → IsFrom t outer c
    list_from lists outer c h = at (is_list_value (form_of shape t)) refl h
      where
        at : (b : Bool) → is_list_value (form_of shape t) ≡ b
            → own_as shape (if b then Ok (a_list (kind_at shape t 1) (λ o. outer (holding shape t 1 o))) else Err fault.Shape) d items es ≡ Some c
            → IsFrom t outer c
        at false e k = absurd (cc)
        at true e k =
            let it = from_map (λ o. outer (holding shape t 1 o)) (option_map (shown shape false (kind_at shape t 1)) read_list) c k in
            (holding shape t 1 it.0, list_fits lists (list_is (form_of shape t) e) it.0 it.1, it.2)

-- ---- a `Value`

zero_fits : FitsSigned w32 (pos 0)
zero_fits = record { sfits = grind (arith, nat_tests) }

module _ (shape : Shape) (t : ℕ) (is : form_of shape t ≡ forms.Value) where
  rows : AllByRecursion (HasRow shape t) value_rows
  rows = let it = of_form shape t forms.Value is refl in subst (AllByRecursion (HasRow shape t)) it.are it.has.each

  -- a member of the oneof holds the value
  member_fits : (x : ValueHeld) → 0 < number_held x → IsPart shape t (number_held x, value_held x)
      → FitsAs shape (holding shape t (number_held x) (Some (value_held x))) t
  member_fits x lt part =
      held_one shape t (number_held x) (value_held x) lt part
      (of_form_as shape t forms.Value (holding shape t (number_held x) (Some (value_held x))) is (x, refl))

  -- a message of the kind of the field
  field_message : (r : Row) (s : ℕ) (e : Content) → (row : HasRow shape t r) → row.field.kind ≡ kind.Message s → FitsAs shape e (type_at shape t r.number)
      → Fits shape (content.message e) (single (kind.Message s))
  field_message r s e row of_kind fits =
      let place : type_at shape t r.number ≡ s = ap type_of (ap kind_in row.there ∙ of_kind) in
      let P : ℕ → Type 0 = λ n. FitsAs shape e n in
      (s, refl, subst P place fits)

  module _ (items : List Says) (es : List Entry) where
    value_from : (d : Data) → HasTexts d → ListsFit shape d items → MapsFit shape d es → (c : Content)
        → own_as shape (value_read shape t d) d items es ≡ Some c → (e : Content) × FitsAs shape e t × (e ≡ c)
    value_from null x lists maps c h =
        let row = rows.0 in
        let v : Val = content.number (pos 0) in (
          holding shape t 1 (Some v),
          member_fits a_null (omega arith)
              (singular_part shape t _ (kind.Enum row.of_sort.0) v row row.of_cardinality row.of_sort.1 (zero_fits, λ q. refl)),
          (let same : holding shape t 1 (Some v) ≡ c = cc in same),
        )
    value_from (boolean b) x lists maps c h =
        let row = rows.1.1.1.0 in
        let v : Val = content.truth b in (
          holding shape t 4 (Some v),
          member_fits (a_truth b) (omega arith)
              (singular_part shape t _ kind.Bool v row row.of_cardinality row.of_sort refl),
          (let same : holding shape t 4 (Some v) ≡ c = cc in same),
        )
    value_from (number n) x lists maps c h = absurd (cc)
    value_from (string s) x lists maps c h =
        let row = rows.1.1.0 in
        let v : Val = content.text s in (
          holding shape t 3 (Some v),
          member_fits (a_text s) (omega arith)
              (singular_part shape t _ kind.String v row row.of_cardinality row.of_sort (refl, x)),
          (let same : holding shape t 3 (Some v) ≡ c = cc in same),
        )
    value_from (array ds) x lists maps c h =
        let row = rows.1.1.1.1.1.0 in
        let it = list_from shape (array ds) items es (type_at shape t 6) lists (value_with shape t 6) c h in
        let v : Val = content.message it.0 in (
          holding shape t 6 (Some v),
          member_fits (a_values it.0) (omega arith)
              (singular_part shape t _ (kind.Message row.of_sort.0) v row row.of_cardinality row.of_sort.1 (field_message _ row.of_sort.0 it.0 row row.of_sort.1 it.1)),
          it.2,
        )
    value_from (object ms) x lists maps c h =
        let row = rows.1.1.1.1.0 in
        let it = struct_from shape (object ms) items es (type_at shape t 5) maps (value_with shape t 5) c h in
        let v : Val = content.message it.0 in (
          holding shape t 5 (Some v),
          member_fits (a_struct it.0) (omega arith)
              (singular_part shape t _ (kind.Message row.of_sort.0) v row row.of_cardinality row.of_sort.1 (field_message _ row.of_sort.0 it.0 row row.of_sort.1 it.1)),
          it.2,
        )

-- ---- each form

-- What a tree is by the type's own form is of the type.
pub own_fits : (shape : Shape) → IsProper shape → IsWellNamed shape → (allow : Bool) (t : ℕ) (d : Data) (items : List Says) (es : List Entry) (c : Content)
    → HasTexts d → ListsFit shape d items → MapsFit shape d es → AnyFits shape allow d items es → is_object_type shape t ≡ false
    → own_as shape (own_read shape allow t d) d items es ≡ Some c → FitsAs shape c t
own_fits shape proper well allow t d items es c x lists maps any apart h = at (form_of shape t) refl apart h
  where
    own_is : (form : Form) (e : Content) → form_of shape t ≡ form → IsOwnRead shape t form c → e ≡ c → IsOwnRead shape t (form_of shape t) e
    own_is form e is own same =
        let Q : Content → Type 0 = λ y. IsOwnRead shape t (form_of shape t) y in
        subst Q (sym same) (of_form_as shape t form c is own)

    to_content : (e : Content) → e ≡ c → FitsAs shape e t → FitsAs shape c t
    to_content e same fits = let P : Content → Type 0 = λ y. FitsAs shape y t in subst P same fits

    time : (form : Form) → form_of shape t ≡ form → IsOwnRead shape t form c → (it : IsOfForm shape t form) → it.rows ≡ seconds_and_nanos
        → (sn : ℤ × ℤ) → HasBits sn → time_of shape t sn ≡ c → FitsAs shape c t
    time form is own it are sn bits same =
        to_content (time_of shape t sn) same
        (time_fits shape t proper it.rows are it.has.each sn bits (own_is form (time_of shape t sn) is own same))

    at : (form : Form) → form_of shape t ≡ form → is_object_form form ≡ false → own_as shape (form_read shape allow t form d) d items es ≡ Some c
        → FitsAs shape c t
    at forms.Timestamp is o h =
        let it = of_form shape t forms.Timestamp is refl in
        let reads = own_whole shape d items es (text_form fault.Timestamp timestamp_read (time_of shape t) d) c h in
        let text = text_is fault.Timestamp timestamp_read (time_of shape t) d c x reads in
        time forms.Timestamp is (allow, d, x, ap at_once reads) it it.are text.value (timestamp_bits text.text text.value text.reads) text.makes
    at forms.Duration is o h =
        let it = of_form shape t forms.Duration is refl in
        let reads = own_whole shape d items es (text_form fault.Duration duration_read (time_of shape t) d) c h in
        let text = text_is fault.Duration duration_read (time_of shape t) d c x reads in
        time forms.Duration is (allow, d, x, ap at_once reads) it it.are text.value (duration_bits text.text text.value text.reads) text.makes
    at forms.FieldMask is o h =
        let it = of_form shape t forms.FieldMask is refl in
        let reads = own_whole shape d items es (text_form fault.Mask mask_read (mask_of_paths shape t) d) c h in
        let text = text_is fault.Mask mask_read (mask_of_paths shape t) d c x reads in
        to_content (mask_of_paths shape t text.value) text.makes
        (mask_fits shape t it.rows it.are it.has.each text.value (mask_texts text.text text.value text.utf8 text.reads)
        (own_is forms.FieldMask (mask_of_paths shape t text.value) is (allow, d, x, ap at_once reads) text.makes))
    at forms.Wrapper is o h =
        let it = of_form shape t forms.Wrapper is refl in
        let reads = own_whole shape d items es _ c h in
        let value = from_if_ok (scalar_read shape allow (kind_at shape t 1) d) (λ v. Ok (holding shape t 1 v)) c reads in
        let same : holding shape t 1 value.0 ≡ c = (let e : Ok (holding shape t 1 value.0) ≡ Ok c = value.2 in cc) in
        to_content (holding shape t 1 value.0) same
        (wrapper_fits shape t it.are.0 it.rows it.are.2 it.has.each value.0
        (λ v e. scalar_fits shape well allow (kind_at shape t 1) d v x (value.1 ∙ ap (λ y. Ok y) e))
        (own_is forms.Wrapper (holding shape t 1 value.0) is (allow, d, x, ap at_once reads) same))
    at forms.Struct is o h = let it = struct_from shape d items es t maps itself c h in to_content it.0 it.2 it.1
    at forms.ListValue is o h = let it = list_from shape d items es t lists itself c h in to_content it.0 it.2 it.1
    at forms.Value is o h = let it = value_from shape t is items es d x lists maps c h in to_content it.0 it.2 it.1
    at forms.Fields is o h = absurd (cc)
    at forms.Empty is o h = absurd (cc)
    at forms.FloatWrapper is o h = absurd (cc)
    at forms.Misshapen is o h = absurd (cc)
    at forms.Any is o h =
        let it = of_form shape t forms.Any is refl in
        let got = any t c h in
        let e = packed shape t got.0.url got.0.place got.0.payload in
        to_content e got.0.packs
        (packed_fits shape t proper it.rows it.are it.has.each got.0.url got.0.place got.0.payload got.0.utf8
        (encoded_bytes shape got.0.payload got.0.place got.1) (own_is forms.Any e is got.0 got.0.packs))
