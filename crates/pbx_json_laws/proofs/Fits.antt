-- What is known of a value that was read from a tree, by what was asked of the tree.
use Rattle.std.proofs.Common.{◌≡◌, ℕ, ℤ, pos, Bool, true, false, List, [], Option, Some, None}
use Rattle.std.specs.Prelude.{Ok}
use Rattle.std.specs.Str.{is_utf8}
use Rattle.serde_json.specs.Data.{Data}
use Rattle.base64.specs.GeneralPurpose.{IsBytes}
use Rattle.pbx_content.specs.Content as content
use Rattle.pbx_content.specs.Content.{Content, Fields, Val, Vals, Pairs, Key, IsAscending}
use Rattle.pbx_content.specs.Meaning.{shown, is_default}
use Rattle.pbx_content.specs.Shape.{declared_of, field_of}
use Rattle.pbx_content.specs.Sound.{IsNumber, IsKeyOf, IsBefore, has_one_member}
use Rattle.pbx_content.specs.declared.shape.Kind.{Kind}
use Rattle.pbx_content.specs.declared.shape.Kind.TheVariants as kind
use Rattle.pbx_content.specs.declared.shape.FieldShape.{FieldShape}
use Rattle.pbx_content.specs.declared.shape.Shape.{Shape}
use Rattle.pbx_wkt_types.specs.Shapes.{form_of}
use Rattle.pbx_wkt_types.specs.declared.form.Form.{Form}
use Rattle.pbx_wkt_types.specs.declared.form.Form.TheVariants as forms
use Rattle.pbx_json_meaning.specs.Scalars.{is_null_value}
use Rattle.pbx_json_meaning.specs.Asked.{Asked, field, one, Target, nothing, single, list, map, target_by, has_presence}
use Rattle.pbx_json_meaning.specs.Forms.{form_read, whole, holding, packed}
use Rattle.pbx_json_meaning.specs.Stands.{Stands}
use Rattle.pbx_json_meaning.specs.Trees.{HasTexts}
use Rattle.pbx_json_meaning.specs.Urls.{type_of_url}

-- `NullValue` has one value
abbrev pub IsNull : Shape → Kind → ℤ → Type 0
IsNull shape (kind.Enum e) z = is_null_value shape e ≡ true → z ≡ pos 0
IsNull shape _ z = Unit {0}

-- a value of a field, which is not hidden as a default
abbrev pub FitsOption : Shape → Val → (Target → Type 0) → Option FieldShape → Type 0
FitsOption shape v P None = ⊥
FitsOption shape v P (Some f) = P (target_by f f.cardinality) × (shown shape (has_presence f) f.kind (Some v) ≡ Some v)

-- what a `Value` holds that was read: nothing is read as a number
pub data ValueHeld : Type 0 where
  a_null : ValueHeld
  a_truth : Bool → ValueHeld
  a_text : List ℕ → ValueHeld
  a_struct : Content → ValueHeld
  a_values : Content → ValueHeld

-- the number of its field, and its value
abbrev pub number_held : ValueHeld → ℕ
number_held a_null = 1
number_held (a_truth b) = 4
number_held (a_text s) = 3
number_held (a_struct c) = 5
number_held (a_values c) = 6

abbrev pub value_held : ValueHeld → Val
value_held a_null = content.number (pos 0)
value_held (a_truth b) = content.truth b
value_held (a_text s) = content.text s
value_held (a_struct c) = content.message c
value_held (a_values c) = content.message c

-- what an `Any` holds that was read: a URL that names a type, and the encoding of a payload of the type, which stands for a tree
pub record IsPacked (shape : Shape) (t : ℕ) (c : Content) : Type 0 where
  pub url : List ℕ
  pub place : ℕ
  pub payload : Content
  pub allow : Bool
  pub tree : Data
  pub utf8 : is_utf8 url ≡ true
  pub named : type_of_url shape url ≡ Some place
  pub texts : HasTexts tree
  pub stands : Stands shape place allow tree payload
  pub packs : packed shape t url place payload ≡ c

-- What is known of a content that was read by the type's own form: the tree that says it, or the one field that holds its value, or the payload. Of an
-- object of fields nothing more.
abbrev pub IsOwnRead : Shape → ℕ → Form → Content → Type 0
IsOwnRead shape t forms.Fields c = Unit {0}
IsOwnRead shape t forms.Empty c = Unit {0}
IsOwnRead shape t forms.Struct c = (o : Option Val) × (holding shape t 1 o ≡ c)
IsOwnRead shape t forms.ListValue c = (o : Option Val) × (holding shape t 1 o ≡ c)
IsOwnRead shape t forms.Any c = IsPacked shape t c
IsOwnRead shape t forms.Value c = (x : ValueHeld) × (holding shape t (number_held x) (Some (value_held x)) ≡ c)
IsOwnRead shape t form c = (allow : Bool) × (d : Data) × HasTexts d × (form_read shape allow t form d ≡ Ok (whole c))

abbrev mutual
  -- a value that is read
  pub Fits : Shape → Val → Target → Type 0
  Fits shape (content.number z) (single k) = IsNumber k z × IsNull shape k z
  Fits shape (content.truth b) (single k) = k ≡ kind.Bool
  Fits shape (content.text s) (single k) = (k ≡ kind.String) × (is_utf8 s ≡ true)
  Fits shape (content.octets b) (single k) = (k ≡ kind.Bytes) × IsBytes b
  Fits shape (content.message c) (single k) = (t : ℕ) × (k ≡ kind.Message t) × FitsAs shape c t
  Fits shape (content.many vs) (list k) = (is_default shape k (content.many vs) ≡ false) × AllFit shape vs k
  Fits shape (content.keyed ps) (map kk vk) = (is_default shape vk (content.keyed ps) ≡ false) × PairsFit shape ps kk vk
  Fits shape _ _ = ⊥

  -- a message that is read
  pub FitsAs : Shape → Content → ℕ → Type 0
  FitsAs shape (content.content fs kept) t =
      (kept ≡ []) × IsOwnRead shape t (form_of shape t) (content.content fs kept) × IsAscending fs × (has_one_member (declared_of shape t) fs ≡ true)
      × FieldsFit shape fs (declared_of shape t)

  -- each value is that of the field of its number
  pub FieldsFit : Shape → Fields → List FieldShape → Type 0
  FieldsFit shape content.no_fields gs = Unit {0}
  FieldsFit shape (content.field n v fs) gs = FitsOption shape v (Fits shape v) (field_of n gs) × FieldsFit shape fs gs

  -- each element is
  pub AllFit : Shape → Vals → Kind → Type 0
  AllFit shape content.no_vals k = Unit {0}
  AllFit shape (content.val v vs) k = Fits shape v (single k) × AllFit shape vs k

  -- each entry is, and the keys ascend
  pub PairsFit : Shape → Pairs → Kind → Kind → Type 0
  PairsFit shape content.no_pairs kk vk = Unit {0}
  PairsFit shape (content.pair l v ps) kk vk = IsKeyOf kk l × Fits shape v (single vk) × IsBefore l ps × PairsFit shape ps kk vk

-- what is asked is answered
abbrev pub Answers : Shape → Asked → Val → Type 0
Answers shape (field f) v = FitsOption shape v (Fits shape v) (Some f)
Answers shape (one k) v = Fits shape v (single k)

-- a list or a map is not empty where one is asked for
abbrev pub IsFilled : Shape → Val → Target → Type 0
IsFilled shape v nothing = Unit {0}
IsFilled shape v (single k) = Unit {0}
IsFilled shape v (list k) = is_default shape k v ≡ false
IsFilled shape v (map kk vk) = is_default shape vk v ≡ false
