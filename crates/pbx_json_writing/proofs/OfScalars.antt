-- Values of one part, and the kinds that they are of.
use Rattle.std.proofs.Common.{◌≡◌, ℕ, zero, suc, ℤ, List, [], ◌∷◌, Bool, true, false, Option, Some, None, refl, sym, ap, ◌∙◌}
use Rattle.std.specs.Prelude.{slice_get}
use Rattle.std.specs.Option.{option_map_or}
use Rattle.pbx_content.specs.Content as content
use Rattle.pbx_content.specs.Content.{Val}
use Rattle.pbx_content.specs.Shape.{enum_values_at, declared_at}
use Rattle.pbx_content.specs.declared.shape.Kind.{Kind}
use Rattle.pbx_content.specs.declared.shape.Kind.TheVariants as kind
use Rattle.pbx_content.specs.declared.shape.Shape.{Shape}
use Rattle.pbx_content.specs.declared.shape.EnumShape.{EnumShape}
use Rattle.pbx_content.specs.declared.shape.MessageShape.{MessageShape}
use Rattle.pbx_json_meaning.specs.Scalars.{family}
use Rattle.pbx_json_meaning.specs.Canonical.{number_tree, integer_tree, truth_by, text_by, bytes_by}
use Rattle.pbx_json_meaning.specs.declared.kind.JsonKind.TheVariants as fault
use Rattle.pbx_json_meaning.specs.Canonical.{Writing}
use Rattle.pbx_json_writing.specs.Kinds.{is_integer}
use Rattle.pbx_json_writing.proofs.Refusing.{Stops}

-- ---- types by their places

values_in : (es : List EnumShape) (e : ℕ) → enum_values_at es e ≡ option_map_or (λ (x : EnumShape). x.values) (slice_get es e) []
values_in [] e = refl
values_in (x ∷ es) zero = refl
values_in (x ∷ es) (suc e) = values_in es e

fields_in : (ms : List MessageShape) (t : ℕ) → declared_at ms t ≡ option_map_or (λ (x : MessageShape). x.fields) (slice_get ms t) []
fields_in [] t = refl
fields_in (x ∷ ms) zero = refl
fields_in (x ∷ ms) (suc t) = fields_in ms t

-- the parts of a type that a look-up answers, or of none
pub values_of : (es : List EnumShape) (e : ℕ) (o : Option EnumShape) → o ≡ slice_get es e → enum_values_at es e ≡ option_map_or (λ (x : EnumShape). x.values) o []
values_of es e o h = values_in es e ∙ ap (λ (p : Option EnumShape). option_map_or (λ (x : EnumShape). x.values) p []) (sym h)

pub fields_of : (ms : List MessageShape) (t : ℕ) (o : Option MessageShape) → o ≡ slice_get ms t
    → declared_at ms t ≡ option_map_or (λ (x : MessageShape). x.fields) o []
fields_of ms t o h = fields_in ms t ∙ ap (λ (p : Option MessageShape). option_map_or (λ (x : MessageShape). x.fields) p []) (sym h)

-- ---- numbers

module _ (shape : Shape) (o : Writing) where
  pub integer_told : (k : Kind) (z : ℤ) → is_integer k ≡ true → number_tree shape o k z ≡ Some (integer_tree o k z)
  integer_told kind.Int32 z h = refl
  integer_told kind.Int64 z h = refl
  integer_told kind.Uint32 z h = refl
  integer_told kind.Uint64 z h = refl
  integer_told kind.Sint32 z h = refl
  integer_told kind.Sint64 z h = refl
  integer_told kind.Fixed32 z h = refl
  integer_told kind.Fixed64 z h = refl
  integer_told kind.Sfixed32 z h = refl
  integer_told kind.Sfixed64 z h = refl
  integer_told kind.Double z h = absurd (cc)
  integer_told kind.Float z h = absurd (cc)
  integer_told kind.Bool z h = absurd (cc)
  integer_told kind.String z h = absurd (cc)
  integer_told kind.Bytes z h = absurd (cc)
  integer_told (kind.Message t) z h = absurd (cc)
  integer_told (kind.Enum e) z h = absurd (cc)

  pub number_stops : (k : Kind) (z : ℤ) → is_integer k ≡ false → ((e : ℕ) → k ≡ kind.Enum e → ⊥) → Stops shape o (content.number z) k fault.WrongKind []
  number_stops kind.Int32 z h other = absurd (cc)
  number_stops kind.Int64 z h other = absurd (cc)
  number_stops kind.Uint32 z h other = absurd (cc)
  number_stops kind.Uint64 z h other = absurd (cc)
  number_stops kind.Sint32 z h other = absurd (cc)
  number_stops kind.Sint64 z h other = absurd (cc)
  number_stops kind.Fixed32 z h other = absurd (cc)
  number_stops kind.Fixed64 z h other = absurd (cc)
  number_stops kind.Sfixed32 z h other = absurd (cc)
  number_stops kind.Sfixed64 z h other = absurd (cc)
  number_stops kind.Double z h other = (refl, λ is. absurd is)
  number_stops kind.Float z h other = (refl, λ is. absurd is)
  number_stops kind.Bool z h other = (refl, λ is. absurd is)
  number_stops kind.String z h other = (refl, λ is. absurd is)
  number_stops kind.Bytes z h other = (refl, λ is. absurd is)
  number_stops (kind.Message t) z h other = (refl, λ is. absurd is)
  number_stops (kind.Enum e) z h other = absurd (other e refl)

  -- ---- truth values, texts and bytes

  pub truth_stops : (k : Kind) (b : Bool) → (k ≡ kind.Bool → ⊥) → Stops shape o (content.truth b) k fault.WrongKind []
  truth_stops k b other = (none k other, λ is. absurd (other is))
    where
      none : (k : Kind) → (k ≡ kind.Bool → ⊥) → truth_by (family k) b ≡ None
      none kind.Bool other = absurd (other refl)
      none kind.Int32 other = refl
      none kind.Int64 other = refl
      none kind.Uint32 other = refl
      none kind.Uint64 other = refl
      none kind.Sint32 other = refl
      none kind.Sint64 other = refl
      none kind.Fixed32 other = refl
      none kind.Fixed64 other = refl
      none kind.Sfixed32 other = refl
      none kind.Sfixed64 other = refl
      none kind.Double other = refl
      none kind.Float other = refl
      none kind.String other = refl
      none kind.Bytes other = refl
      none (kind.Message t) other = refl
      none (kind.Enum e) other = refl

  pub text_stops : (k : Kind) (s : List ℕ) → (k ≡ kind.String → ⊥) → Stops shape o (content.text s) k fault.WrongKind []
  text_stops k s other = (none k other, λ is. absurd (other is))
    where
      none : (k : Kind) → (k ≡ kind.String → ⊥) → text_by (family k) s ≡ None
      none kind.String other = absurd (other refl)
      none kind.Bool other = refl
      none kind.Int32 other = refl
      none kind.Int64 other = refl
      none kind.Uint32 other = refl
      none kind.Uint64 other = refl
      none kind.Sint32 other = refl
      none kind.Sint64 other = refl
      none kind.Fixed32 other = refl
      none kind.Fixed64 other = refl
      none kind.Sfixed32 other = refl
      none kind.Sfixed64 other = refl
      none kind.Double other = refl
      none kind.Float other = refl
      none kind.Bytes other = refl
      none (kind.Message t) other = refl
      none (kind.Enum e) other = refl

  pub bytes_stops : (k : Kind) (s : List ℕ) → (k ≡ kind.Bytes → ⊥) → Stops shape o (content.octets s) k fault.WrongKind []
  bytes_stops k s other = (none k other, λ is. absurd (other is))
    where
      none : (k : Kind) → (k ≡ kind.Bytes → ⊥) → bytes_by (family k) s ≡ None
      none kind.Bytes other = absurd (other refl)
      none kind.Bool other = refl
      none kind.String other = refl
      none kind.Int32 other = refl
      none kind.Int64 other = refl
      none kind.Uint32 other = refl
      none kind.Uint64 other = refl
      none kind.Sint32 other = refl
      none kind.Sint64 other = refl
      none kind.Fixed32 other = refl
      none kind.Fixed64 other = refl
      none kind.Sfixed32 other = refl
      none kind.Sfixed64 other = refl
      none kind.Double other = refl
      none kind.Float other = refl
      none (kind.Message t) other = refl
      none (kind.Enum e) other = refl
