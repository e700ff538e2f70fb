-- A dynamic message: its type, as a message of a pool, and what it holds.
use Rattle.std.specs.Prelude.{ℕ, List, refl}
use Rattle.std.specs.Coded.{Coded, code_by, coded×}
use Rattle.pbx_content.specs.declared.shape.FieldShape.{FieldShape}
use Rattle.pbx_content.specs.declared.shape.Shape.{Shape}
use Rattle.pbx_content.specs.Content.{Content}
use Rattle.pbx_content_codec.specs.Code.{content_code}
use Rattle.pbx_content.specs.Encoding.{encoded}
use Rattle.pbx_content.specs.Shape.{fields_of, declared_of}
use Rattle.pbx_desc_records.specs.declared.message.DescriptorProto.{DescriptorProto}
use Rattle.pbx_desc_records.specs.contracts.message.DescriptorProto as message_proto
use Rattle.pbx_link_meaning.specs.Descriptors.{Described, described_code}
use Rattle.pbx_link_meaning.specs.Shapes.{shape_of, place_of}

-- a message's type and what it holds
pub record Dynamic : Type 0 where
  pub of : Described DescriptorProto
  pub content : Content

abbrev pub dynamic : Described DescriptorProto → Content → Dynamic
dynamic d c = record { of = d; content = c }

abbrev pub with_content : Dynamic → Content → Dynamic
with_content m c = dynamic m.of c

-- the shape of the types of the message's pool
abbrev pub shape_in : Dynamic → Shape
shape_in m = shape_of m.of.pool

-- the place of the message's type in that shape
abbrev pub place_in : Dynamic → ℕ
place_in m = place_of m.of

-- the fields and extensions of a message type
abbrev pub type_fields : Described DescriptorProto → List FieldShape
type_fields d = fields_of (shape_of d.pool) (place_of d)

-- the same in declared order
abbrev pub type_declared : Described DescriptorProto → List FieldShape
type_declared d = declared_of (shape_of d.pool) (place_of d)

-- the canonical encoding of the message
abbrev pub text_in : Dynamic → List ℕ
text_in m = encoded (shape_in m) (place_in m) m.content

-- a message as the pair of its parts: what a model's `Value` asks of its type
abbrev pub dynamic_code : Coded Dynamic
dynamic_code =
    code_by (Described DescriptorProto × Content) (coded× (described_code message_proto.the_row.coded) content_code)
    (λ m. (m.of, m.content)) (λ p. record { of = p.0; content = p.1 }) (λ _. refl)
