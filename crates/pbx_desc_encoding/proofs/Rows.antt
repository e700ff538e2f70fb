-- The definitions on one example, whose bytes are written by hand after Protocol Buffers "Encoding".
use Rattle.std.proofs.Common.{◌≡◌, ℕ, ◌+◌, ◌*◌, List, [], ◌∷◌, ◌++◌, length, Some, None, refl, rules}
use Rattle.std.specs.Prelude.{pos, codes}
use Rattle.pbx_wire.specs.Varint.{varint, varint_within}
use Rattle.pbx_wire.specs.Text.{text, is_record_number, is_numbered}
use Rattle.pbx_wire.specs.declared.rec.Rec.{the_lemmas as rec_lemmas}
use Rattle.pbx_wire.specs.declared.rec.Rec.TheVariants as rec
use Rattle.pbx_content.specs.Encoding.{encoded}
use Rattle.pbx_desc_records.specs.declared.field.FieldDescriptorProto.{FieldDescriptorProto}
use Rattle.pbx_desc_records.specs.declared.message.DescriptorProto.{DescriptorProto, roll-DescriptorProto, fold-roll-DescriptorProto}
use Rattle.pbx_desc_records.specs.declared.message.DescriptorProto.TheOpen.{DescriptorProto-F}
use Rattle.pbx_desc_records.specs.declared.file.FileDescriptorProto.{FileDescriptorProto}
use Rattle.pbx_desc_shapes.specs.DescriptorShape.{descriptor_shape}
use Rattle.pbx_content.specs.Content.{Content}
use Rattle.pbx_desc_encoding.specs.Content.{message_step, message_content, file_content}
use Rattle.pbx_desc_encoding.proofs.Messages.{layer_with}

varint_text : (n v : ℕ) → text (rec.Varint n v) ≡ varint (n * 8) ++ varint v
varint_text n v = search (rules, rec_lemmas)

varint_numbered : (n v : ℕ) → is_numbered (rec.Varint n v) ≡ is_record_number n
varint_numbered n v = search (rules, rec_lemmas)

bytes_text : (n : ℕ) (b : List ℕ) → text (rec.Bytes n b) ≡ varint (n * 8 + 2) ++ varint (length b) ++ b
bytes_text n b = search (rules, rec_lemmas)

-- int32 x = 1
abbrev x_field : FieldDescriptorProto
x_field = record {
  name = Some (codes "x");
  extendee = None;
  number = Some (pos 1);
  label = Some (pos 1);
  kind = Some (pos 5);
  type_name = None;
  default_value = None;
  options = None;
  oneof_index = None;
  json_name = Some (codes "x");
  proto3_optional = None;
  unknown = [];
}

abbrev m_layer : DescriptorProto-F DescriptorProto
m_layer = record {
  name = Some (codes "M");
  field = x_field ∷ [];
  nested_type = [];
  enum_type = [];
  extension_range = [];
  extension = [];
  options = None;
  oneof_decl = [];
  reserved_range = [];
  reserved_name = [];
  unknown = rec.Varint 2 1 ∷ [];
}

abbrev m_message : DescriptorProto
m_message = roll-DescriptorProto m_layer

m_content : message_content m_message ≡ message_step (layer_with [] m_layer)
m_content = fold-roll-DescriptorProto Content message_step m_layer

abbrev foo_file : FileDescriptorProto
foo_file = record {
  name = Some (codes "foo");
  «package» = None;
  dependency = codes "a" ∷ [];
  message_type = m_message ∷ [];
  enum_type = [];
  service = [];
  extension = [];
  options = None;
  source_code_info = None;
  public_dependency = [];
  weak_dependency = [];
  syntax = Some (codes "proto3");
  unknown = rec.Varint 99 1 ∷ rec.Varint 0 7 ∷ [];
}

foo_bytes : encoded descriptor_shape 1 (file_content foo_file)
    ≡ 10 ∷ 3 ∷ 102 ∷ 111 ∷ 111 ∷ 26 ∷ 1 ∷ 97 ∷ 34 ∷ 17 ∷ 10 ∷ 1 ∷ 77 ∷ 18 ∷ 12 ∷ 10 ∷ 1 ∷ 120 ∷ 24 ∷ 1 ∷ 32 ∷ 1 ∷ 40 ∷ 5 ∷ 82 ∷ 1 ∷ 120
    ∷ 98 ∷ 6 ∷ 112 ∷ 114 ∷ 111 ∷ 116 ∷ 111 ∷ 51 ∷ 152 ∷ 6 ∷ 1 ∷ []
unfolding descriptor_shape varint_within
foo_bytes = simp (m_content, varint_numbered, varint_text, bytes_text) refl
