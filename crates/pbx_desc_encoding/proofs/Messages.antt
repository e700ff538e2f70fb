-- The content of a message, one level down.
use Rattle.std.proofs.Common.{◌≡◌, ℕ, List, [], ◌∷◌, map, subst, refl, sym, ap, ◌∙◌}
use Rattle.pbx_content_codec.specs.declared.contents.Held.{Held}
use Rattle.pbx_content.specs.declared.shape.Cardinality.TheVariants.{Repeated}
use Rattle.pbx_content.specs.declared.shape.Kind.{Kind}
use Rattle.pbx_content.specs.declared.shape.Kind.TheVariants as kind
use Rattle.pbx_content.specs.Content.{Content, Val, message}
use Rattle.pbx_content_codec.specs.View.{val_of}
use Rattle.pbx_desc_shapes.specs.DescriptorShape.{descriptor_shape, message_fields}
use Rattle.pbx_desc_records.specs.declared.message.DescriptorProto.{DescriptorProto, out-DescriptorProto, fold_out-DescriptorProto}
use Rattle.pbx_desc_records.specs.declared.message.DescriptorProto.TheOpen.{DescriptorProto-F}
use Rattle.pbx_desc_encoding.specs.Building.{Puts, Writes}
use Rattle.pbx_desc_encoding.specs.Content.{listed, of_records, record_content, message_values, message_step, message_content}
use Rattle.pbx_desc_encoding.specs.Sound.{AreOf}
use Rattle.pbx_desc_encoding.proofs.Built.{puts_some}

-- one layer of a message, with these in the places of its nested messages
abbrev pub layer_with : {A B : Type 0} → List B → DescriptorProto-F A → DescriptorProto-F B
layer_with nested o = record {
  name = o.name;
  field = o.field;
  nested_type = nested;
  enum_type = o.enum_type;
  extension_range = o.extension_range;
  extension = o.extension;
  options = o.options;
  oneof_decl = o.oneof_decl;
  reserved_range = o.reserved_range;
  reserved_name = o.reserved_name;
  unknown = o.unknown;
}

-- the message with the contents of its nested messages in their places
abbrev pub opened : DescriptorProto → DescriptorProto-F Content
opened m = layer_with (map message_content (out-DescriptorProto m).nested_type) (out-DescriptorProto m)

pub message_content_at : (m : DescriptorProto) → message_content m ≡ record_content message_fields (message_values (opened m)) (out-DescriptorProto m).unknown
message_content_at m = fold_out-DescriptorProto Content message_step m

pub nested_map : (ms : List DescriptorProto) → map message (map message_content ms) ≡ map (λ (m : DescriptorProto). message (message_content m)) ms
nested_map [] = refl
nested_map (m ∷ ms) = ap (λ (vs : List Val). message (message_content m) ∷ vs) (nested_map ms)

-- the nested messages are put in as the value of their field
pub nested_put : (n : ℕ) (ms : List DescriptorProto) (hs : List Held) (old new : List (ℕ × Held)) → map val_of hs ≡ map (λ (m : DescriptorProto). message (message_content m)) ms
    → AreOf descriptor_shape (kind.Message 2) (map (λ (m : DescriptorProto). message (message_content m)) ms) → ((j : Kind) → AreOf descriptor_shape j (map val_of hs) → Puts Repeated j n (listed (map val_of hs)) old new)
    → Puts Repeated (kind.Message 2) n (listed (map message (map message_content ms))) old new
nested_put n ms hs old new e all h = puts_some (kind.Message 2) n hs (map message (map message_content ms)) old new (e ∙ sym (nested_map ms)) (subst (AreOf descriptor_shape (kind.Message 2)) (sym (nested_map ms)) all) h

-- the nested messages are written as the value of their field
pub nested_written : (n : ℕ) (ms : List DescriptorProto) (old new : List ℕ) → Writes Repeated (kind.Message 2) n (of_records message_content ms) old new
    → Writes Repeated (kind.Message 2) n (listed (map message (map message_content ms))) old new
nested_written n ms old new h = subst (λ (vs : List Val). Writes Repeated (kind.Message 2) n (listed vs) old new) (sym (nested_map ms)) h
