-- Linked and settled records, made from their parts.
use Rattle.std.proofs.Common.{◌≡◌, ◌∙◌, ℕ, ◌+◌, ◌<◌, List, [], ◌∷◌, ◌++◌, length, take, get_or, map, ap, sym}
use Rattle.std.proofs.lemmas.List.{take_more, map-append}
use Rattle.pbx_desc_records.specs.declared.field.FieldDescriptorProto.{FieldDescriptorProto}
use Rattle.pbx_desc_records.specs.declared.file.FileDescriptorProto.{FileDescriptorProto}
use Rattle.pbx_desc_records.specs.declared.message.DescriptorProto.{DescriptorProto, out-DescriptorProto, roll-DescriptorProto, roll-out-DescriptorProto}
use Rattle.pbx_desc_records.specs.declared.service.MethodDescriptorProto.{MethodDescriptorProto}
use Rattle.pbx_link_definitions.specs.Names.{text_or_empty, qualified}
use Rattle.pbx_link_record.specs.Settled.{settled_field, settled_method, settled_message}
use Rattle.pbx_link_record.specs.Linked.{linked_extension, linked_field, linked_method, linked_message}
use Rattle.pbx_link_record.specs.Parts.{own_parts}
use Rattle.pbx_link_record.specs.declared.messages.OwnParts.{OwnParts}
use Rattle.pbx_link_record.proofs.Layers.{linked_open, linked_out, settled_open, settled_out}

-- ---- settled first and then linked

pub field_settled : (seen : List FileDescriptorProto) (scope : List ℕ) (x settled made : FieldDescriptorProto) → settled ≡ settled_field x → made ≡ linked_field seen scope settled
    → made ≡ settled_field (linked_field seen scope x)
field_settled seen scope x settled made e f = f ∙ ap (linked_field seen scope) e

pub extension_settled : (seen : List FileDescriptorProto) (scope : List ℕ) (x settled made : FieldDescriptorProto) → settled ≡ settled_field x → made ≡ linked_extension seen scope settled
    → made ≡ settled_field (linked_extension seen scope x)
extension_settled seen scope x settled made e f = f ∙ ap (linked_extension seen scope) e

pub method_settled : (seen : List FileDescriptorProto) (scope : List ℕ) (x settled made : MethodDescriptorProto) → settled ≡ settled_method x → made ≡ linked_method seen scope settled
    → made ≡ settled_method (linked_method seen scope x)
method_settled seen scope x settled made e f = f ∙ ap (linked_method seen scope) e

-- ---- lists

-- one more
pub linked_more : {X : Type 0} (g h : X → X) (xs : List X) (i : ℕ) (x made : X) (now after : List X) → i < length xs → x ≡ get_or xs i x
    → now ≡ map h (map g (take i xs)) → made ≡ h (g x) → after ≡ now ++ made ∷ [] → after ≡ map h (map g (take (i + 1) xs))
linked_more {X} g h xs i x made now after lt is so_far here added =
    let more : map h (map g (take (i + 1) xs)) ≡ map h (map g (take i xs)) ++ h (g x) ∷ [] =
    ap (λ (ys : List X). map h (map g ys)) (take_more xs i x lt ∙ ap (λ y. take i xs ++ y ∷ []) (sym is)) ∙ ap (map h) (map-append g (take i xs) (x ∷ [])) ∙ map-append h (map g (take i xs)) (g x ∷ []) in
    added ∙ ap (λ (ys : List X). ys ++ made ∷ []) so_far ∙ ap (λ (y : X). map h (map g (take i xs)) ++ y ∷ []) here ∙ sym more

-- ---- messages

-- a message of its own parts and of the messages in it
abbrev pub made : OwnParts → List DescriptorProto → DescriptorProto
made p nested = roll-DescriptorProto (record { nested_type = nested; name = p.name; field = p.field; enum_type = p.enum_type; extension_range = p.extension_range; extension = p.extension; options = p.options; oneof_decl = p.oneof_decl; reserved_range = p.reserved_range; reserved_name = p.reserved_name; unknown = p.unknown })

linked_rolled : (seen : List FileDescriptorProto) (scope : List ℕ) (m : DescriptorProto)
    → settled_message (linked_message seen scope m) ≡ roll-DescriptorProto (settled_open (linked_open seen scope (out-DescriptorProto m)))
linked_rolled seen scope m =
    sym (roll-out-DescriptorProto (settled_message (linked_message seen scope m))) ∙ ap roll-DescriptorProto (settled_out (linked_message seen scope m) ∙ ap settled_open (linked_out seen scope m))

-- a message that is made of linked and settled parts
pub linked_made : (seen : List FileDescriptorProto) (scope : List ℕ) (m : DescriptorProto) (name : List ℕ) (own : OwnParts) (nested : List DescriptorProto)
    → name ≡ qualified scope (text_or_empty (out-DescriptorProto m).name) → own ≡ own_parts seen name m
    → nested ≡ map settled_message (map (linked_message seen name) (out-DescriptorProto m).nested_type) → made own nested ≡ settled_message (linked_message seen scope m)
linked_made seen scope m name own nested is_name is_own is_nested =
    let nested_in : List ℕ → List DescriptorProto = λ n. map settled_message (map (linked_message seen n) (out-DescriptorProto m).nested_type) in
    ap (λ (p : OwnParts). made p nested) is_own
    ∙ ap (λ (ns : List DescriptorProto). made (own_parts seen name m) ns) is_nested
    ∙ ap (λ (n : List ℕ). made (own_parts seen n m) (nested_in n)) is_name
    ∙ sym (linked_rolled seen scope m)
