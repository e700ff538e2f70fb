-- One layer of a linked and of a settled message.
use Rattle.std.proofs.Common.{◌≡◌, ◌∙◌, ℕ, List, [], ◌∷◌, map, refl, ap}
use Rattle.pbx_desc_records.specs.declared.file.FileDescriptorProto.{FileDescriptorProto}
use Rattle.pbx_desc_records.specs.declared.message.DescriptorProto.{DescriptorProto, out-DescriptorProto, out-roll-DescriptorProto, fold-DescriptorProto, fold_out-DescriptorProto}
use Rattle.pbx_desc_records.specs.declared.message.DescriptorProto.TheOpen.{DescriptorProto-F}
use Rattle.pbx_desc_shapes.specs.DescriptorShape.{message_fields}
use Rattle.pbx_link_definitions.specs.Names.{text_or_empty, qualified}
use Rattle.pbx_link_definitions.specs.Definitions.{layer_with}
use Rattle.pbx_link_record.specs.Unknown.{settled_unknown}
use Rattle.pbx_link_record.specs.Settled.{settled_options, settled_extension_range, settled_reserved_range, settled_field, settled_oneof, settled_enum, settled_layer, settled_message}
use Rattle.pbx_link_record.specs.Linked.{linked_extension, linked_field, linked_layer, linked_message}

abbrev pub linked_open : List FileDescriptorProto → List ℕ → DescriptorProto-F DescriptorProto → DescriptorProto-F DescriptorProto
linked_open seen scope o =
    let name = qualified scope (text_or_empty o.name) in
    record (layer_with (map (linked_message seen name) o.nested_type) o) {
      field = map (linked_field seen name) o.field;
      extension = map (linked_extension seen name) o.extension;
    }

applied : {A B C : Type 0} (f : A → B → C) (b : B) → (xs : List A) → map (λ (h : B → C). h b) (map f xs) ≡ map (λ x. f x b) xs
applied f b [] = refl
applied f b (x ∷ xs) = ap (λ ys. f x b ∷ ys) (applied f b xs)

pub linked_out : (seen : List FileDescriptorProto) (scope : List ℕ) (m : DescriptorProto) → out-DescriptorProto (linked_message seen scope m) ≡ linked_open seen scope (out-DescriptorProto m)
linked_out seen scope m =
    let o : DescriptorProto-F DescriptorProto = out-DescriptorProto m in
    let name = qualified scope (text_or_empty o.name) in
    let inner : DescriptorProto → List ℕ → DescriptorProto = fold-DescriptorProto (List ℕ → DescriptorProto) (linked_layer seen) in
    let layer : List DescriptorProto → DescriptorProto-F DescriptorProto = λ ns. record (layer_with ns o) { field = map (linked_field seen name) o.field; extension = map (linked_extension seen name) o.extension } in
    ap (λ (f : List ℕ → DescriptorProto). out-DescriptorProto (f scope)) (fold_out-DescriptorProto (List ℕ → DescriptorProto) (linked_layer seen) m)
    ∙ out-roll-DescriptorProto (layer (map (λ (f : List ℕ → DescriptorProto). f name) (map inner o.nested_type)))
    ∙ ap layer (applied inner name o.nested_type)

abbrev pub settled_open : DescriptorProto-F DescriptorProto → DescriptorProto-F DescriptorProto
settled_open o = record o {
  field = map settled_field o.field;
  nested_type = map settled_message o.nested_type;
  enum_type = map settled_enum o.enum_type;
  extension_range = map settled_extension_range o.extension_range;
  extension = map settled_field o.extension;
  options = settled_options o.options;
  oneof_decl = map settled_oneof o.oneof_decl;
  reserved_range = map settled_reserved_range o.reserved_range;
  unknown = settled_unknown message_fields o.unknown;
}

pub settled_out : (m : DescriptorProto) → out-DescriptorProto (settled_message m) ≡ settled_open (out-DescriptorProto m)
settled_out m =
    ap out-DescriptorProto (fold_out-DescriptorProto DescriptorProto settled_layer m) ∙ out-roll-DescriptorProto (settled_open (out-DescriptorProto m))
