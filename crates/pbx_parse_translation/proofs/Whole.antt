-- A service and a message by their parts.
use Rattle.std.proofs.Common.{◌≡◌, ℕ, List, [], ◌++◌, length, map, Option, Some, sym, ap, ◌∙◌}
use Rattle.std.specs.List.{flat_map, filter_map}
use Rattle.pbx_desc_records.specs.declared.enumeration.EnumDescriptorProto.{EnumDescriptorProto}
use Rattle.pbx_desc_records.specs.declared.field.FieldDescriptorProto.{FieldDescriptorProto}
use Rattle.pbx_desc_records.specs.declared.field.OneofDescriptorProto.{OneofDescriptorProto}
use Rattle.pbx_desc_records.specs.declared.message.DescriptorProto.{DescriptorProto, roll-DescriptorProto}
use Rattle.pbx_desc_records.specs.declared.message.ExtensionRange.{ExtensionRange}
use Rattle.pbx_desc_records.specs.declared.message.ReservedRange.{ReservedRange}
use Rattle.pbx_desc_records.specs.declared.options.Options.{Options}
use Rattle.pbx_desc_records.specs.declared.service.MethodDescriptorProto.{MethodDescriptorProto}
use Rattle.pbx_wire.specs.declared.rec.Rec.{Rec}
use Rattle.pbx_parse_tree.specs.declared.tree.Version.{Version}
use Rattle.pbx_parse_tree.specs.declared.tree.Item as code_item
use Rattle.pbx_parse_tree.specs.declared.options.OptionPlace.TheVariants as places
use Rattle.pbx_parse_tree.specs.Conditions.{body_settings, service_setting}
use Rattle.pbx_parse_tree.specs.Tree.{Body, Service}
use Rattle.pbx_parse_tree.specs.View.{BodyItem, item_of, body_of}
use Rattle.pbx_parse_translation.specs.Settings.{options_of}
use Rattle.pbx_parse_translation.specs.Services.{method_records, service_record}
use Rattle.pbx_parse_translation.specs.Messages.{body_items, oneof_record, oneofs_in, optional_names_in, names_in, oneof_records, fields_from, fields_of, enums_in, extension_ranges_in, extensions_in, reserved_ranges_in, reserved_names_in, message_with}
use Rattle.pbx_parse_translation.specs.Synthetic.{synthetic_names}
use Rattle.pbx_parse_translation.proofs.Lists.{flat_seen, body_items_seen}

pub service_made : (s : Service) (name : List ℕ) (methods : List MethodDescriptorProto) (options : Option Options) (unknown : List Rec)
    → name ≡ s.name.text
    → methods ≡ flat_map method_records s.items
    → options ≡ options_of places.Service (filter_map service_setting s.items)
    → unknown ≡ []
    → record { name = Some name; method = methods; options = options; unknown = unknown } ≡ service_record s
unfolding service_record
service_made s name methods options unknown n m o u = cc

module _ (items : List code_item.Item) where
  seen : body_items (body_of items) ≡ map item_of items
  seen = body_items_seen (map item_of items)

  pub gathered : {A : Type 0} (f : BodyItem → List A) (all : List A) → all ≡ flat_map (λ x. f (item_of x)) items → all ≡ flat_map f (body_items (body_of items))
  gathered f all e = e ∙ flat_seen f item_of items ∙ ap (flat_map f) (sym seen)

  module _ (v : Version) (written : List OneofDescriptorProto) (are : written ≡ flat_map (λ x. oneofs_in (item_of x)) items) where
    pub fields_are : (fields : List FieldDescriptorProto) → fields ≡ fields_from v 0 (length written) (map item_of items) → fields ≡ fields_of v (body_items (body_of items))
    fields_are fields e =
        e
        ∙ ap (λ (os : List OneofDescriptorProto). fields_from v 0 (length os) (map item_of items)) (are ∙ flat_seen oneofs_in item_of items)
        ∙ ap (fields_of v) (sym seen)

    pub oneofs_are : (oneofs : List OneofDescriptorProto) → oneofs ≡ written ++ map oneof_record (synthetic_names (flat_map names_in (map item_of items)) (flat_map (optional_names_in v) (map item_of items))) → oneofs ≡ oneof_records v (body_items (body_of items))
    oneofs_are oneofs e =
        e
        ∙ ap (λ (os : List OneofDescriptorProto). os ++ map oneof_record (synthetic_names (flat_map names_in (map item_of items)) (flat_map (optional_names_in v) (map item_of items)))) (are ∙ flat_seen oneofs_in item_of items)
        ∙ ap (oneof_records v) (sym seen)

pub message_made : (v : Version) (name text : List ℕ) (b : Body) (types kept : List DescriptorProto) (fields : List FieldDescriptorProto) (enums : List EnumDescriptorProto) (ranges : List ExtensionRange) (extensions : List FieldDescriptorProto)
    (options : Option Options) (oneofs : List OneofDescriptorProto) (reserved : List ReservedRange) (names : List (List ℕ)) (unknown : List Rec)
    → text ≡ name
    → kept ≡ types
    → fields ≡ fields_of v (body_items b)
    → enums ≡ flat_map enums_in (body_items b)
    → ranges ≡ flat_map extension_ranges_in (body_items b)
    → extensions ≡ flat_map (extensions_in v) (body_items b)
    → options ≡ options_of places.Message (body_settings b)
    → oneofs ≡ oneof_records v (body_items b)
    → reserved ≡ flat_map reserved_ranges_in (body_items b)
    → names ≡ flat_map reserved_names_in (body_items b)
    → unknown ≡ []
    → roll-DescriptorProto (record {
      name = Some text;
      field = fields;
      nested_type = kept;
      enum_type = enums;
      extension_range = ranges;
      extension = extensions;
      options = options;
      oneof_decl = oneofs;
      reserved_range = reserved;
      reserved_name = names;
      unknown = unknown;
    })
    ≡ message_with v name b types
unfolding message_with
message_made v name text b types kept fields enums ranges extensions options oneofs reserved names unknown t k f e r x o s d n u = cc
