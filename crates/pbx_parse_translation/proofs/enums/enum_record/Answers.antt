use Rattle.std.proofs.Common.{◌≡◌, ◌∙◌, ℕ, [], List, map, Option, Some, refl, ap}
use Rattle.std.specs.List.{flat_map, filter_map}
use Rattle.pbx_desc_records.specs.declared.enumeration.EnumDescriptorProto.{EnumDescriptorProto}
use Rattle.pbx_desc_records.specs.declared.enumeration.EnumReservedRange.{EnumReservedRange}
use Rattle.pbx_desc_records.specs.declared.enumeration.EnumValueDescriptorProto.{EnumValueDescriptorProto}
use Rattle.pbx_desc_records.specs.declared.options.Options.{Options}
use Rattle.pbx_wire.specs.declared.rec.Rec.{Rec}
use Rattle.pbx_parse_tree.specs.declared.options.OptionPlace.TheVariants as places
use Rattle.pbx_parse_tree.specs.Conditions.{enum_setting}
use Rattle.pbx_parse_tree.specs.Tree.{Enum}
use Rattle.pbx_parse_tree.specs.View.{enum_item_of, enum_of}
use Rattle.pbx_parse_translation.specs.Settings.{options_of}
use Rattle.pbx_parse_translation.specs.Enums.{enum_record, enum_value_records, range_records, reserved_names_in}
use Rattle.pbx_parse_translation.proofs.Lists.{flat_seen}
use Rattle.pbx_parse_translation.proofs.enums.enum_record.Goals as goal

abbrev enum_with : List ℕ → List EnumValueDescriptorProto → Option Options → List EnumReservedRange → List (List ℕ) → List Rec → EnumDescriptorProto
enum_with name value options ranges names unknown = record { name = Some name; value = value; options = options; reserved_range = ranges; reserved_name = names; unknown = unknown }

from_parts : (e : Enum) (name : List ℕ) (value : List EnumValueDescriptorProto) (options : Option Options) (ranges : List EnumReservedRange) (names : List (List ℕ)) (unknown : List Rec)
    → name ≡ e.name.text
    → value ≡ flat_map enum_value_records e.items
    → options ≡ options_of places.Enum (filter_map enum_setting e.items)
    → ranges ≡ flat_map range_records e.items
    → names ≡ flat_map reserved_names_in e.items
    → unknown ≡ []
    → enum_with name value options ranges names unknown ≡ enum_record e
unfolding enum_record
from_parts e name value options ranges names unknown a b c d f g =
    ap (λ x. enum_with x value options ranges names unknown) a
    ∙ ap (λ x. enum_with e.name.text x options ranges names unknown) b
    ∙ ap (λ x. enum_with e.name.text (flat_map enum_value_records e.items) x ranges names unknown) c
    ∙ ap (λ x. enum_with e.name.text (flat_map enum_value_records e.items) (options_of places.Enum (filter_map enum_setting e.items)) x names unknown) d
    ∙ ap (λ x. enum_with e.name.text (flat_map enum_value_records e.items) (options_of places.Enum (filter_map enum_setting e.items)) (flat_map range_records e.items) x unknown) f
    ∙ ap (λ x. enum_with e.name.text (flat_map enum_value_records e.items) (options_of places.Enum (filter_map enum_setting e.items)) (flat_map range_records e.items) (flat_map reserved_names_in e.items) x) g

pub returns-in-Ok : goal.returns-in-Ok
returns-in-Ok c =
    let seen = c.as_slice-items.result.now in
    let all = c.args.item.now.items.items in
    let are : seen ≡ all = c.as_slice-items.ensures.value in
    c.in-Ok.ensures
    ∙ from_parts (enum_of c.args.item.now) _ _ _ _ _ _
    refl
    (flat_seen enum_value_records enum_item_of seen ∙ ap (λ xs. flat_map enum_value_records (map enum_item_of xs)) are)
    (ap (λ xs. options_of places.Enum (filter_map enum_setting (map enum_item_of xs))) are)
    (flat_seen range_records enum_item_of seen ∙ ap (λ xs. flat_map range_records (map enum_item_of xs)) are)
    (flat_seen reserved_names_in enum_item_of seen ∙ ap (λ xs. flat_map reserved_names_in (map enum_item_of xs)) are)
    (ap (λ (e : EnumDescriptorProto). e.unknown) c.new-parts.ensures)
