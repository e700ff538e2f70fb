-- A settled file sees what the file sees, up to settling.
use Rattle.std.proofs.Common.{◌≡◌, ◌∙◌, List, map, Bool, refl, ap, sym}
use Rattle.std.specs.Prelude.{reverse}
use Rattle.std.proofs.lemmas.List.{map-append}
use Rattle.pbx_desc_records.specs.declared.enumeration.EnumDescriptorProto.{EnumDescriptorProto}
use Rattle.pbx_desc_records.specs.declared.enumeration.EnumValueDescriptorProto.{EnumValueDescriptorProto}
use Rattle.pbx_desc_records.specs.declared.file.FileDescriptorProto.{FileDescriptorProto}
use Rattle.pbx_desc_records.specs.declared.message.DescriptorProto.{DescriptorProto}
use Rattle.pbx_desc_records.specs.declared.message.DescriptorProto.TheOpen.{DescriptorProto-F}
use Rattle.pbx_link_definitions.specs.Names.{text_or_empty, is_named}
use Rattle.pbx_link_definitions.specs.Definitions.{messages, enums}
use Rattle.pbx_link_scope.specs.declared.types.Bound.{Bound}
use Rattle.pbx_link_scope.specs.declared.types.Bound.TheVariants.{Message as to_message, Enum as to_enum}
use Rattle.pbx_link_scope.specs.Scope.{reached, visible}
use Rattle.pbx_link_record.specs.Settled.{settled_value, settled_enum, settled_message, settled_file}
use Rattle.pbx_link_record.proofs.Layers.{settled_out}
use Rattle.pbx_link_laws.proofs.Lists.{map_through, part_of, halves, any_through}
use Rattle.pbx_link_laws.proofs.Once.{message_again, enum_again}
use Rattle.pbx_link_laws.proofs.Parts.{settled_messages, settled_enums, settled_definitions}
use Rattle.pbx_link_laws.proofs.FieldRules.{settled_extension_ranges}
use Rattle.pbx_link_laws.proofs.RecordRules.{settled_entry}
use Rattle.pbx_link_laws.proofs.Scope.{IsBlind, bound_by, SeeAlike, types_of, sees_with}

abbrev File : Type 0
File = FileDescriptorProto

pub settling_is_blind : IsBlind settled_message settled_enum
settling_is_blind = record {
  name = λ m. ap (λ (l : DescriptorProto-F DescriptorProto). text_or_empty l.name) (settled_out m);
  entry = settled_entry;
  ranges = settled_extension_ranges;
  enum_name = λ e. refl;
  values = λ e text.
      let is : EnumValueDescriptorProto → Bool = λ v. is_named v.name text in
      any_through settled_value is is (λ v. refl) e.value;
}

abbrev settled_bound : Bound → Bound
settled_bound = bound_by settled_message settled_enum

bound_again : (b : Bound) → settled_bound (settled_bound b) ≡ settled_bound b
bound_again (to_message p) = ap (λ (m : DescriptorProto). to_message (record p { item = m })) (message_again p.item)
bound_again (to_enum p) = ap (λ (e : EnumDescriptorProto). to_enum (record p { item = e })) (enum_again p.item)

settled_types : (f : File) → map settled_bound (types_of (settled_file f)) ≡ map settled_bound (types_of f)
settled_types f =
    ap (map settled_bound)
    (halves _ _ _ _
    (ap (map to_message) (settled_messages f) ∙ commuted to_message (part_of settled_message) (λ p. refl) (messages f))
    (ap (map to_enum) (settled_enums f) ∙ commuted to_enum (part_of settled_enum) (λ p. refl) (enums f))
    ∙ sym (map-append settled_bound (map to_message (messages f)) (map to_enum (enums f))))
    ∙ map_through settled_bound settled_bound settled_bound bound_again (types_of f)
  where
    commuted : {X : Type 0} (to : X → Bound) (v : X → X) → ((x : X) → to (v x) ≡ settled_bound (to x)) → (xs : List X)
        → map to (map v xs) ≡ map settled_bound (map to xs)
    commuted to v e xs = map_through v to (λ x. settled_bound (to x)) e xs ∙ sym (map_through to settled_bound (λ x. settled_bound (to x)) (λ x. refl) xs)

pub settled_sees : (files : List File) (f : File) → SeeAlike settled_message settled_enum (visible files (settled_file f)) (visible files f)
settled_sees files f =
    sees_with settled_message settled_enum settling_is_blind (settled_file f) f (reached f.dependency (reverse files)) (settled_types f)
    (settled_definitions f) refl
