-- The record that linking makes of a file's record: names are exact, types are told, and fields have JSON names (Protocol Buffers
-- `descriptor.proto`: FieldDescriptorProto.type_name, type and json_name; all else is as it was).
use Rattle.std.specs.Prelude.{ℕ, ◌==◌, ℤ, pos, List, [], ◌∷◌, map, Bool, true, false, Option, Some, None, if◌then◌else◌}
use Rattle.std.specs.Char.{to_ascii_uppercase}
use Rattle.pbx_desc_records.specs.declared.field.FieldDescriptorProto.{FieldDescriptorProto}
use Rattle.pbx_desc_records.specs.declared.message.DescriptorProto.{DescriptorProto, roll-DescriptorProto, fold-DescriptorProto}
use Rattle.pbx_desc_records.specs.declared.message.DescriptorProto.TheOpen.{DescriptorProto-F}
use Rattle.pbx_desc_records.specs.declared.file.FileDescriptorProto.{FileDescriptorProto}
use Rattle.pbx_desc_records.specs.declared.service.MethodDescriptorProto.{MethodDescriptorProto}
use Rattle.pbx_desc_records.specs.declared.service.ServiceDescriptorProto.{ServiceDescriptorProto}
use Rattle.pbx_link_definitions.specs.Names.{text_or_empty, qualified, dotted}
use Rattle.pbx_link_definitions.specs.Definitions.{layer_with, package_of}
use Rattle.pbx_link_scope.specs.Scope.{visible, bound_name, bound_if}
use Rattle.pbx_link_scope.specs.declared.types.Bound.{Bound}
use Rattle.pbx_link_scope.specs.declared.types.Bound.TheVariants.{Message as to_message, Enum as to_enum}
use Rattle.pbx_link_record.specs.Settled.{settled_file}

-- ---- the default JSON name

-- a name without its `_`, what stands behind one in upper case; the flag says whether the next byte stands behind one
unfoldable pub camel_from : Bool → List ℕ → List ℕ
camel_from behind [] = []
camel_from behind (b ∷ bs) = if b == 95 then camel_from true bs else (if behind then to_ascii_uppercase b else b) ∷ camel_from false bs

-- the key in canonical JSON of a field of this name (Protocol Buffers "ProtoJSON Format": lowerCamelCase)
abbrev pub default_json_name : List ℕ → List ℕ
default_json_name name = camel_from false name

-- the JSON name that a field has, or else the default one
abbrev pub json_name_or_default : Option (List ℕ) → List ℕ → List ℕ
json_name_or_default None name = default_json_name name
json_name_or_default (Some json_name) name = json_name

-- ---- references

-- the exact name of what a name is bound to; one that is bound to nothing stays
abbrev pub exact_by : Option (List ℕ) → Option Bound → Option (List ℕ)
exact_by name None = name
exact_by name (Some b) = Some (dotted (bound_name b))

-- the exact name of what a name in the scope is bound to
abbrev pub exact : List FileDescriptorProto → List ℕ → Option (List ℕ) → Option (List ℕ)
exact seen scope name = exact_by name (bound_if seen scope name)

-- 11 where the name is bound to a message, 14 where it is bound to an enum, else the type as it was
abbrev pub type_by : Option ℤ → Option Bound → Option ℤ
type_by kind None = kind
type_by kind (Some (to_message p)) = Some (pos 11)
type_by kind (Some (to_enum p)) = Some (pos 14)

-- ---- records

-- a field or extension with exact names and the type of its name
abbrev pub linked_extension : List FileDescriptorProto → List ℕ → FieldDescriptorProto → FieldDescriptorProto
linked_extension seen scope x = record x {
  extendee = exact seen scope x.extendee;
  kind = type_by x.kind (bound_if seen scope x.type_name);
  type_name = exact seen scope x.type_name;
}

-- a field has a JSON name too
abbrev pub linked_field : List FileDescriptorProto → List ℕ → FieldDescriptorProto → FieldDescriptorProto
linked_field seen scope x = record (linked_extension seen scope x) { json_name = Some (json_name_or_default x.json_name (text_or_empty x.name)) }

-- a message in its scope, whose nested messages are linked once their scope is known
abbrev pub linked_layer : List FileDescriptorProto → DescriptorProto-F (List ℕ → DescriptorProto) → List ℕ → DescriptorProto
linked_layer seen m scope =
    let name = qualified scope (text_or_empty m.name) in
    roll-DescriptorProto (record (layer_with (map (λ (nested : List ℕ → DescriptorProto). nested name) m.nested_type) m) {
      field = map (linked_field seen name) m.field;
      extension = map (linked_extension seen name) m.extension;
    })

-- a message in its scope
abbrev pub linked_message : List FileDescriptorProto → List ℕ → DescriptorProto → DescriptorProto
linked_message seen scope m = fold-DescriptorProto (List ℕ → DescriptorProto) (linked_layer seen) m scope

-- a method in the scope of its service
abbrev pub linked_method : List FileDescriptorProto → List ℕ → MethodDescriptorProto → MethodDescriptorProto
linked_method seen scope m = record m { input_type = exact seen scope m.input_type; output_type = exact seen scope m.output_type }

-- a service in its scope
abbrev pub linked_service : List FileDescriptorProto → List ℕ → ServiceDescriptorProto → ServiceDescriptorProto
linked_service seen scope s = record s { method = map (linked_method seen (qualified scope (text_or_empty s.name))) s.method }

-- the record of a file that sees these files
abbrev pub linked_with : List FileDescriptorProto → FileDescriptorProto → FileDescriptorProto
linked_with seen f = record f {
  message_type = map (linked_message seen (package_of f)) f.message_type;
  service = map (linked_service seen (package_of f)) f.service;
  extension = map (linked_extension seen (package_of f)) f.extension;
}

-- the record of a file among the files of a pool
abbrev pub linked : List FileDescriptorProto → FileDescriptorProto → FileDescriptorProto
linked files f = linked_with (visible files f) f

-- what a pool keeps of the record of a file
abbrev pub linked_record : List FileDescriptorProto → FileDescriptorProto → FileDescriptorProto
linked_record files f = settled_file (linked files f)

-- the record of a file without the places in its source (google.protobuf.FileDescriptorProto.source_code_info)
abbrev pub without_source_code_info : FileDescriptorProto → FileDescriptorProto
without_source_code_info f = record f { source_code_info = None }
