-- What a pool and its descriptors hold. Only bodies and their private contracts speak of it.
use Rattle.std.specs.Prelude.{ℕ, ℤ, pos, negsuc, ◌==◌, List, [], length, map, filter, drop, Bool, Option, None, Some, slice_index_or}
use Rattle.std.specs.List.{flat_map}
use Rattle.pbx_desc_records.specs.declared.enumeration.EnumDescriptorProto.{EnumDescriptorProto}
use Rattle.pbx_desc_records.specs.declared.enumeration.EnumValueDescriptorProto.{EnumValueDescriptorProto}
use Rattle.pbx_desc_records.specs.declared.field.FieldDescriptorProto.{FieldDescriptorProto}
use Rattle.pbx_desc_records.specs.declared.field.OneofDescriptorProto.{OneofDescriptorProto}
use Rattle.pbx_desc_records.specs.declared.file.FileDescriptorProto.{FileDescriptorProto}
use Rattle.pbx_desc_records.specs.declared.message.DescriptorProto.{DescriptorProto, roll-DescriptorProto, out-DescriptorProto}
use Rattle.pbx_desc_records.specs.declared.service.MethodDescriptorProto.{MethodDescriptorProto}
use Rattle.pbx_desc_records.specs.declared.service.ServiceDescriptorProto.{ServiceDescriptorProto}
use Rattle.pbx_link_definitions.specs.Names.{is_named, dotted}
use Rattle.pbx_link_definitions.specs.Says.{is_number}
use Rattle.pbx_link_definitions.specs.Definitions.{Part, messages, extensions, services}
use Rattle.pbx_link_meaning.specs.Descriptors.{FileDescribed, Described, described, in_file, fields_of_message}

-- the files of a pool that is there, and none where there is no pool
abbrev pub files_of : Option (List FileDescriptorProto) → List FileDescriptorProto
files_of None = []
files_of (Some files) = files

-- the part at an index, and an empty one where there is none
abbrev pub part_at : {X : Type 0} → X → List (Part X) → ℕ → Part X
part_at none ps i = slice_index_or ps i (record { scope = []; place = []; index = 0; item = none })

-- an index, unless it is negative
abbrev pub index_of : Option ℤ → Option ℕ
index_of None = None
index_of (Some (pos i)) = Some i
index_of (Some (negsuc i)) = None

-- what is told of the files of a pool, from what stands so many behind the first of the file of an index on
abbrev pub told_from : {X : Type 0} → (FileDescriptorProto → List (Part X)) → List FileDescriptorProto → ℕ → ℕ → List (Described X)
told_from tell pool file index = drop index (flat_map (λ f. map (described pool f) (tell f)) (drop file pool))

-- the messages
abbrev pub messages_from : List FileDescriptorProto → ℕ → ℕ → List (Described DescriptorProto)
messages_from pool file index = told_from messages pool file index

-- the extensions
abbrev pub extensions_from : List FileDescriptorProto → ℕ → ℕ → List (Described FieldDescriptorProto)
extensions_from pool file index = told_from extensions pool file index

-- the services
abbrev pub services_from : List FileDescriptorProto → ℕ → ℕ → List (Described ServiceDescriptorProto)
services_from pool file index = told_from services pool file index

-- the message stands in no other: its place is a field number and an index
abbrev pub is_top : Part DescriptorProto → Bool
is_top p = length p.place == 2

-- the messages of a file from an index on that stand in no other
abbrev pub tops_from : FileDescriptorProto → ℕ → List (Part DescriptorProto)
tops_from f index = filter is_top (drop index (messages f))

-- those that extend the message of this full name
abbrev pub extending : List ℕ → List (Described FieldDescriptorProto) → List (Described FieldDescriptorProto)
extending name xs = filter (λ (x : Described FieldDescriptorProto). is_named x.part.item.extendee (dotted name)) xs

-- the fields of a message from an index on that are members of its oneof of this index
abbrev pub members_from : Described DescriptorProto → ℕ → ℕ → List (Described FieldDescriptorProto)
members_from d oneof index = filter (λ (x : Described FieldDescriptorProto). is_number x.part.item.oneof_index oneof) (drop index (fields_of_message d))

-- a message in which all is absent
abbrev pub no_message : DescriptorProto
no_message = roll-DescriptorProto (record {
  name = None;
  field = [];
  nested_type = [];
  enum_type = [];
  extension_range = [];
  extension = [];
  options = None;
  oneof_decl = [];
  reserved_range = [];
  reserved_name = [];
  unknown = [];
})

-- the records of a message's oneofs
abbrev pub own_oneofs : DescriptorProto → List OneofDescriptorProto
own_oneofs m = (out-DescriptorProto m).oneof_decl

-- a field in which all is absent
abbrev pub no_field : FieldDescriptorProto
no_field = record {
  name = None;
  extendee = None;
  number = None;
  label = None;
  kind = None;
  type_name = None;
  default_value = None;
  options = None;
  oneof_index = None;
  json_name = None;
  proto3_optional = None;
  unknown = [];
}

-- a oneof in which all is absent
abbrev pub no_oneof : OneofDescriptorProto
no_oneof = record { name = None; options = None; unknown = [] }

-- an enum in which all is absent
abbrev pub no_enum : EnumDescriptorProto
no_enum = record { name = None; value = []; options = None; reserved_range = []; reserved_name = []; unknown = [] }

-- a value in which all is absent
abbrev pub no_value : EnumValueDescriptorProto
no_value = record { name = None; number = None; options = None; unknown = [] }

-- a service in which all is absent
abbrev pub no_service : ServiceDescriptorProto
no_service = record { name = None; method = []; options = None; unknown = [] }

-- a method in which all is absent
abbrev pub no_method : MethodDescriptorProto
no_method = record { name = None; input_type = None; output_type = None; options = None; client_streaming = None; server_streaming = None; unknown = [] }
