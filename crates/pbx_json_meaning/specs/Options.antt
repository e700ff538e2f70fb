-- The options that a caller starts with (ProtoJSON Format: the defaults of the mapping).
use Rattle.std.specs.Prelude.{true, false}
use Rattle.pbx_json_meaning.specs.declared.options.SerializeOptions.{SerializeOptions}
use Rattle.pbx_json_meaning.specs.declared.options.DeserializeOptions.{DeserializeOptions}

-- integers of 64 bits as texts, enums by name, fields under their JSON names, and no defaults
abbrev pub default_writing : SerializeOptions
default_writing = record { stringify_64_bit_integers = true; use_enum_numbers = false; use_proto_field_name = false; skip_default_fields = true }

-- unknown fields are refused
abbrev pub default_reading : DeserializeOptions
default_reading = record { deny_unknown_fields = true }
