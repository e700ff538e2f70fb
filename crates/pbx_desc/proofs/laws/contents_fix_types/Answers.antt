use Rattle.pbx_desc.proofs.One.{message_one, field_one, oneof_one, extension_range_one, reserved_range_one, enum_one, enum_value_one, enum_reserved_range_one}
use Rattle.pbx_desc.proofs.laws.contents_fix_types.Goals as goal

pub returns-clause-message : goal.returns-clause-message
returns-clause-message c = message_one

pub returns-clause-field : goal.returns-clause-field
returns-clause-field c = field_one

pub returns-clause-oneof : goal.returns-clause-oneof
returns-clause-oneof c = oneof_one

pub returns-clause-extension_range : goal.returns-clause-extension_range
returns-clause-extension_range c = extension_range_one

pub returns-clause-reserved_range : goal.returns-clause-reserved_range
returns-clause-reserved_range c = reserved_range_one

pub returns-clause-enumeration : goal.returns-clause-enumeration
returns-clause-enumeration c = enum_one

pub returns-clause-enum_value : goal.returns-clause-enum_value
returns-clause-enum_value c = enum_value_one

pub returns-clause-enum_reserved_range : goal.returns-clause-enum_reserved_range
returns-clause-enum_reserved_range c = enum_reserved_range_one
