use Rattle.pbx_message_laws.proofs.Placed.{field_is_listed, extension_is_listed, listed_is_field, same_has_field, same_has_extension}
use Rattle.pbx_message_laws.proofs.FieldNames.{named_is_field}
use Rattle.pbx_message_laws.proofs.laws.fields_of_messages.Goals as goal

pub returns-clause-fields : goal.returns-clause-fields
returns-clause-fields c = field_is_listed

pub returns-clause-extensions : goal.returns-clause-extensions
returns-clause-extensions c = extension_is_listed

pub returns-clause-only : goal.returns-clause-only
returns-clause-only c = listed_is_field

pub returns-clause-same_fields : goal.returns-clause-same_fields
returns-clause-same_fields c = same_has_field

pub returns-clause-same_extensions : goal.returns-clause-same_extensions
returns-clause-same_extensions c = same_has_extension

pub returns-clause-named : goal.returns-clause-named
returns-clause-named c = named_is_field
