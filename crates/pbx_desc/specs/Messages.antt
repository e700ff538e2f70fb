-- What a message holds beside the messages in it, and whether the records in it and in a file are exact.
use Rattle.std.specs.Prelude.{ℕ, List, [], ◌∷◌, Bool, true, Option, ◌==◌, if◌then◌else◌}
use Rattle.pbx_content.specs.declared.shape.FieldShape.{FieldShape}
use Rattle.pbx_content.specs.Content.{Val}
use Rattle.pbx_desc_encoding.specs.Content.{of_text, of_texts, of_records, of_options}
use Rattle.pbx_desc_encoding.specs.Content.{field_content, enum_content, extension_range_content, oneof_content, reserved_range_content}
use Rattle.pbx_desc_records.specs.declared.file.FileDescriptorProto.{FileDescriptorProto}
use Rattle.pbx_desc.specs.Exact.{are_exact, is_exact_if, is_exact_options, is_exact_field, is_exact_enum, is_exact_extension_range, is_exact_oneof}
use Rattle.pbx_desc.specs.Exact.{is_exact_reserved_range, is_exact_message, is_exact_service, is_exact_source_code_info}
use Rattle.pbx_desc.specs.declared.message.OwnParts.{OwnParts}

-- the fields without that of the number
abbrev pub beside : ℕ → List FieldShape → List FieldShape
beside n [] = []
beside n (g ∷ gs) = if n == g.number then gs else g ∷ beside n gs

-- the values of the parts, in the order of their fields
abbrev pub own_values : OwnParts → List (Option Val)
own_values p =
    of_text p.name
    ∷ of_records field_content p.field
    ∷ of_records enum_content p.enum_type
    ∷ of_records extension_range_content p.extension_range
    ∷ of_records field_content p.extension
    ∷ of_options p.options
    ∷ of_records oneof_content p.oneof_decl
    ∷ of_records reserved_range_content p.reserved_range
    ∷ of_texts p.reserved_name
    ∷ []

-- whether the records in the parts are exact, in that order
abbrev pub own_exact : OwnParts → List Bool
own_exact p =
    true
    ∷ are_exact is_exact_field p.field
    ∷ are_exact is_exact_enum p.enum_type
    ∷ are_exact is_exact_extension_range p.extension_range
    ∷ are_exact is_exact_field p.extension
    ∷ is_exact_if is_exact_options p.options
    ∷ are_exact is_exact_oneof p.oneof_decl
    ∷ are_exact is_exact_reserved_range p.reserved_range
    ∷ true
    ∷ []

-- the same of a file
abbrev pub file_exact : FileDescriptorProto → List Bool
file_exact f =
    true
    ∷ true
    ∷ true
    ∷ are_exact is_exact_message f.message_type
    ∷ are_exact is_exact_enum f.enum_type
    ∷ are_exact is_exact_service f.service
    ∷ are_exact is_exact_field f.extension
    ∷ is_exact_if is_exact_options f.options
    ∷ is_exact_if is_exact_source_code_info f.source_code_info
    ∷ true
    ∷ true
    ∷ true
    ∷ []
