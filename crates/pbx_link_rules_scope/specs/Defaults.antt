-- The rule on declared defaults, as the places of a file's record at which it is broken among the files that the file sees (Protocol
-- Buffers `descriptor.proto`: FieldDescriptorProto.default_value; language specification: "Integer literals", "String literals"). Numbers
-- are decimal, and bytes are C-escaped.
use Rattle.std.specs.Prelude.{ℕ, ◌+◌, ◌-◌, ◌*◌, ◌^◌, ◌==◌, ◌&&◌, ◌||◌, not, nat_le, ℤ, pos, negsuc, ◌-ℤ◌, List, [], ◌∷◌, ◌++◌, Bool, true, false}
use Rattle.std.specs.Prelude.{Option, Some, None, is_some, option_map, if◌then◌else◌, codes}
use Rattle.std.specs.List.{fold, list_any, list_all}
use Rattle.pbx_parse_token.specs.Bytes.{is_digit}
use Rattle.pbx_parse_token.specs.Scan.{has_good_escapes}
use Rattle.pbx_desc_records.specs.declared.enumeration.EnumDescriptorProto.{EnumDescriptorProto}
use Rattle.pbx_desc_records.specs.declared.enumeration.EnumValueDescriptorProto.{EnumValueDescriptorProto}
use Rattle.pbx_desc_records.specs.declared.field.FieldDescriptorProto.{FieldDescriptorProto}
use Rattle.pbx_desc_records.specs.declared.file.FileDescriptorProto.{FileDescriptorProto}
use Rattle.pbx_link_definitions.specs.Definitions.{Place, fields, extensions}
use Rattle.pbx_link_definitions.specs.Names.{text_or_empty, is_named, among}
use Rattle.pbx_link_definitions.specs.Says.{is_proto3, is_repeated}
use Rattle.pbx_link_scope.specs.declared.types.Bound.{Bound}
use Rattle.pbx_link_scope.specs.declared.types.Bound.TheVariants.{Message as to_message, Enum as to_enum}
use Rattle.pbx_link_scope.specs.Scope.{bound_if}
use Rattle.pbx_link_rules_scope.specs.Rules.{places_by}

-- ---- decimal texts

-- the number that decimal digits spell
abbrev pub digits_number : List ℕ → ℕ
digits_number text = fold (λ n b. n * 10 + (b - 48)) 0 text

-- at least one digit and nothing else
abbrev pub digits_value : List ℕ → Option ℕ
digits_value [] = None
digits_value (b ∷ bs) = if list_all is_digit (b ∷ bs) then Some (digits_number (b ∷ bs)) else None

-- a decimal text: digits, a sign before them or none; the flag says whether `-` may be the sign
abbrev pub decimal_value : Bool → List ℕ → Option ℤ
decimal_value signed [] = None
decimal_value signed (b ∷ bs) =
    if b == 43 then option_map pos (digits_value bs)
    else (if b == 45 && signed then option_map (λ n. pos 0 -ℤ pos n) (digits_value bs)
    else option_map pos (digits_value (b ∷ bs)))

-- the number is not above the greatest, nor below its negative less one
abbrev pub fits_signed : ℕ → ℤ → Bool
fits_signed greatest (pos n) = nat_le n greatest
fits_signed greatest (negsuc n) = nat_le n greatest

-- the number is 0 to the greatest
abbrev pub fits_unsigned : ℕ → ℤ → Bool
fits_unsigned greatest (pos n) = nat_le n greatest
fits_unsigned greatest (negsuc n) = false

-- there is a number, and it has the property
abbrev pub passes : (ℤ → Bool) → Option ℤ → Bool
passes P None = false
passes P (Some z) = P z

-- a decimal text of a signed number up to the greatest
abbrev pub is_signed_text : ℕ → List ℕ → Bool
is_signed_text greatest text = passes (fits_signed greatest) (decimal_value true text)

-- a decimal text without `-`, of a number up to the greatest
abbrev pub is_unsigned_text : ℕ → List ℕ → Bool
is_unsigned_text greatest text = passes (fits_unsigned greatest) (decimal_value false text)

-- ---- defaults

-- a default of a `FieldDescriptorProto.Type` that is no message or enum: floats and strings may have any text
abbrev pub is_scalar_default : ℕ → List ℕ → Bool
is_scalar_default t text =
    if t == 5 || t == 15 || t == 17 then is_signed_text (2 ^ 31 - 1) text
    else (if t == 3 || t == 16 || t == 18 then is_signed_text (2 ^ 63 - 1) text
    else (if t == 13 || t == 7 then is_unsigned_text (2 ^ 32 - 1) text
    else (if t == 4 || t == 6 then is_unsigned_text (2 ^ 64 - 1) text
    else (if t == 8 then among (codes "true" ∷ codes "false" ∷ []) text
    else (if t == 12 then has_good_escapes text else true)))))

-- the same of any number of a type; a message has no default
abbrev pub is_unnamed_default : Option ℤ → List ℕ → Bool
is_unnamed_default None text = true
is_unnamed_default (Some (negsuc n)) text = true
is_unnamed_default (Some (pos n)) text = not (n == 11) && is_scalar_default n text

-- a value of the enum has this name
abbrev pub is_value_name : EnumDescriptorProto → List ℕ → Bool
is_value_name e text = list_any (λ (v : EnumValueDescriptorProto). is_named v.name text) e.value

-- the text is a default of the type, by what its name is bound to and by its number
abbrev pub is_default_of : Option Bound → Option ℤ → List ℕ → Bool
is_default_of (Some (to_message p)) kind text = false
is_default_of (Some (to_enum p)) kind text = is_value_name p.item text
is_default_of None kind text = is_unnamed_default kind text

-- a default where there may be none, or one that is not of the type
abbrev pub has_bad_default : Bool → List FileDescriptorProto → List ℕ → FieldDescriptorProto → Bool
has_bad_default proto3 seen scope x =
    is_some x.default_value
    && (proto3 || is_repeated x || not (is_default_of (bound_if seen scope x.type_name) x.kind (text_or_empty x.default_value)))

-- of all fields and extensions
abbrev pub bad_defaults : List FileDescriptorProto → FileDescriptorProto → List Place
bad_defaults seen f =
    places_by (has_bad_default (is_proto3 f) seen) 7 (fields f) ++ places_by (has_bad_default (is_proto3 f) seen) 7 (extensions f)
