-- The rule on the numbers of extensions, as the places of a file's record at which it is broken, of a pool's files and of those that the file
-- sees (Protocol Buffers language guide: "Extensions", "Assigning Field Numbers").
use Rattle.std.specs.Prelude.{ℕ, not, ◌&&◌, ◌||◌, ℤ, List, [], ◌++◌, map, Bool, false, Option, Some, None}
use Rattle.pbx_desc_records.specs.declared.field.FieldDescriptorProto.{FieldDescriptorProto}
use Rattle.pbx_desc_records.specs.declared.file.FileDescriptorProto.{FileDescriptorProto}
use Rattle.pbx_link_definitions.specs.Definitions.{Place, Part, at, message_name, extensions}
use Rattle.pbx_link_definitions.specs.Places.{repeated}
use Rattle.pbx_link_definitions.specs.Ranges.{in_ranges, extension_ranges, is_field_number}
use Rattle.pbx_link_definitions.specs.Says.{are_equal}
use Rattle.pbx_link_scope.specs.declared.types.Bound.{Bound}
use Rattle.pbx_link_scope.specs.declared.types.Bound.TheVariants.{Message as to_message, Enum as to_enum}
use Rattle.pbx_link_scope.specs.Scope.{bound_if, extendee_of}
use Rattle.pbx_link_scope.specs.Pooled.{is_extended}
use Rattle.pbx_link_rules_scope.specs.Rules.{places_by}
use Rattle.pbx_link_rules_scope.specs.MapFields.{same_text}

-- the full name of the message that a name is bound to; None for an enum, which nothing can extend, and for nothing
abbrev pub message_name_of : Option Bound → Option (List ℕ)
message_name_of None = None
message_name_of (Some (to_message m)) = Some (message_name m)
message_name_of (Some (to_enum e)) = None

-- the number is outside the extension ranges of the message that is extended
abbrev pub is_outside : Option Bound → Option ℤ → Bool
is_outside None z = false
is_outside (Some (to_message m)) z = not (in_ranges (extension_ranges m.item) z)
is_outside (Some (to_enum e)) z = false

-- no number of a field, or one that the extended message leaves to no extension
abbrev pub is_unfit : List FileDescriptorProto → List ℕ → FieldDescriptorProto → Bool
is_unfit seen scope x = not (is_field_number x.number) || is_outside (bound_if seen scope x.extendee) x.number

-- an extension of the files extends the message of this full name under this number
abbrev pub is_taken : List FileDescriptorProto → Option (List ℕ) → Option ℤ → Bool
is_taken files None z = false
is_taken files (Some name) z = is_extended files name z

-- a file of the pool has an extension of the message that is extended under this number
abbrev pub has_taken_number : List FileDescriptorProto → List FileDescriptorProto → List ℕ → FieldDescriptorProto → Bool
has_taken_number files seen scope x = is_taken files (message_name_of (bound_if seen scope x.extendee)) x.number

-- an extension, by the full name of the message that it extends, by its number and by its number's place
pub record Extending : Type 0 where
  pub extendee : Option (List ℕ)
  pub number : Option ℤ
  pub place : Place

-- both extend one message under one number
abbrev pub like_extending : Extending → Extending → Bool
like_extending x y = same_text x.extendee y.extendee && are_equal x.number y.number

-- an extension, by the message that its extendee is bound to
abbrev pub extending : List FileDescriptorProto → Part FieldDescriptorProto → Extending
extending seen p = record { extendee = message_name_of (extendee_of seen p); number = p.item.number; place = at p 3 }

-- the places of those that extend the message that an earlier one extends under its number
abbrev pub extended_again : List FileDescriptorProto → List (Part FieldDescriptorProto) → List Place
extended_again seen ps = map (λ (x : Extending). x.place) (repeated like_extending [] (map (extending seen) ps))

-- numbers that no extension may have, that an extension of the pool's files has, or that an earlier one of the file has
abbrev pub bad_extension_numbers : List FileDescriptorProto → List FileDescriptorProto → FileDescriptorProto → List Place
bad_extension_numbers files seen f =
    places_by (is_unfit seen) 3 (extensions f) ++ places_by (has_taken_number files seen) 3 (extensions f) ++ extended_again seen (extensions f)
