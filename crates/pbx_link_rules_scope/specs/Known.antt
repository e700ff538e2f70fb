-- The extension ranges of messages, kept by full names, and extensions by what they extend and by their numbers.
use Rattle.std.specs.Prelude.{◌≡◌, ℕ, ℤ, List, Option, Some, None, String, string_bytes}
use Rattle.std.specs.BTreeMap.{BTreeMap, get_by_text}
use Rattle.pbx_desc_records.specs.declared.field.FieldDescriptorProto.{FieldDescriptorProto}
use Rattle.pbx_desc_records.specs.declared.file.FileDescriptorProto.{FileDescriptorProto}
use Rattle.pbx_desc_records.specs.declared.message.DescriptorProto.{DescriptorProto}
use Rattle.pbx_link_definitions.specs.Definitions.{Part}
use Rattle.pbx_link_definitions.specs.Ranges.{Range, in_ranges, extension_ranges}
use Rattle.pbx_link_scope.specs.declared.types.Bound.TheVariants.{Message as to_message}
use Rattle.pbx_link_scope.specs.Scope.{bound_name, bound_if, type_named}
use Rattle.pbx_link_rules_scope.specs.ExtensionNumbers.{message_name_of}

-- the message is what its full name stands for
abbrev pub IsKnownMessage : List FileDescriptorProto → Part DescriptorProto → Type 0
IsKnownMessage seen m = type_named seen (bound_name (to_message m)) ≡ Some (to_message m)

-- the ranges that are kept by a message's full name are its extension ranges
abbrev pub AreOwn : {A : Type 0} → List FileDescriptorProto → BTreeMap (String A) (List Range) → Type 0
AreOwn seen known = (m : Part DescriptorProto) (ranges : List Range) → IsKnownMessage seen m → get_by_text known (bound_name (to_message m)) ≡ Some ranges
    → (number : Option ℤ) → in_ranges ranges number ≡ in_ranges (extension_ranges m.item) number

-- ---- extensions by what they extend and by their numbers

-- the bytes of a name, and a number
abbrev pub key_of : {A : Type 0} → String A × ℤ → List ℕ × ℤ
key_of k = (string_bytes k.0, k.1)

-- both, if both are there
abbrev pub both_of : Option (List ℕ) → Option ℤ → Option (List ℕ × ℤ)
both_of (Some name) (Some number) = Some (name, number)
both_of name number = None

-- the full name of the message that an extension extends, and its number
abbrev pub extended_number : List FileDescriptorProto → List ℕ → FieldDescriptorProto → Option (List ℕ × ℤ)
extended_number seen scope x = both_of (message_name_of (bound_if seen scope x.extendee)) x.number
