-- What stands at a place of a file's record (Protocol Buffers `descriptor.proto`: SourceCodeInfo.Location.path).
use Rattle.std.specs.Prelude.{ℕ, ℤ, pos, negsuc, ◌-◌, List, [], ◌∷◌, length, take, drop, Option, Some, None, slice_get, option_and_then}
use Rattle.pbx_desc_records.specs.declared.enumeration.EnumDescriptorProto.{EnumDescriptorProto}
use Rattle.pbx_desc_records.specs.declared.field.FieldDescriptorProto.{FieldDescriptorProto}
use Rattle.pbx_desc_records.specs.declared.file.FileDescriptorProto.{FileDescriptorProto}
use Rattle.pbx_desc_records.specs.declared.message.DescriptorProto.{DescriptorProto, out-DescriptorProto}
use Rattle.pbx_link_definitions.specs.Definitions.{Place}

-- the item of this index
abbrev pub item_at : {X : Type 0} → ℤ → List X → Option X
item_at (pos i) xs = slice_get xs i
item_at (negsuc i) xs = None

-- the item of the index at the front of a place, which begins with a field number and an index
abbrev pub first_item : {X : Type 0} → Place → List X → Option X
first_item [] xs = None
first_item (n ∷ []) xs = None
first_item (n ∷ i ∷ place) xs = item_at i xs

-- the message at the rest of a place, a field number and an index for each level, from a message on
unfoldable pub message_below : DescriptorProto → Place → Option DescriptorProto
message_below m [] = Some m
message_below m (n ∷ []) = Some m
message_below m (n ∷ i ∷ place) = option_and_then (λ inner. message_below inner place) (item_at i (out-DescriptorProto m).nested_type)

-- the message at the place
unfoldable pub message_at : FileDescriptorProto → Place → Option DescriptorProto
message_at f place = option_and_then (λ m. message_below m (drop 2 place)) (first_item place f.message_type)

-- the place of what holds what stands at the place
abbrev pub holder : Place → Place
holder place = take (length place - 2) place

-- the enum of this index in what holds the place, a message or the file
unfoldable pub enum_at : FileDescriptorProto → Place → ℕ → Option EnumDescriptorProto
enum_at f [] i = slice_get f.enum_type i
enum_at f (n ∷ place) i = option_and_then (λ m. slice_get (out-DescriptorProto m).enum_type i) (message_at f (n ∷ place))

-- the same of extensions
unfoldable pub extension_at : FileDescriptorProto → Place → ℕ → Option FieldDescriptorProto
extension_at f [] i = slice_get f.extension i
extension_at f (n ∷ place) i = option_and_then (λ m. slice_get (out-DescriptorProto m).extension i) (message_at f (n ∷ place))
