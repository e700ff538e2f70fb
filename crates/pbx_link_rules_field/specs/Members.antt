-- Members of oneofs by the count of each oneof's.
use Rattle.std.specs.Prelude.{ℕ, nat_lt, ◌==◌, ◌&&◌, ◌||◌, not, ℤ, pos, negsuc, List, filter, length, slice_index_or, Bool, true, if◌then◌else◌}
use Rattle.std.specs.Prelude.{Option, Some, None}
use Rattle.pbx_desc_records.specs.declared.field.FieldDescriptorProto.{FieldDescriptorProto}
use Rattle.pbx_link_definitions.specs.Says.{is_number, is_set, is_optional}

-- how many of the fields are members of the oneof of this index
abbrev pub member_count : List FieldDescriptorProto → ℕ → ℕ
member_count xs i = length (filter (λ (x : FieldDescriptorProto). is_number x.oneof_index i) xs)

-- the index, if it is below the count
abbrev pub index_below : ℕ → Option ℤ → Option ℕ
index_below n None = None
index_below n (Some (pos i)) = if nat_lt i n then Some i else None
index_below n (Some (negsuc i)) = None

-- the field is no proper member of the oneof of this index, if there is one, where oneofs have so many members
abbrev pub is_bad_at : Bool → List ℕ → FieldDescriptorProto → Option ℕ → Bool
is_bad_at proto3 counts x None = true
is_bad_at proto3 counts x (Some i) = not (is_optional x) || (is_set x.proto3_optional && (not proto3 || not (slice_index_or counts i 0 == 1)))

-- the same by the index that the field gives
abbrev pub is_bad_by : Bool → List ℕ → FieldDescriptorProto → Option ℤ → Bool
is_bad_by proto3 counts x None = is_set x.proto3_optional
is_bad_by proto3 counts x (Some z) = is_bad_at proto3 counts x (index_below (length counts) (Some z))

-- the field is no proper member of a oneof, where oneofs have so many members
abbrev pub is_bad_member : Bool → List ℕ → FieldDescriptorProto → Bool
is_bad_member proto3 counts x = is_bad_by proto3 counts x x.oneof_index
