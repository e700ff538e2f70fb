-- How many levels of messages and groups stand below the top of a record, those of all its records counted.
use Rattle.std.specs.Prelude.{ℕ, ◌+◌, max, List, [], ◌∷◌, map, Option, Some, None}
use Rattle.pbx_wire.specs.Text.{depth_of}
use Rattle.pbx_wire.specs.declared.rec.Rec.{Rec}
use Rattle.pbx_desc_records.specs.declared.enumeration.EnumDescriptorProto.{EnumDescriptorProto}
use Rattle.pbx_desc_records.specs.declared.enumeration.EnumReservedRange.{EnumReservedRange}
use Rattle.pbx_desc_records.specs.declared.enumeration.EnumValueDescriptorProto.{EnumValueDescriptorProto}
use Rattle.pbx_desc_records.specs.declared.field.FieldDescriptorProto.{FieldDescriptorProto}
use Rattle.pbx_desc_records.specs.declared.field.OneofDescriptorProto.{OneofDescriptorProto}
use Rattle.pbx_desc_records.specs.declared.file.FileDescriptorProto.{FileDescriptorProto}
use Rattle.pbx_desc_records.specs.declared.file.FileDescriptorSet.{FileDescriptorSet}
use Rattle.pbx_desc_records.specs.declared.message.DescriptorProto.{DescriptorProto, fold-DescriptorProto}
use Rattle.pbx_desc_records.specs.declared.message.DescriptorProto.TheOpen.{DescriptorProto-F}
use Rattle.pbx_desc_records.specs.declared.message.ExtensionRange.{ExtensionRange}
use Rattle.pbx_desc_records.specs.declared.message.ReservedRange.{ReservedRange}
use Rattle.pbx_desc_records.specs.declared.options.Options.{Options}
use Rattle.pbx_desc_records.specs.declared.service.MethodDescriptorProto.{MethodDescriptorProto}
use Rattle.pbx_desc_records.specs.declared.service.ServiceDescriptorProto.{ServiceDescriptorProto}
use Rattle.pbx_desc_records.specs.declared.source.Location.{Location}
use Rattle.pbx_desc_records.specs.declared.source.SourceCodeInfo.{SourceCodeInfo}

-- the greatest of the numbers
abbrev pub greatest : List ℕ → ℕ
greatest [] = 0
greatest (n ∷ ns) = max n (greatest ns)

-- the levels of a record with these in its fields, and with these unknown records
abbrev pub levels_of : List ℕ → List Rec → ℕ
levels_of ns unknown = max (greatest ns) (depth_of unknown)

-- each record of a list is one level, with its own below
abbrev pub below : {R : Type 0} → (R → ℕ) → List R → ℕ
below f rs = greatest (map (λ r. f r + 1) rs)

-- the same of a record, if there is one
abbrev pub below_one : {R : Type 0} → (R → ℕ) → Option R → ℕ
below_one f None = 0
below_one f (Some r) = f r + 1

-- options are one level, with their groups below
abbrev pub options_levels : Option Options → ℕ
options_levels o = below_one (λ (p : Options). depth_of p.recs) o

-- below an ExtensionRange
abbrev pub extension_range_levels : ExtensionRange → ℕ
extension_range_levels r = levels_of (options_levels r.options ∷ []) r.unknown

-- below a ReservedRange
abbrev pub reserved_range_levels : ReservedRange → ℕ
reserved_range_levels r = levels_of [] r.unknown

-- below a FieldDescriptorProto
abbrev pub field_levels : FieldDescriptorProto → ℕ
field_levels f = levels_of (options_levels f.options ∷ []) f.unknown

-- below a OneofDescriptorProto
abbrev pub oneof_levels : OneofDescriptorProto → ℕ
oneof_levels o = levels_of (options_levels o.options ∷ []) o.unknown

-- below an EnumReservedRange
abbrev pub enum_reserved_range_levels : EnumReservedRange → ℕ
enum_reserved_range_levels r = levels_of [] r.unknown

-- below an EnumValueDescriptorProto
abbrev pub enum_value_levels : EnumValueDescriptorProto → ℕ
enum_value_levels v = levels_of (options_levels v.options ∷ []) v.unknown

-- below an EnumDescriptorProto
abbrev pub enum_levels : EnumDescriptorProto → ℕ
enum_levels e =
    levels_of (below enum_value_levels e.value ∷ options_levels e.options ∷ below enum_reserved_range_levels e.reserved_range ∷ []) e.unknown

-- below a MethodDescriptorProto
abbrev pub method_levels : MethodDescriptorProto → ℕ
method_levels m = levels_of (options_levels m.options ∷ []) m.unknown

-- below a ServiceDescriptorProto
abbrev pub service_levels : ServiceDescriptorProto → ℕ
service_levels s = levels_of (below method_levels s.method ∷ options_levels s.options ∷ []) s.unknown

-- below a Location
abbrev pub location_levels : Location → ℕ
location_levels l = levels_of [] l.unknown

-- below a SourceCodeInfo
abbrev pub source_code_info_levels : SourceCodeInfo → ℕ
source_code_info_levels s = levels_of (below location_levels s.location ∷ []) s.unknown

-- below one layer of a DescriptorProto, with the levels of its nested messages in their places
abbrev pub message_levels_step : DescriptorProto-F ℕ → ℕ
message_levels_step m =
    levels_of
    (below field_levels m.field
    ∷ below (λ n. n) m.nested_type
    ∷ below enum_levels m.enum_type
    ∷ below extension_range_levels m.extension_range
    ∷ below field_levels m.extension
    ∷ options_levels m.options
    ∷ below oneof_levels m.oneof_decl
    ∷ below reserved_range_levels m.reserved_range
    ∷ [])
    m.unknown

-- below a DescriptorProto
abbrev pub message_levels : DescriptorProto → ℕ
message_levels = fold-DescriptorProto ℕ message_levels_step

-- below a FileDescriptorProto
abbrev pub file_levels : FileDescriptorProto → ℕ
file_levels f =
    levels_of
    (below message_levels f.message_type
    ∷ below enum_levels f.enum_type
    ∷ below service_levels f.service
    ∷ below field_levels f.extension
    ∷ options_levels f.options
    ∷ below_one source_code_info_levels f.source_code_info
    ∷ [])
    f.unknown

-- below a FileDescriptorSet
abbrev pub file_set_levels : FileDescriptorSet → ℕ
file_set_levels s = levels_of (below file_levels s.file ∷ []) s.unknown
