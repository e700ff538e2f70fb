-- Where parts of the files of a pool stand, by their full names.
use Rattle.std.specs.Prelude.{ℕ, List, find, nat_lt, Option, Some, None, option_map, if◌then◌else◌}
use Rattle.std.specs.List.{enumerate_from}
use Rattle.std.specs.Str.{bytes_eq}
use Rattle.pbx_desc_records.specs.declared.enumeration.EnumDescriptorProto.{EnumDescriptorProto}
use Rattle.pbx_desc_records.specs.declared.message.DescriptorProto.{DescriptorProto}
use Rattle.pbx_desc_records.specs.declared.file.FileDescriptorProto.{FileDescriptorProto}
use Rattle.pbx_link_definitions.specs.Definitions.{Part}
use Rattle.pbx_link_scope.specs.declared.types.Bound.{Bound}
use Rattle.pbx_link_scope.specs.declared.types.Bound.TheVariants.{Message as to_message, Enum as to_enum}
use Rattle.pbx_link_scope.specs.Pooled.{by_file}

-- of what is told of the files the first of exactly this full name: the index of the file, and that of the part in what is told of it
abbrev pub place_with_file : {X : Type 0} → (FileDescriptorProto → List X) → (X → List ℕ) → List FileDescriptorProto → List ℕ
    → Option (ℕ × ℕ)
place_with_file tell name files q =
    option_map (λ x. (x.0, x.1.0)) (find (λ x. bytes_eq (name x.1.1) q) (by_file (λ f. enumerate_from 0 (tell f)) files))

-- ---- the earlier of a message and an enum

-- a message beside the index of its file
abbrev pub Message : Type 0
Message = ℕ × Part DescriptorProto

-- an enum beside the index of its file
abbrev pub Enum : Type 0
Enum = ℕ × Part EnumDescriptorProto

-- the message as what a name is bound to
abbrev pub of_message : Message → ℕ × Bound
of_message m = (m.0, to_message m.1)

-- the enum as what a name is bound to
abbrev pub of_enum : Enum → ℕ × Bound
of_enum e = (e.0, to_enum e.1)

-- the message, where the enum is not in a file before it
abbrev pub earlier : Option Message → Option Enum → Option (ℕ × Bound)
earlier None e = option_map of_enum e
earlier (Some m) None = Some (of_message m)
earlier (Some m) (Some e) = if nat_lt e.0 m.0 then Some (of_enum e) else Some (of_message m)
