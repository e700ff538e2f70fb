-- Rules on the syntax, the edition and the names of a file (Protocol Buffers language specification: "Syntax", "Package", "Identifiers";
-- `descriptor.proto`: FileDescriptorProto).
use Rattle.std.specs.Prelude.{ℕ, pos, List, [], ◌∷◌, ◌++◌, Bool, false, not, is_none, Option, Some, None, codes}
use Rattle.pbx_desc_records.specs.declared.file.FileDescriptorProto.{FileDescriptorProto}
use Rattle.pbx_link_definitions.specs.Names.{among, is_ident, is_full_ident}
use Rattle.pbx_link_definitions.specs.Says.{has_record}
use Rattle.pbx_link_definitions.specs.Definitions.{Place, Defined, name_place, definitions}
use Rattle.pbx_link_definitions.specs.Places.{places_where, place_if}

-- a syntax of another name than these
abbrev pub is_unknown_syntax : Option (List ℕ) → Bool
is_unknown_syntax None = false
is_unknown_syntax (Some s) = not (among (codes "proto2" ∷ codes "proto3" ∷ []) s)

-- the syntax (field 12 of FileDescriptorProto), and the edition, which is an unknown record of number 14
abbrev pub unknown_syntax : FileDescriptorProto → List Place
unknown_syntax f = place_if (is_unknown_syntax f.syntax) (pos 12 ∷ []) ++ place_if (has_record 14 f.unknown) (pos 14 ∷ [])

-- a package that is not identifiers joined by dots
abbrev pub is_bad_package : Option (List ℕ) → Bool
is_bad_package None = false
is_bad_package (Some name) = not (is_full_ident name)

-- a name that is missing or is no identifier
abbrev pub is_bad_name : Defined → Bool
is_bad_name d = not (is_ident d.name)

-- the name of the file, where there is none; its package; the names of definitions
abbrev pub bad_names : FileDescriptorProto → List Place
bad_names f =
    place_if (is_none f.name) (pos 1 ∷ []) ++ place_if (is_bad_package f.«package») (pos 2 ∷ [])
    ++ places_where is_bad_name name_place (definitions f)
