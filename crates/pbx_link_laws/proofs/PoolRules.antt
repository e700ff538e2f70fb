-- The rules on a file among the files of a pool find the same in a settled record.
use Rattle.std.proofs.Common.{◌≡◌, List, [], ◌∷◌, ◌++◌, map, pos, refl, ap}
use Rattle.pbx_desc_records.specs.declared.file.FileDescriptorProto.{FileDescriptorProto}
use Rattle.pbx_link_definitions.specs.Definitions.{Defined, full_name, name_place}
use Rattle.pbx_link_definitions.specs.Names.{among}
use Rattle.pbx_link_definitions.specs.Places.{places_where, place_if, repeated}
use Rattle.pbx_link_scope.specs.Pooled.{like_named}
use Rattle.pbx_link_rules.specs.Rules.{file_twice, missing_imports, has_defined_package, taken_names, names_twice}
use Rattle.pbx_link_record.specs.Settled.{settled_file}
use Rattle.pbx_link_laws.proofs.Parts.{settled_definitions}

module _ (files : List FileDescriptorProto) (f : FileDescriptorProto) where
  pub file_of : file_twice files (settled_file f) ≡ file_twice files f
  file_of = refl

  pub imports_of : missing_imports files (settled_file f) ≡ missing_imports files f
  imports_of = refl

  pub full_names_of : names_twice files (settled_file f) ≡ names_twice files f
  full_names_of =
      ap (λ (ds : List Defined). place_if (has_defined_package files f) (pos 2 ∷ [])
      ++ (places_where (λ (d : Defined). among (taken_names files f) (full_name d)) name_place ds ++ map name_place (repeated like_named [] ds)))
      (settled_definitions f)
