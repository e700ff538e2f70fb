-- The built-in file of a name as what their pool tells of it.
use Rattle.std.proofs.Common.{◌≡◌, ◌∙◌, ℕ, List, [], ◌∷◌, Bool, true, false, Option, Some, None, inl, inr, find, map, refl, ap, subst, sym, if◌then◌else◌}
use Rattle.pbx_desc_records.specs.declared.file.FileDescriptorProto.{FileDescriptorProto as Record}
use Rattle.pbx_link_definitions.specs.Names.{is_named}
use Rattle.pbx_link_meaning.specs.Descriptors.{FileDescribed, described_file}
use Rattle.pbx_wkt_files.specs.Files.{wkt_files, wkt_file_named}
use Rattle.protox_file_error.specs.Errors.{UnlessMemory}
use Rattle.protox_file_error.specs.declared.error.ErrorKind.{ErrorKind}
use Rattle.protox_file_error.specs.declared.error.ErrorKind.TheVariants as kinds
use Rattle.protox_file_sources.specs.Causes.{IsToldRefusal}
use Rattle.protox_file_sources.specs.Google.{told_described}
use Rattle.protox_file_sources.specs.Library.{pooled, alone}
use Rattle.protox_file_sources.specs.Told.{Told, Absent, Recorded, IsFound, NoFile, IsFile}

abbrev told_record : Option Record → Told
told_record None = Absent
told_record (Some f) = Recorded (alone f)

found : (pool all : List Record) (name : List ℕ) → told_described (find (λ (d : FileDescribed). is_named d.file.name name) (map (described_file pool) all))
    ≡ told_record (find (λ (f : Record). is_named f.name name) all)
found pool [] name = refl
found pool (f ∷ fs) name = at (is_named f.name name) (found pool fs name)
  where
    at : (b : Bool)
        → told_described (find (λ (d : FileDescribed). is_named d.file.name name) (map (described_file pool) fs)) ≡ told_record (find (λ (g : Record). is_named g.name name) fs)
        → told_described (if b then Some (described_file pool f) else find (λ (d : FileDescribed). is_named d.file.name name) (map (described_file pool) fs))
        ≡ told_record (if b then Some f else find (λ (g : Record). is_named g.name name) fs)
    at true rest = refl
    at false rest = rest

pub built_in_told : (name : List ℕ) (f : Record) → wkt_file_named name ≡ Some f → IsFound name ((pooled wkt_files).files name) (IsFile (alone f))
built_in_told name f h =
    let P : Told → Type 0 = λ t. IsFound name t (IsFile (alone f)) in
    subst P (sym (found wkt_files wkt_files name ∙ ap told_record h)) refl

pub no_built_in : (name : List ℕ) → wkt_file_named name ≡ None → IsFound name ((pooled wkt_files).files name) NoFile
no_built_in name h =
    let P : Told → Type 0 = λ t. IsFound name t NoFile in
    subst P (sym (found wkt_files wkt_files name ∙ ap told_record h)) refl

pub not_found_told : (name : List ℕ) (told : Told) (error : ErrorKind) → UnlessMemory (kinds.FileNotFound name) error → IsFound name told NoFile → IsToldRefusal name told error
not_found_told name told error h k =
    let P : ErrorKind → Type 0 = λ e. IsToldRefusal name told e in
    elim h [ inl kind ↦ subst P (sym kind) k | inr memory ↦ subst P (sym memory) tt ]
