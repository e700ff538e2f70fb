-- The first file of a pool that cannot be read again.
use Rattle.std.proofs.Common.{◌≡◌, ◌∙◌, ◌⊎◌, inl, inr, List, Option, Some, option_map, find, refl, ap, sym, subst}
use Rattle.pbx_desc_records.specs.declared.file.FileDescriptorProto.{FileDescriptorProto}
use Rattle.pbx_link_definitions.specs.Names.{text_or_empty}
use Rattle.pbx_link_meaning.specs.Descriptors.{FileDescribed}
use Rattle.protox_transcode.specs.Parts.{IsNoSet}
use Rattle.protox_compile.specs.Sets.{is_undecodable}
use Rattle.protox_transcode.specs.declared.error.TopError.{TopError}
use Rattle.protox_transcode.specs.declared.error.TopError.TheVariants as top
use Rattle.protox_file_error.specs.declared.error.ErrorKind.TheVariants as kinds

abbrev pub file : FileDescribed → FileDescriptorProto
file d = d.file

-- the error of the file that was found
pub undecodable : (files : List FileDescriptorProto) (d : FileDescribed) (o : Option FileDescribed) (error : TopError) → option_map file o ≡ find is_undecodable files
    → o ≡ Some d → (error ≡ top.NoMemory) ⊎ (error ≡ top.File (kinds.Undecodable (text_or_empty d.file.name))) → IsNoSet files error
undecodable files d o error h e (inl memory) = rw memory tt
undecodable files d o error h e (inr told) =
    let P : TopError → Type 0 = λ x. IsNoSet files x in
    subst P (sym told) (d.file, sym h ∙ ap (option_map file) e, refl)
