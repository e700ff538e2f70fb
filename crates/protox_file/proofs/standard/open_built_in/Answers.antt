use Rattle.std.proofs.Common.{◌∙◌, sym, subst}
use Rattle.pbx_wkt_files.specs.Files.{wkt_files}
use Rattle.protox_file_sources.specs.Library.{pooled}
use Rattle.protox_file_sources.specs.Told.{Entry, IsFound, IsFile}
use Rattle.protox_file.proofs.BuiltIn.{built_in_told, no_built_in, not_found_told}
use Rattle.protox_file.proofs.standard.open_built_in.Goals as goal

pub returns-in-Ok-Some-clause-told : goal.returns-in-Ok-Some-clause-told
returns-in-Ok-Some-clause-told c =
    let P : Entry → Type 0 = λ e. IsFound c.args.name.now ((pooled wkt_files).files c.args.name.now) (IsFile e) in
    subst P (sym c.from_file_descriptor_proto.ensures) (built_in_told c.args.name.now c.in-Ok-Some.file (sym c.in-Ok-Some.ensures ∙ c.in-Ok-Some.field-0-is))

pub returns-in-Ok-None-clause-told : goal.returns-in-Ok-None-clause-told
returns-in-Ok-None-clause-told c =
    not_found_told c.args.name.now ((pooled wkt_files).files c.args.name.now) c.file_not_found.result c.file_not_found.ensures
    (no_built_in c.args.name.now (sym c.in-Ok-None.ensures ∙ c.in-Ok-None.field-0-is))
