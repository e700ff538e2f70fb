use Rattle.std.proofs.Common.{◌∙◌, ◌∷◌, ◌++◌, [], List, IfOk, ap, sym, subst}
use Rattle.pbx_desc_records.specs.declared.file.FileDescriptorProto.{FileDescriptorProto}
use Rattle.pbx_desc_encoding.specs.Sets.{IsSetOf}
use Rattle.protox_compile.specs.Sets.{with_info}
use Rattle.protox_compile.proofs.sets.with_record.Goals as goal

pub returns-in_ok-record : goal.returns-in_ok-record
returns-in_ok-record c =
    let P : FileDescriptorProto → Type 0 =
    λ r. IfOk c.with_file-else-info.result (λ more. (files : List FileDescriptorProto) → IsSetOf c.args.set files → IsSetOf more (files ++ r ∷ [])) in
    subst P (c.in_ok-record.ensures ∙ ap (λ b. with_info b c.args.file.now.file) (sym c.if-info.false)) c.with_file-else-info.ensures
