use Rattle.std.proofs.Common.{[], ◌∷◌, refl}
use Rattle.pbx_content_codec.specs.View.{content_of}
use Rattle.pbx_desc_shapes.specs.DescriptorShape.{set_fields}
use Rattle.pbx_desc_records.specs.declared.file.FileDescriptorSet.{FileDescriptorSet}
use Rattle.pbx_desc_encoding.specs.Content.{file_set_values}
use Rattle.pbx_desc_encoding.proofs.Types.{file_set_type}
use Rattle.pbx_desc.specs.Exact.{are_exact, is_exact_file}
use Rattle.pbx_desc.proofs.Walk.{start, next, done}
use Rattle.pbx_desc.proofs.file.FileDescriptorSetFromContents.from_contents.Goals as goal

pub returns : goal.returns
returns c =
    let r : FileDescriptorSet = record { file = c.in_ok-file.file; unknown = c.kept_records.result } in
    let before = start set_fields (file_set_values r) (are_exact is_exact_file r.file ∷ []) (content_of c.args.contents) in
    let at_file = next before c.in_ok-file.ensures refl refl refl refl in
    done 0 file_set_type refl at_file c.kept_records.ensures
