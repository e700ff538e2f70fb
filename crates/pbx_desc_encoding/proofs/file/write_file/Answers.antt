use Rattle.std.proofs.Common.{refl}
use Rattle.pbx_desc_shapes.specs.DescriptorShape.{file_fields}
use Rattle.pbx_desc_encoding.specs.Content.{file_values}
use Rattle.pbx_desc_encoding.proofs.Behind.{begin, anew, added, flushed, written, closed}
use Rattle.pbx_desc_encoding.proofs.Told.{on_both}
use Rattle.pbx_desc_encoding.proofs.Types.{file_type, file_options_type}
use Rattle.pbx_desc_encoding.proofs.file.write_file.Goals as goal

pub returns : goal.returns
returns c =
    let r = c.args.file.now in
    let first = c.args.out.now.items in
    let shape = c.args.schema.now in
    let before = anew c.new-front.result.list (begin 1 file_fields (file_values r) r.unknown first file_type refl) c.new-front.ensures in
    let name = added before c.in_ok-text.ensures refl refl refl in
    let package_name = added name c.in_ok-text-2.ensures refl refl refl in
    let dependency = added package_name c.in_ok-texts.ensures refl refl refl in
    let front = flushed c.texts.new.self.list shape _ c.new-none.result c.put_fields.new.out.items dependency file_type c.requires c.new-none.ensures c.in_ok-put_fields.ensures.text in
    let message_type = written front c.in_ok-put_each.ensures refl refl refl refl refl refl in
    let enum_type = written message_type c.in_ok-put_each-2.ensures refl refl refl refl refl refl in
    let service = written enum_type c.in_ok-put_each_by_content.ensures refl refl refl refl refl refl in
    let extension = anew c.new-middle.result.list (written service c.in_ok-put_each-3.ensures refl refl refl refl refl refl) c.new-middle.ensures in
    let options = added extension (c.in_ok-options.ensures 14 file_options_type) refl refl refl in
    let middle = flushed c.options.new.self.list shape _ c.new-none.result c.put_fields-2.new.out.items options file_type c.requires c.new-none.ensures c.in_ok-put_fields-2.ensures.text in
    let source_code_info = anew c.new-back.result.list (written middle c.in_ok-put_source.ensures refl refl refl refl refl refl) c.new-back.ensures in
    let public_dependency = added source_code_info c.in_ok-numbers.ensures refl refl refl in
    let weak_dependency = added public_dependency c.in_ok-numbers-2.ensures refl refl refl in
    let syntax = added weak_dependency c.in_ok-text-3.ensures refl refl refl in
    on_both c.put_fields-3.result (closed r.unknown first c.text-3.new.self.list shape c.put_fields-3.new.out.items syntax file_type refl c.requires) c.put_fields-3.ensures.text c.put_fields-3.ensures.fit
