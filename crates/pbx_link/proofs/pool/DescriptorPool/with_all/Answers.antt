use Rattle.std.proofs.Common.{List, Some, sym, ap, ◌∙◌, rules}
use Rattle.std.proofs.lemmas.List.{map-id}
use Rattle.std.proofs.lemmas.Result.{err_from_is_err_and}
use Rattle.std.proofs.lemmas.Iterator.Adapters.{YieldsList-from_vec}
use Rattle.std.proofs.lemmas.Iterator.Consumers.{YieldsList-so_far, YieldsList-turn}
use Rattle.pbx_desc_records.specs.declared.file.FileDescriptorProto.{FileDescriptorProto}
use Rattle.pbx_link.proofs.Added.{one_more, refused_there, split_there}
use Rattle.pbx_link.proofs.pool.DescriptorPool.with_all.Goals as goal

pub loop-file-preserved : goal.loop-file-preserved
loop-file-preserved c =
    let done = c.in_ok-add_file_descriptor_proto.ensures in
    one_more c.args.self c.loop-file.yielded c.loop-file.pool c.in-Some.file c.loop-file.invariant done.accepted
    ∙ ap (λ (files : List FileDescriptorProto). Some files) (sym done.added)

pub returns-in_err-add_file_descriptor_proto-clause-refused : goal.returns-in_err-add_file_descriptor_proto-clause-refused
returns-in_err-add_file_descriptor_proto-clause-refused c =
    let list = YieldsList-from_vec c.into_vec-file-items.result.items (search rules) (search rules) in
    let so_far = YieldsList-so_far list c.loop-file.yielded _ c.loop-file.yielded_by in
    let turn = YieldsList-turn list c.loop-file.yielded _ c.loop-file.yielded_by _ c.next.new.self c.in-Some.file c.in-Some.is c.next.ensures.steps in
    let split = split_there c.into_vec-file-items.result.items c.loop-file.yielded c.in-Some.file (sym (map-id c.loop-file.yielded) ∙ so_far) turn.0 turn.1 in
    let p = err_from_is_err_and c.from_residual.result c.from_residual.ensures.1 in
    rw (p.1, p.2)
    (refused_there c.args.self c.args.files c.loop-file.yielded _ c.loop-file.pool c.in-Some.file _ (sym c.into_vec-file-items.ensures ∙ split) c.loop-file.invariant
    c.in_err-add_file_descriptor_proto.ensures.refused)
