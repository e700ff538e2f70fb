use Rattle.std.proofs.Common.{◌∙◌, ap}
use Rattle.pbx_desc_records.specs.declared.file.FileDescriptorProto.{FileDescriptorProto}
use Rattle.pbx_link_pool.specs.Index.{new_of, all_items}
use Rattle.pbx_link_pool.proofs.Whole.{on_ok_of, on_err_of}
use Rattle.pbx_link_pool.proofs.tables.index_file.Goals as goal

pub returns-clause-added : goal.returns-clause-added
returns-clause-added c =
    on_ok_of c.add.result (λ added. added c.args.number
    (c.in_ok-items.ensures ∙ ap (λ (f : FileDescriptorProto). new_of c.args.index.now (all_items c.args.number f)) c.in_ok-parts.ensures)) c.add.ensures.added

pub returns-clause-unchanged : goal.returns-clause-unchanged
returns-clause-unchanged c =
    on_err_of c.add.result (λ unchanged. unchanged c.args.number
    (c.in_ok-items.ensures ∙ ap (λ (f : FileDescriptorProto). new_of c.args.index.now (all_items c.args.number f)) c.in_ok-parts.ensures)) c.add.ensures.unchanged
