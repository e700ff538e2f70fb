use Rattle.std.proofs.Common.{◌∙◌, ap, sym, length}
use Rattle.pbx_desc_records.specs.declared.file.FileDescriptorProto.{FileDescriptorProto}
use Rattle.std.specs.List.{remove}
use Rattle.pbx_link_pool.specs.Index.{new_of, all_items}
use Rattle.pbx_link_pool.proofs.Numbered.{removed_last}
use Rattle.pbx_link_pool.proofs.Whole.{on_err_at}
use Rattle.pbx_link_pool.proofs.tables.add_table.Goals as goal

pub returns-then-is_err-clause-same : goal.returns-then-is_err-clause-same
returns-then-is_err-clause-same c =
    c.remove.ensures.rest ∙ ap (λ tables. remove tables c.len-number.result) c.in_ok-add.ensures.ok ∙ removed_last c.args.tables.now c.copy.result c.len-number.result c.len-number.ensures

pub returns-then-is_err-clause-kept : goal.returns-then-is_err-clause-kept
returns-then-is_err-clause-kept c =
    on_err_at c.add-2.result (sym c.is_err.ensures.value ∙ c.if-is_err.true) c.add-2.ensures.unchanged (length c.args.tables.now)
    (c.requires ∙ ap (λ (f : FileDescriptorProto). new_of c.args.index.now (all_items (length c.args.tables.now) f)) (sym (c.file.ensures ∙ c.as_ref.ensures)))
