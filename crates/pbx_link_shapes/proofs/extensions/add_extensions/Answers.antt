use Rattle.std.proofs.Common.{◌≡◌, ◌∙◌, List, [], subst, arith}
use Rattle.std.specs.List.{flat_map}
use Rattle.std.proofs.lemmas.List.{take_all}
use Rattle.pbx_desc_records.specs.declared.file.FileDescriptorProto.{FileDescriptorProto}
use Rattle.pbx_link_rules.specs.Pool.{ArePooled}
use Rattle.pbx_link_shapes.specs.Extending.{AddExtensions}
use Rattle.pbx_link_shapes.proofs.Extended.{none_added, files_more, extensions_beside, all_added}
use Rattle.pbx_link_shapes.proofs.Whole.{all_extended}
use Rattle.pbx_link_shapes.proofs.extensions.add_extensions.Goals as goal

pub loop-table-init : goal.loop-table-init
loop-table-init c = none_added c.args.types.now c.args.messages.now.items

pub loop-table-preserved : goal.loop-table-preserved
loop-table-preserved c =
    files_more c.args.types.now c.tables-tables.result.now c.loop-table.table-index c.table-item.result c.args.messages.now.items c.loop-table.messages.items c.add_file.new.messages.items
    (omega arith) c.table-item.is c.loop-table.invariant
    (subst (λ (f : FileDescriptorProto). AddExtensions c.args.types.now (extensions_beside c.args.types.now f) c.loop-table.messages.items c.add_file.new.messages.items) c.as_ref.ensures
    c.in_ok-add_file.ensures)

pub returns : goal.returns
returns c e =
    let types = c.args.types.now in
    let old = c.args.messages.now.items in
    let new = c.loop-table.messages.items in
    let same : c.tables-tables.result.now ≡ types = c.tables-tables.ensures.same ∙ c.pool.ensures in
    let all = take_all c.loop-table.table-index c.tables-tables.result.now (omega arith) ∙ same in
    let pooled = subst (λ (fs : List FileDescriptorProto). ArePooled [] fs) c.pool.ensures c.tables-tables.ensures.pooled in
    all_added types old new (subst (λ (fs : List FileDescriptorProto). AddExtensions types (flat_map (extensions_beside types) fs) old new) all c.loop-table.invariant) pooled e
    ∙ all_extended types
