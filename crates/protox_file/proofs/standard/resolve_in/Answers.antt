use Rattle.std.proofs.Common.{◌∙◌, sym, rules}
use Rattle.protox_file_sources.specs.Library.{below}
use Rattle.protox_file.proofs.Members.{name_here, name_next}
use Rattle.protox_file.proofs.standard.resolve_in.Goals as goal

pub returns-in-Some-clause-told : goal.returns-in-Some-clause-told
returns-in-Some-clause-told c = λ disk.
    name_here c.args.folders.now c.loop-folder.folder-index c.folder-item.result (search rules) c.folder-item.is (below disk) c.args.path.now _
    (sym c.in-Some.is ∙ (rw c.as_str.ensures at c.in_ok-name.ensures.told)) (c.loop-folder.invariant disk)

pub loop-folder-preserved : goal.loop-folder-preserved
loop-folder-preserved c = λ disk.
    name_next c.args.folders.now c.loop-folder.folder-index c.folder-item.result (search rules) c.folder-item.is (below disk) c.args.path.now
    (sym c.in_default.is ∙ (rw c.as_str.ensures at c.in_ok-name.ensures.told)) (c.loop-folder.invariant disk)
