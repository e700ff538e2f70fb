use Rattle.std.proofs.Common.{ℤ, get_or, w32, subst, rules}
use Rattle.std.specs.Prelude.{pos, Some}
use Rattle.std.specs.Option.{option_to_list}
use Rattle.std.proofs.lemmas.Int.{to_z-of_z}
use Rattle.std.proofs.lemmas.List.{get_or_default}
use Rattle.pbx_link_scope.specs.Scope.{item_at}
use Rattle.pbx_link_visible.specs.Imports.{HasAdded}
use Rattle.pbx_link_visible.proofs.Named.{imports_more}
use Rattle.pbx_link_visible.proofs.imports.add_public_imports.Goals as goal

pub loop-import-preserved : goal.loop-import-preserved
loop-import-preserved g c =
    let files = g.P.Pooled.files c.args.pool.now in
    let indexes = c.as_slice-import-items.result.now in
    let index = get_or indexes c.loop-import.import-index (pos 0) in
    let dependency = c.in-Some.file.now.dependency in
    imports_more files (Some c.args.index) (item_at dependency) indexes c.loop-import.import-index index
    c.args.pending.now c.loop-import.pending c.add_import.new.pending
    c.loop-import-test.true (get_or_default indexes c.loop-import.import-index (pos 0) index c.loop-import-test.true) c.loop-import.invariant
    (subst (λ (z : ℤ). HasAdded files (Some c.args.index) (option_to_list (item_at dependency z)) c.loop-import.pending c.add_import.new.pending)
    (to_z-of_z w32 index (search rules)) c.in_ok-add_import.ensures)
