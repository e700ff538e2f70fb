use Rattle.std.proofs.Common.{ℕ, List, None, Option, sym, subst}
use Rattle.std.specs.Prelude.{Some}
use Rattle.pbx_desc_records.specs.declared.file.FileDescriptorProto.{FileDescriptorProto}
use Rattle.pbx_link_visible.specs.Imports.{HasAdded, imports_of}
use Rattle.pbx_link_visible.proofs.Walk.{Walked, started, file_left, all_below, stepped, ended, smaller, no_keys}
use Rattle.pbx_link_visible.proofs.imports.visible_files.Goals as goal

pub loop-index-init : goal.loop-index-init
loop-index-init g c =
    let files = g.P.Pooled.files c.args.pool.now in
    subst (λ (found : List ℕ). Walked files c.args.file.now.dependency found c.add_files.new.pending) (sym c.new-found.ensures)
    (started files c.args.file.now.dependency c.new-pending.result c.add_files.new.pending c.new-pending.ensures.empty
    (subst (λ (names : List (List ℕ)). HasAdded files None names c.new-pending.result c.add_files.new.pending) c.as_slice.ensures c.in_ok-add_files.ensures))

pub loop-index-smaller : goal.loop-index-smaller
loop-index-smaller g c =
    let files = g.P.Pooled.files c.args.pool.now in
    let at = file_left files c.args.file.now.dependency c.loop-index.found c.loop-index.pending c.in-Some.index c.loop-index.invariant c.in-Some.ensures.member in
    let added = subst (λ (o : Option FileDescriptorProto). HasAdded files (Some c.in-Some.index) (imports_of o) c.pop_last.new.self c.add_public_imports.new.pending) at.1 c.in_ok-add_public_imports.ensures in
    smaller c.in-Some.index c.loop-index.pending c.add_public_imports.new.pending c.in-Some.ensures.member
    (all_below files c.in-Some.index at.0 c.loop-index.pending c.pop_last.new.self c.add_public_imports.new.pending
    c.in-Some.ensures.member c.in-Some.ensures.greatest c.in-Some.ensures.updates at.1 added)

pub loop-index-preserved : goal.loop-index-preserved
loop-index-preserved g c =
    let files = g.P.Pooled.files c.args.pool.now in
    let at = file_left files c.args.file.now.dependency c.loop-index.found c.loop-index.pending c.in-Some.index c.loop-index.invariant c.in-Some.ensures.member in
    let added = subst (λ (o : Option FileDescriptorProto). HasAdded files (Some c.in-Some.index) (imports_of o) c.pop_last.new.self c.add_public_imports.new.pending) at.1 c.in_ok-add_public_imports.ensures in
    subst (λ (found : List ℕ). Walked files c.args.file.now.dependency found c.add_public_imports.new.pending) (sym c.in_ok-add.ensures.ok)
    (stepped files c.in-Some.index at.0 c.loop-index.pending c.pop_last.new.self c.add_public_imports.new.pending
    c.in-Some.ensures.member c.in-Some.ensures.greatest c.in-Some.ensures.updates at.1 added
    c.args.file.now.dependency c.loop-index.found c.loop-index.invariant)

pub returns : goal.returns
returns g c =
    ended (g.P.Pooled.files c.args.pool.now) c.args.file.now c.loop-index.found c.loop-index.pending c.loop-index.invariant
    (no_keys c.loop-index.pending.keys (λ some. c.in_default.ensures.variant.1 some))
