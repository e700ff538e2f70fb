use Rattle.std.proofs.Common.{List, ℕ, get_or}
use Rattle.std.proofs.lemmas.List.{get_or_default}
use Rattle.pbx_link_names.specs.Packages.{is_there}
use Rattle.pbx_link_scope.specs.Scope.{packages}
use Rattle.pbx_link_visible.specs.Names.{packages_at}
use Rattle.pbx_link_visible.proofs.Texts.{names_first, names_more}
use Rattle.pbx_link_visible.proofs.packages.package_names.Goals as goal

pub loop-index-init : goal.loop-index-init
loop-index-init g c =
    let added = c.in_ok-add_package.ensures c.new-names.ensures.sound in (
      added.1,
      names_first (packages c.args.file.now) (λ (q : List ℕ). is_there q c.new-names.result) (λ (q : List ℕ). is_there q c.add_package.new.names) c.new-names.ensures.none added.0,
    )

pub loop-index-preserved : goal.loop-index-preserved
loop-index-preserved g c =
    let indexes = c.args.indexes.now in
    let index = get_or indexes c.loop-index.index-index 0 in
    let added = c.in_ok-add_package_at.ensures c.loop-index.invariant.0 in (
      added.1,
      names_more (packages_at (g.P.Pooled.files c.args.pool.now)) (packages c.args.file.now) indexes c.loop-index.index-index index
          (λ (q : List ℕ). is_there q c.loop-index.names) (λ (q : List ℕ). is_there q c.add_package_at.new.names)
          c.loop-index-test.true (get_or_default indexes c.loop-index.index-index 0 index c.loop-index-test.true) c.loop-index.invariant.1 added.0,
    )
