use Rattle.std.proofs.Common.{◌∙◌, sym}
use Rattle.pbx_link_names.proofs.Values.{on_ok_at}
use Rattle.pbx_link_pool.specs.Index.{all_items}
use Rattle.pbx_link_pool.proofs.Indexed.{index_with, index_kept}
use Rattle.pbx_link_pool.proofs.Packaged.{package_back}
use Rattle.pbx_link_pool.proofs.Whole.{on_err_at, added_all, back_all}
use Rattle.pbx_link_pool.proofs.index.Index.add.Goals as goal

pub returns-then-is_err-clause-unchanged : goal.returns-then-is_err-clause-unchanged
returns-then-is_err-clause-unchanged c index are =
    index_kept c.args.self.now c.forget.new.self
    (back_all (all_items index c.args.file.now) c.args.items.now c.args.self.now c.add_all.new.self c.forget.new.self are c.add_all.ensures.alike c.forget.ensures.forgotten
    (package_back c.args.self.now.packages c.add_all.new.self.packages c.forget.new.self.packages c.args.file.now.«package» c.missing_package-missing.result c.missing_package-missing.ensures c.add_all.ensures.rest c.forget.ensures.«package»)
    (on_err_at c.add_all.result (sym c.is_err.ensures.value ∙ c.if-is_err.true) c.add_all.ensures.extended))

pub returns-clause-added : goal.returns-clause-added
returns-clause-added c index are =
    index_with index c.args.file.now c.args.self.now c.add_all.new.self
    (added_all (all_items index c.args.file.now) c.args.items.now c.args.self.now c.add_all.new.self are
    (on_ok_at c.add_all.result (sym c.is_err.ensures.value ∙ c.if-is_err.false) c.add_all.ensures.added))
    (λ s. on_ok_at c.add_all.result (sym c.is_err.ensures.value ∙ c.if-is_err.false) c.add_all.ensures.packaged c.args.file.now.«package» s
    c.missing_package-missing.ensures)
