use Rattle.pbx_link_visible.proofs.Viewed.{sees}
use Rattle.pbx_link_visible.proofs.view.VisibleFiles.new.Goals as goal

pub invariant_of-result : goal.invariant_of-result
invariant_of-result g c = (
  sees (g.P.Pooled.files c.args.pool.now) c.args.parts.now c.file-file.result.now c.in_ok-found.found c.as_slice.result.now c.as_slice-2.result.now c.in_ok-index_set.field-0 c.in_ok-package_names.field-0
      c.no_name_twice.ensures c.file-file.ensures c.in_ok-found.ensures c.as_slice.ensures c.in_ok-index_set.ensures c.as_slice-2.ensures c.in_ok-package_names.ensures,
  (
    c.in_ok-own_places.ensures,
    c.in_ok-scope_names.ensures,
  ),
)
