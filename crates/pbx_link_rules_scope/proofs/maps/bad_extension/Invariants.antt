use Rattle.std.proofs.Common.{◌≡◌, drop}
use Rattle.pbx_link_rules_scope.specs.MapFields.{of_entry_types}
use Rattle.pbx_link_rules_scope.proofs.maps.bad_extension.Given as goal

abbrev pub invariant-loop-extension : goal.invariant-loop-extension
invariant-loop-extension g l =
    of_entry_types (g.V.Visible.files l.seen) l.extensions ≡ of_entry_types (g.V.Visible.files l.seen) (drop l.extension-index l.extensions)
