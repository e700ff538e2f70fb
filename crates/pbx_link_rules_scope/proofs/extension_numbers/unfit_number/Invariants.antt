use Rattle.std.proofs.Common.{◌≡◌, drop}
use Rattle.pbx_link_rules_scope.specs.ExtensionNumbers.{is_unfit}
use Rattle.pbx_link_rules_scope.specs.Known.{AreOwn}
use Rattle.pbx_link_rules_scope.specs.Rules.{places_by}
use Rattle.pbx_link_rules_scope.proofs.extension_numbers.unfit_number.Given as goal

abbrev pub invariant-loop-extension : goal.invariant-loop-extension
invariant-loop-extension g l = record {
  left : places_by (is_unfit (g.V.Visible.files l.seen)) 3 l.extensions
      ≡ places_by (is_unfit (g.V.Visible.files l.seen)) 3 (drop l.extension-index l.extensions);
  own : AreOwn (g.V.Visible.files l.seen) l.known;
}
