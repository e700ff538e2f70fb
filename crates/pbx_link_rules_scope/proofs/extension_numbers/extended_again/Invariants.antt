use Rattle.std.proofs.Common.{take}
use Rattle.pbx_link_rules_scope.proofs.Extended.{NoneAgain, Holds}
use Rattle.pbx_link_rules_scope.proofs.extension_numbers.extended_again.Given as goal

abbrev pub invariant-loop-extension : goal.invariant-loop-extension
invariant-loop-extension g l = record {
  none : NoneAgain (g.V.Visible.files l.seen) l.extensions l.extension-index;
  held : Holds (g.V.Visible.files l.seen) l.numbers.keys (take l.extension-index l.extensions);
}
