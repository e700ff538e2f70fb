use Rattle.std.proofs.Common.{length}
use denote.Text.{Utf8}
use denote.Shadow.{shadow}
use Rattle.pbx_link_names.proofs.Added.{AreBehind}
use Rattle.pbx_link_names.proofs.package_names.PackageNames.missing.Given as goal

abbrev pub invariant-loop-part : goal.invariant-loop-part
invariant-loop-part l = shadow (Utf8 l.parts) × AreBehind l.self l.name l.node l.parts

abbrev pub decreases-loop-part : goal.decreases-loop-part
decreases-loop-part l = length l.parts
