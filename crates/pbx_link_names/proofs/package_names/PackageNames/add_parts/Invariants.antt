use Rattle.std.proofs.Common.{length}
use denote.Text.{Utf8}
use denote.Shadow.{shadow}
use Rattle.pbx_link_names.proofs.Added.{AreAdding}
use Rattle.pbx_link_names.proofs.package_names.PackageNames.add_parts.Given as goal

abbrev pub invariant-loop-part : goal.invariant-loop-part
invariant-loop-part l = shadow (Utf8 l.rest) × AreAdding (record { node = l.node; parts = record { ref_ptr = (0, 0); now = l.parts } }) l.fn.self l.self l.below l.rest

abbrev pub decreases-loop-part : goal.decreases-loop-part
decreases-loop-part l = length l.rest
