use Rattle.std.proofs.Common.{◌≡◌, ◌+◌, length}
use Rattle.pbx_link_meaning.specs.Descriptors.{extensions_of_message}
use Rattle.pbx_wkt.proofs.shape.has_extensions.Given as goal

abbrev pub invariant-loop-extension : goal.invariant-loop-extension
invariant-loop-extension l = length (extensions_of_message l.fn.desc) + l.left ≡ l.count + length l._extension-iterator
