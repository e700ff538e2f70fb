use Rattle.std.proofs.Common.{◌≡◌}
use Rattle.pbx_link_meaning.specs.Descriptors.{extensions_of_message, with_number}
use Rattle.pbx_link.proofs.message.MessageDescriptor.get_extension.Given as goal

abbrev pub invariant-loop-extension : goal.invariant-loop-extension
invariant-loop-extension l =
    (goal.iterator-loop-extension).can_next l.extension-iterator × (goal.iterator-loop-extension).is_finite l.extension-iterator
    × (with_number (extensions_of_message l.self) l.number ≡ with_number l.extension-iterator l.number)
