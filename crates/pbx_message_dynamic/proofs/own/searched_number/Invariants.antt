use Rattle.std.proofs.Common.{◌≡◌, ◌++◌}
use Rattle.pbx_link_meaning.specs.Descriptors.{fields_of_message}
use Rattle.pbx_message_dynamic.proofs.Named.{AreOther}
use Rattle.pbx_message_dynamic.proofs.own.searched_number.Given as goal

abbrev pub invariant-loop-field : goal.invariant-loop-field
invariant-loop-field l = AreOther l.name l.yielded × (fields_of_message l.fn.desc ≡ l.yielded ++ l.field-iterator)
