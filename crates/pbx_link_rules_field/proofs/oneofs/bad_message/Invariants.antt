use Rattle.std.proofs.Common.{◌≡◌, drop}
use Rattle.std.specs.List.{flat_map}
use Rattle.pbx_link_rules_field.specs.Rules.{bad_oneofs_in}
use Rattle.pbx_link_rules_field.proofs.oneofs.bad_message.Given as goal

abbrev pub invariant-loop-message : goal.invariant-loop-message
invariant-loop-message l = flat_map (bad_oneofs_in l.file) l.messages ≡ flat_map (bad_oneofs_in l.file) (drop l.message-index l.messages)
