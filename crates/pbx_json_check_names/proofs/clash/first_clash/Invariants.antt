use Rattle.std.proofs.Common.{◌≡◌, drop}
use Rattle.pbx_json_meaning.specs.Clash.{ByAnyName, first_clash}
use Rattle.pbx_json_check_names.proofs.clash.first_clash.Given as goal

abbrev pub invariant-loop-message : goal.invariant-loop-message
invariant-loop-message l = first_clash ByAnyName l.schema.messages ≡ first_clash ByAnyName (drop l.message-index l.message-items)
