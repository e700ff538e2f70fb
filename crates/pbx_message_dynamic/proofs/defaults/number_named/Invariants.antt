use Rattle.std.proofs.Common.{◌≡◌, drop}
use Rattle.pbx_message_laws.specs.Defaults.{number_named}
use Rattle.pbx_message_dynamic.proofs.defaults.number_named.Given as goal

abbrev pub invariant-loop-value : goal.invariant-loop-value
invariant-loop-value l = number_named l.fn.name l.fn.number (drop l.value-index l.fn.values) ≡ number_named l.fn.name l.fn.number l.fn.values
