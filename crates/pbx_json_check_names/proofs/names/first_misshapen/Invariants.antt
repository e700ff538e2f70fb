use Rattle.std.proofs.Common.{◌≡◌, drop}
use Rattle.pbx_json_meaning.specs.Clash.{first_misshapen}
use Rattle.pbx_json_check_names.proofs.names.first_misshapen.Given as goal

abbrev pub invariant-loop-place : goal.invariant-loop-place
invariant-loop-place l = first_misshapen l.schema 0 l.schema.messages ≡ first_misshapen l.schema l.place (drop l.place l.schema.messages)
