use Rattle.std.proofs.Common.{string_bytes}
use Rattle.pbx_parse.specs.Errors.{IsOneLine}
use Rattle.pbx_parse.proofs.found.add_all_shown.Given as goal

abbrev pub invariant-each : goal.invariant-each
invariant-each l = IsOneLine (string_bytes l.fn.text) → IsOneLine (string_bytes l.text)
