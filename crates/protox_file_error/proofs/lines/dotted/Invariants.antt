use Rattle.std.proofs.Common.{◌≡◌, ◌++◌, string_bytes, drop, if◌then◌else◌}
use Rattle.protox_file_error.specs.Lines.{dotted, dots_before}
use Rattle.protox_file_error.proofs.lines.dotted.Given as goal

abbrev pub invariant-loop-number : goal.invariant-loop-number
invariant-loop-number l =
    dotted l.numbers ≡ string_bytes l.text ++ (if l.first then dotted (drop l.number-index l.numbers) else dots_before (drop l.number-index l.numbers))
