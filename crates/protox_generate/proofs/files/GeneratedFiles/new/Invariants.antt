use Rattle.std.proofs.Common.{◌≡◌}
use Rattle.protox_generate.specs.Sources.{files_to}
use Rattle.protox_generate.proofs.files.GeneratedFiles.new.Given as goal

abbrev pub invariant-loop-before : goal.invariant-loop-before
invariant-loop-before l = l.sources.items ≡ files_to l.before
