use Rattle.std.proofs.Common.{◌≡◌, drop}
use Rattle.protox_generate.specs.Files.{first_source}
use Rattle.protox_generate.proofs.files.find.Given as goal

abbrev pub invariant-loop-stored : goal.invariant-loop-stored
invariant-loop-stored l = first_source l.sources l.name ≡ first_source (drop l.stored-index l.sources) l.name
