use Rattle.std.proofs.Common.{◌≡◌, take}
use Rattle.pbx_desc_records.specs.Options.{bool_of}
use Rattle.pbx_desc_records.proofs.options.Options.bool_of.Given as goal

abbrev pub invariant-loop-rec : goal.invariant-loop-rec
invariant-loop-rec l = l.last ≡ bool_of l.number (take l.rec-index l.rec-items)
