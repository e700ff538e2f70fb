use Rattle.std.proofs.Common.{◌≡◌, drop}
use Rattle.pbx_wire.specs.Number.{has_one_of}
use Rattle.pbx_wire.proofs.rec.Rec.has_one_of.Given as goal

abbrev pub invariant-loop-one : goal.invariant-loop-one
invariant-loop-one l = has_one_of l.numbers l.self ≡ has_one_of (drop l.one-index l.numbers) l.self
