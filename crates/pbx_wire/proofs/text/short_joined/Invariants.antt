use Rattle.std.proofs.Common.{◌≡◌, ◌++◌, drop}
use Rattle.std.specs.List.{flat_map}
use Rattle.pbx_wire.proofs.text.short_joined.Given as goal

abbrev pub invariant-loop-piece : goal.invariant-loop-piece
invariant-loop-piece l = flat_map (λ p. p.now) l.pieces ≡ l.string.bytes ++ flat_map (λ p. p.now) (drop l.piece-index l.pieces)
