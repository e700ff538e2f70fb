use Rattle.std.proofs.Common.{◌≡◌, ◌++◌, string_bytes, drop}
use Rattle.std.specs.List.{flat_map}
use Rattle.pbx_wire.proofs.text.long_joined.Given as goal

abbrev pub invariant-loop-piece : goal.invariant-loop-piece
invariant-loop-piece l = flat_map (λ p. p.now) l.pieces ≡ string_bytes l.string ++ flat_map (λ p. p.now) (drop l.piece-index l.pieces)
