use Rattle.std.proofs.Common.{◌≡◌, ◌++◌, IsTrue, drop}
use Rattle.std.specs.List.{flat_map}
use Rattle.protox_io.specs.Count.{Later}
use Rattle.protox_io.specs.Sink.{Appends}
use Rattle.protox_io.proofs.write.write_pieces.Given as goal

abbrev pub invariant-loop-piece : goal.invariant-loop-piece
invariant-loop-piece g l = record {
  told : IsTrue (g.K.Sink.output l.fn.sink).tells → Appends (g.K.Sink.output l.fn.sink).held (g.K.Sink.output l.sink).held (λ added. flat_map (λ p. p.now) l.pieces ≡ added ++ flat_map (λ p. p.now) (drop l.piece-index l.pieces));
  keeps_tells : (g.K.Sink.output l.sink).tells ≡ (g.K.Sink.output l.fn.sink).tells;
  later : Later (g.K.Sink.count l.fn.sink) (g.K.Sink.count l.sink);
}
