use Rattle.std.proofs.Common.{◌≡◌, ◌++◌, IsTrue, length}
use Rattle.protox_io.specs.Count.{Later}
use Rattle.protox_io.specs.Sink.{Appends}
use Rattle.protox_io.proofs.write.write_all.Given as goal

abbrev pub invariant-loop-rest : goal.invariant-loop-rest
invariant-loop-rest g l = record {
  told : IsTrue (g.K.Sink.output l.fn.sink).tells → Appends (g.K.Sink.output l.fn.sink).held (g.K.Sink.output l.sink).held (λ added. l.bytes ≡ added ++ l.rest);
  keeps_tells : (g.K.Sink.output l.sink).tells ≡ (g.K.Sink.output l.fn.sink).tells;
  later : Later (g.K.Sink.count l.fn.sink) (g.K.Sink.count l.sink);
}

abbrev pub decreases-loop-rest : goal.decreases-loop-rest
decreases-loop-rest g l = length l.rest
