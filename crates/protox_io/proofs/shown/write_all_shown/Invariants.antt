use Rattle.std.proofs.Common.{◌≡◌, ◌++◌, IsTrue, drop}
use Rattle.std.specs.List.{flat_map}
use Rattle.protox_io.specs.Count.{Later}
use Rattle.protox_io.specs.Shown.{shown}
use Rattle.protox_io.specs.Sink.{Appends}
use Rattle.protox_io.proofs.shown.write_all_shown.Given as goal

abbrev pub invariant-loop-text : goal.invariant-loop-text
invariant-loop-text g l = record {
  told : IsTrue (g.K.Sink.output l.fn.sink).tells → Appends (g.K.Sink.output l.fn.sink).held (g.K.Sink.output l.sink).held (λ added. flat_map (λ text. shown text.now) l.texts ≡ added ++ flat_map (λ text. shown text.now) (drop l.text-index l.texts));
  keeps_tells : (g.K.Sink.output l.sink).tells ≡ (g.K.Sink.output l.fn.sink).tells;
  later : Later (g.K.Sink.count l.fn.sink) (g.K.Sink.count l.sink);
}
