use Rattle.std.proofs.Common.{◌≡◌, ◌++◌, [], IsTrue, drop, get_or}
use Rattle.std.specs.List.{flat_map}
use Rattle.protox_io.specs.Count.{Later}
use Rattle.protox_io.specs.Sink.{Appends}
use Rattle.protox_run.specs.Outcome.{note_line}
use Rattle.protox_run.proofs.report.write_notes.Given as goal

abbrev pub invariant-loop-index : goal.invariant-loop-index
invariant-loop-index g l = record {
  told : IsTrue (g.E.Sink.output l.fn.err).tells → Appends (g.E.Sink.output l.fn.err).held (g.E.Sink.output l.err).held (λ added.
      flat_map (λ i. note_line (get_or l.files i [])) l.index-items ≡ added ++ flat_map (λ i. note_line (get_or l.files i [])) (drop l.index-index l.index-items));
  keeps_tells : (g.E.Sink.output l.err).tells ≡ (g.E.Sink.output l.fn.err).tells;
  later : Later (g.E.Sink.count l.fn.err) (g.E.Sink.count l.err);
}
