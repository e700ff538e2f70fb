use Rattle.std.proofs.Common.{◌≡◌, ◌≤◌, ◌+◌, ℕ, List, IsTrue, length}
use Rattle.protox_io.specs.Count.{Later}
use Rattle.protox_lines_items.specs.Items.{most}
use Rattle.protox_lines_items.specs.Writing.{Taken}
use Rattle.protox_lines_items.specs.declared.error.ItemFault.{ItemFault}
use Rattle.protox_lines_items.proofs.driver.take_all.Given as goal

abbrev pub invariant-taking : goal.invariant-taking
invariant-taking g l = record {
  -- the bytes that were taken, and what holds behind them
  taken : Taken (IsTrue (g.K.Sink.output l.fn.out).tells) (g.C.Cutter.stands l.fn.cutter) (g.V.ConvertItem.converted l.fn.converter)
      (g.K.Sink.output l.fn.out).held l.fn.written.gathered l.fn.written.count (g.C.Cutter.stands l.cutter)
      (g.K.Sink.output l.out).held l.written.gathered l.written.count l.fn.bytes l.rest;
  few : l.written.count + length l.rest ≤ l.fn.written.count + length l.fn.bytes;
  room : l.fn.written.count + length l.fn.bytes ≤ most;
  later : Later (g.K.Sink.count l.fn.out) (g.K.Sink.count l.out);
  keeps_tells : (g.K.Sink.output l.out).tells ≡ (g.K.Sink.output l.fn.out).tells;
  same : g.V.ConvertItem.converted l.converter ≡ g.V.ConvertItem.converted l.fn.converter;
  same_faults : (x : List ℕ) (e : ItemFault) → g.V.ConvertItem.faulty l.converter x e → g.V.ConvertItem.faulty l.fn.converter x e;
}

abbrev pub decreases-taking : goal.decreases-taking
decreases-taking g l = length l.rest
