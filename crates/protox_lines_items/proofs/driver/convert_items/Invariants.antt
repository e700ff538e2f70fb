use Rattle.std.proofs.Common.{◌≡◌, ◌<◌, ◌≤◌, ◌-◌, ℕ, List, IsTrue, length}
use Rattle.protox_io.specs.Count.{Later}
use Rattle.protox_lines_items.specs.Items.{most}
use Rattle.protox_lines_items.specs.Writing.{Reading}
use Rattle.protox_lines_items.specs.declared.error.ItemFault.{ItemFault}
use Rattle.protox_lines_items.proofs.driver.convert_items.Given as goal

abbrev pub invariant-reading : goal.invariant-reading
invariant-reading g l = record {
  -- the bytes that were read, and what they come to
  going : Reading (IsTrue (g.S.Source.input l.fn.input).tells) (IsTrue (g.K.Sink.output l.fn.out).tells) (g.C.Cutter.stands l.cutter) (g.V.ConvertItem.converted l.fn.converter)
      (g.K.Sink.output l.fn.out).held (g.K.Sink.output l.out).held l.written.gathered l.written.count (g.S.Source.input l.fn.input).left (g.S.Source.input l.input).left l.read;
  few : l.written.count ≤ l.read;
  room : l.read ≤ most;
  block : 0 < length l.block;
  later : Later (g.S.Source.count l.fn.input) (g.S.Source.count l.input);
  out_later : Later (g.K.Sink.count l.fn.out) (g.K.Sink.count l.out);
  keeps_tells : (g.S.Source.input l.input).tells ≡ (g.S.Source.input l.fn.input).tells;
  out_keeps : (g.K.Sink.output l.out).tells ≡ (g.K.Sink.output l.fn.out).tells;
  same : g.V.ConvertItem.converted l.converter ≡ g.V.ConvertItem.converted l.fn.converter;
  same_faults : (x : List ℕ) (e : ItemFault) → g.V.ConvertItem.faulty l.converter x e → g.V.ConvertItem.faulty l.fn.converter x e;
}

abbrev pub decreases-reading : goal.decreases-reading
decreases-reading g l = most - l.read
