use Rattle.std.proofs.Common.{◌≡◌, ◌<◌, ◌-◌, ◌+◌, ◌++◌, IsTrue, length}
use Rattle.protox_io.specs.Count.{Later}
use Rattle.protox_io.proofs.read.read_to_end.Given as goal

abbrev pub invariant-reading : goal.invariant-reading
invariant-reading g l = record {
  told : IsTrue (g.S.Source.input l.fn.source).tells → l.bytes ++ (g.S.Source.input l.source).left ≡ (g.S.Source.input l.fn.source).left;
  keeps_tells : (g.S.Source.input l.source).tells ≡ (g.S.Source.input l.fn.source).tells;
  later : Later (g.S.Source.count l.fn.source) (g.S.Source.count l.source);
  block : 0 < length l.block;
}

abbrev pub decreases-reading : goal.decreases-reading
decreases-reading g l = l.limit + 1 - length l.bytes
