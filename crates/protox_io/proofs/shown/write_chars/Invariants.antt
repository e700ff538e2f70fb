use Rattle.std.proofs.Common.{◌≡◌, ◌++◌, IsTrue}
use Rattle.std.specs.Str.{IsUtf8}
use Rattle.std.specs.Str.Iter.{chars_rest}
use Rattle.protox_io.specs.Count.{Later}
use Rattle.protox_io.specs.Shown.{shown}
use Rattle.protox_io.specs.Sink.{Appends}
use Rattle.protox_io.proofs.shown.write_chars.Given as goal

abbrev pub invariant-loop-c : goal.invariant-loop-c
invariant-loop-c g l = record {
  told : IsTrue (g.K.Sink.output l.fn.sink).tells → Appends (g.K.Sink.output l.fn.sink).held (g.K.Sink.output l.sink).held (λ added. shown l.text ≡ added ++ shown (chars_rest l.c-iterator));
  keeps_tells : (g.K.Sink.output l.sink).tells ≡ (g.K.Sink.output l.fn.sink).tells;
  later : Later (g.K.Sink.count l.fn.sink) (g.K.Sink.count l.sink);
  utf8 : IsUtf8 (chars_rest l.c-iterator);
}
