use Rattle.std.proofs.Common.{◌≡◌, ℕ, ◌+◌, ◌<◌, List, ◌++◌, length, map, take, get_or, refl, append-nil}
use Rattle.std.specs.List.{concat}
use Rattle.std.proofs.lemmas.List.{take_more, map-append}
use Rattle.std.proofs.lemmas.List.Folds.{concat-append}
use Rattle.pbx_wire.specs.Varint.{varint}
use Rattle.pbx_wire.proofs.write.varints_text.Goals as goal

varints_more : (xs : List ℕ) (i : ℕ) → i < length xs → concat (map varint (take (i + 1) xs)) ≡ concat (map varint (take i xs)) ++ varint (get_or xs i 0)
varints_more xs i h = rw (take_more xs i 0 h, map-append, concat-append, append-nil) refl

pub loop-value-preserved : goal.loop-value-preserved
loop-value-preserved c =
    rw (c.in_ok-put_varint.ensures.ok, varints_more c.args.values.now c.loop-value.value-index c.loop-value-test.true, c.loop-value.invariant) refl
