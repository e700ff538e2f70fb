use Rattle.std.proofs.Common.{◌≡◌, ◌++◌, map, drop}
use Rattle.std.specs.List.{concat}
use Rattle.pbx_wire.specs.Varint.{varint}
use Rattle.pbx_content_codec.proofs.EncodedNumbers.{numeral_in}
use Rattle.pbx_content_codec.proofs.numeral.varints_payload.Given as goal

abbrev pub invariant-loop-held : goal.invariant-loop-held
invariant-loop-held l =
    concat (map varint (map (numeral_in l.kind) l.many)) ≡ l.text ++ concat (map varint (map (numeral_in l.kind) (drop l.held-index l.many)))
