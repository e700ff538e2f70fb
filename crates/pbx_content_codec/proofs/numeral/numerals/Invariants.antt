use Rattle.std.proofs.Common.{◌≡◌, map, take}
use Rattle.pbx_content_codec.specs.declared.contents.Held.{Held}
use Rattle.pbx_content.specs.Encoding.{numeral}
use Rattle.pbx_content_codec.specs.View.{val_of}
use Rattle.pbx_content_codec.proofs.numeral.numerals.Given as goal

abbrev pub invariant-loop-held : goal.invariant-loop-held
invariant-loop-held l = l.values ≡ map (λ (h : Held). numeral l.kind (val_of h)) (take l.held-index l.many)
