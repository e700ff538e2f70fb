use Rattle.std.proofs.Common.{◌≡◌, ℕ, List, map, IfOk, subst, sym, ap, ◌∙◌}
use Rattle.std.specs.List.{concat}
use Rattle.std.specs.Int.{w32, w64, to_le_bytes}
use Rattle.pbx_content.specs.Shape.{as_varint, as_four, as_eight}
use Rattle.pbx_content_codec.specs.Fields.{form_in}
use Rattle.pbx_content_codec.proofs.EncodedNumbers.{packed_as, nothing_packed}
use Rattle.pbx_content_codec.proofs.numeral.packed_payload.Goals as goal

pub returns-in-Varint : goal.returns-in-Varint
returns-in-Varint c =
    let form = sym c.form_of_kind.ensures ∙ ap form_in c.in-Varint.is in
    subst (λ (b : List ℕ). IfOk c.varints_payload.result (λ blob. blob ≡ b)) (packed_as as_varint c.args.kind c.args.many.now form) c.varints_payload.ensures

pub returns-in_ok-numerals-in-Four : goal.returns-in_ok-numerals-in-Four
returns-in_ok-numerals-in-Four c =
    let form = sym c.form_of_kind.ensures ∙ ap form_in c.in-Four.is in
    let numbers = c.as_slice-in-Four.ensures ∙ c.in_ok-numerals-in-Four.ensures in
    subst
    (λ (b : List ℕ). IfOk c.fours_text.result (λ blob. blob ≡ b))
    (ap (λ ns. concat (map (to_le_bytes w32) ns)) numbers ∙ packed_as as_four c.args.kind c.args.many.now form) c.fours_text.ensures

pub returns-in_ok-numerals-in-Eight : goal.returns-in_ok-numerals-in-Eight
returns-in_ok-numerals-in-Eight c =
    let form = sym c.form_of_kind.ensures ∙ ap form_in c.in-Eight.is in
    let numbers = c.as_slice-in-Eight-2.ensures ∙ c.in_ok-numerals-in-Eight.ensures in
    subst
    (λ (b : List ℕ). IfOk c.eights_text.result (λ blob. blob ≡ b))
    (ap (λ ns. concat (map (to_le_bytes w64) ns)) numbers ∙ packed_as as_eight c.args.kind c.args.many.now form) c.eights_text.ensures

pub returns-in-Payload : goal.returns-in-Payload
returns-in-Payload c = c.new.ensures ∙ nothing_packed c.args.kind c.args.many.now (sym c.form_of_kind.ensures ∙ ap form_in c.in-Payload.is)
