use Rattle.std.proofs.Common.{◌≡◌, ◌∙◌, ◌++◌, ◌∷◌, [], ℕ, List, Bor, get_or, ap, string_bytes}
use Rattle.std.proofs.lemmas.List.{get_or_default}
use Rattle.pbx_parse_translation.specs.Messages.{oneof_record}
use Rattle.pbx_parse_translation.proofs.Taken.{synthetic_goes_on, synthetic_all}
use Rattle.pbx_parse_translation.proofs.synthetic.add_synthetic.Goals as goal

abbrev text_in : Bor (List ℕ) → List ℕ
text_in n = n.now

pub each-preserved : goal.each-preserved
each-preserved c = λ taken h.
    let w = c.each.invariant taken h in
    let fields = c.args.fields.now in
    let n : Bor (List ℕ) = get_or fields c.each.field-index (record { ref_ptr = (0, 0); now = [] }) in
    let name = string_bytes c.in_ok-name.name in
    let took = c.in_ok-name.ensures w.0 w.1 w.2 in
    let after : c.add.new.self ≡ c.each.oneofs ++ oneof_record name ∷ [] = c.in_ok-add.ensures.ok ∙ ap (λ o. c.each.oneofs ++ o ∷ []) (c.in_ok-oneof_record.ensures ∙ ap oneof_record c.as_str.ensures.value) in (
      w.0 ++ name ∷ [],
      took.1,
      took.2,
      synthetic_goes_on text_in fields c.each.field-index n w.0 name c.each.oneofs c.add.new.self _ c.each-test.true (get_or_default fields c.each.field-index _ _ c.each-test.true) took.0 after w.3,
    )

pub returns : goal.returns
returns c = λ taken h.
    let w = c.each.invariant taken h in
    synthetic_all text_in c.args.fields.now c.each.field-index w.0 c.each.oneofs _ c.each-test.false w.3
