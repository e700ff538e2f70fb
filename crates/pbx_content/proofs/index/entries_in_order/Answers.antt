use Rattle.std.proofs.Common.{ℕ, List, [], ◌∷◌, ◌++◌, get_or, sym, ap, ◌∙◌}
use Rattle.pbx_content.proofs.SchemaIndex.{numbered_more}
use Rattle.pbx_content.proofs.index.entries_in_order.Goals as goal

pub loop-place-preserved : goal.loop-place-preserved
loop-place-preserved c =
    let number = (get_or c.args.fields.now c.loop-place.place c.index-fields-place.result).number in
    c.in_ok-push.ensures.items ∙ ap (λ (es : List (ℕ × ℕ)). es ++ (number, c.loop-place.place) ∷ []) c.loop-place.invariant
    ∙ sym (numbered_more c.args.fields.now c.loop-place.place c.index-fields-place.result c.loop-place-test.true)
