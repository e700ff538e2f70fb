use Rattle.std.proofs.Common.{◌≡◌, ℕ, List, IfOk, ◌∙◌, sym, subst}
use Rattle.std.proofs.lemmas.List.{take_all}
use Rattle.pbx_content_map.specs.Entries.{IsAscending}
use Rattle.pbx_content_map.proofs.Places.{ascending_entries}
use Rattle.pbx_content_codec.specs.declared.contents.Held.{Held}
use Rattle.pbx_content_codec.proofs.copying.+copy.Goals as goal

-- the copies are the fields, which ascend
-- src/copying.rt:25:1
pub copy_fields-returns : goal.copy_fields-returns
copy_fields-returns t c =
    let same = c.as_slice-field-items.ensures.same in
    let whole : c.into_vec.result.items ≡ c.as_slice-field-items.result.now =
    c.into_vec.ensures ∙ c.loop-field.invariant ∙ take_all _ _ c.loop-field-test.false in
    let ascends : IsAscending c.into_vec.result.items =
    subst (λ (es : List (ℕ × Held)). IsAscending es) (sym (whole ∙ same)) c.as_slice-field-items.ensures.order in
    subst (λ (es : List (ℕ × Held)). IfOk c.from_entries.result (λ map. map ≡ es)) (ascending_entries _ ascends ∙ whole ∙ same) c.from_entries.ensures
