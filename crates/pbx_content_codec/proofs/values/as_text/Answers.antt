use Rattle.std.proofs.Common.{ℕ, List, Some, refl, sym, ap, ◌∙◌, inr}
use Rattle.pbx_content.specs.Content.{text}
use Rattle.pbx_content_codec.proofs.Alone.{as_text_ok, no_text}
use Rattle.pbx_content_codec.proofs.Tree.{val_of-Text}
use Rattle.pbx_content_codec.proofs.values.as_text.Goals as goal

pub returns-in_ok-from_str-in-Ok-clause-found : goal.returns-in_ok-from_str-in-Ok-clause-found
returns-in_ok-from_str-in-Ok-clause-found c =
    let h = c.in-Ok.ensures.cases in
    rw (val_of-Text c.in_ok-from_str-in-Ok.field-0) (as_text_ok _ h.1 ∙ ap (λ (b : List ℕ). Some (text b)) (sym (c.in_ok-from_str-in-Ok.ensures ∙ h.0)))

pub returns-in-Err-clause-fault : goal.returns-in-Err-clause-fault
returns-in-Err-clause-fault c = inr (refl, no_text _ c.in-Err.ensures.cases.0)
