use Rattle.std.proofs.Common.{◌≡◌, List, IfOk, sym, ap, ◌∙◌, subst, rules}
use Rattle.std.proofs.lemmas.List.Sorted.{IsNonDecreasingBy-from_sort_by_key, answers_always}
use Rattle.pbx_wire.specs.declared.rec.Rec.{Rec}
use Rattle.pbx_content.specs.Records.{number_of, sorted}
use Rattle.pbx_content_codec.specs.Places.{ascend}
use Rattle.pbx_content_codec.proofs.EncodedOrder.{ascending_is, stably_sorted}
use Rattle.pbx_content_codec.proofs.order.in_order.Goals as goal

pub returns-then-are_ascending : goal.returns-then-are_ascending
returns-then-are_ascending c = ascending_is c.args.recs (ap (ascend 0) (sym c.as_slice.ensures) ∙ sym c.are_ascending.ensures ∙ c.if-are_ascending.true)

pub returns : goal.returns
returns c =
    let up = IsNonDecreasingBy-from_sort_by_key number_of _ c.in_ok-sort_by_key.ensures.sorted (λ a r q k. search rules) in
    let stays = c.in_ok-sort_by_key.ensures.stable number_of (answers_always _ (λ a r. r ≡ number_of a.0.now) _ (λ f a r q k. search rules)) in
    subst
    (λ (recs : List Rec). IfOk c.listed.result (λ ordered. ordered ≡ recs)) (stably_sorted _ _ up stays ∙ ap sorted c.into_vec-recs.ensures) c.listed.ensures
