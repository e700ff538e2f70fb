use Rattle.std.proofs.Common.{◌≡◌, ℕ, List, [], ap, ◌∙◌, rules}
use Rattle.std.proofs.lemmas.List.Sorted.{answers_always}
use Rattle.pbx_content_map.specs.Entries.{with_entries}
use Rattle.pbx_content_codec.specs.declared.contents.Held.{Held}
use Rattle.pbx_json_reading.proofs.Moved.{entries_moved}
use Rattle.pbx_json_reading.proofs.state.in_order.Goals as goal

pub returns : goal.returns
returns c =
    let stable = c.sort_by_key.ensures.stable (λ (p : ℕ × Held). p.0)
    (answers_always _ (λ a r. r ≡ a.0.now.0) _ (λ f a r q k. search rules)) in
    entries_moved _ _ stable [] ∙ ap (λ (ps : List (ℕ × Held)). with_entries [] ps) c.into_vec-values.ensures
