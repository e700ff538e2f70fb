use Rattle.std.proofs.Common.{◌≡◌, List, map, ap, ◌∙◌, rules}
use Rattle.std.proofs.lemmas.List.Sorted.{answers_always}
use Rattle.pbx_content.specs.Content.{by_key}
use Rattle.pbx_content_codec.specs.View.{pair_of}
use Rattle.pbx_content_codec.specs.Keyed.{number_in}
use Rattle.pbx_content_codec.specs.declared.contents.Pair.{Pair}
use Rattle.pbx_json_reading.proofs.Moved.{pairs_moved}
use Rattle.pbx_json_reading.proofs.entries.by_number.Goals as goal

pub returns : goal.returns
returns c =
    let stable = c.sort_by_key.ensures.stable (λ p. number_in (pair_of p).0)
    (answers_always _ (λ a r. r ≡ number_in (pair_of a.0.now).0) _ (λ f a r q k. search rules)) in
    pairs_moved pair_of _ _ stable ∙ ap (λ (ps : List Pair). by_key (map pair_of ps)) c.into_vec-pairs.ensures
