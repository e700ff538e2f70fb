use Rattle.std.proofs.Common.{◌≡◌, false, map, Some, ap, ◌∙◌}
use Rattle.pbx_content.specs.Content.{Val, keyed, pairs_of, by_key}
use Rattle.pbx_content.specs.Meaning.{shown}
use Rattle.pbx_content.specs.Onto.{pairs_held}
use Rattle.pbx_content_codec.specs.View.{val_of, pair_of}
use Rattle.pbx_content_codec.proofs.Tree.{val_of-Pairs}
use Rattle.pbx_content_codec.proofs.stabilizing.stabilized_value.Goals as goal

pub returns-in_ok-pairs-in-Map : goal.returns-in_ok-pairs-in-Map
returns-in_ok-pairs-in-Map c =
    let sorted : pairs_of (map pair_of c.in_ok-pairs-in-Map.pairs) ≡ by_key (pairs_held (Some (val_of c.args.held))) =
    c.in_ok-pairs-in-Map.ensures ∙ ap by_key c.pairs_held.ensures in
    rw c.in-Map.is (c.unless_default-in-Map.ensures
    ∙ ap (λ (v : Val). shown c.args.schema.now false c.args.view.kind (Some v)) (val_of-Pairs c.in_ok-pairs-in-Map.pairs ∙ ap keyed sorted))
