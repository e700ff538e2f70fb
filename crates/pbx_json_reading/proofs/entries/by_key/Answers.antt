use Rattle.std.proofs.Common.{[], ◌∷◌, map, sym, ap, ◌∙◌}
use Rattle.std.proofs.lemmas.List.{map-append}
use Rattle.pbx_content.specs.Content.{pairs_of, by_key}
use Rattle.pbx_content_codec.specs.View.{pair_of}
use Rattle.pbx_content_codec.proofs.Keyed.{sorted_order, sorted_more}
use Rattle.pbx_json_reading.proofs.entries.by_key.Goals as goal

pub put_pair-requires : goal.put_pair-requires
put_pair-requires c = sorted_order (map pair_of c.loop-pair.sorted) (map pair_of c.loop-pair.yielded) c.loop-pair.invariant

pub loop-pair-preserved : goal.loop-pair-preserved
loop-pair-preserved c =
    sorted_more (map pair_of c.loop-pair.sorted) (map pair_of c.loop-pair.yielded) (pair_of c.in-Some.pair) (pairs_of (map pair_of c.put_pair.new.pairs))
    c.loop-pair.invariant c.in_ok-put_pair.ensures
    ∙ ap by_key (sym (map-append pair_of c.loop-pair.yielded (c.in-Some.pair ∷ [])))
