use Rattle.pbx_content_codec.specs.View.{content_of}
use Rattle.pbx_types.proofs.Built.{put_keyed}
use Rattle.pbx_types.proofs.Told.{on_ok}
use Rattle.pbx_types.proofs.contents.put_pairs.Goals as goal

pub returns : goal.returns
returns c =
    on_ok c.put.result
    (λ e key k all. put_keyed key k c.args.number c.args.pairs (content_of c.args.contents.now) (content_of c.put.new.self) (λ none. let there = c.is_empty.ensures.1 none in absurd cc) e all)
    c.put.ensures.ok
