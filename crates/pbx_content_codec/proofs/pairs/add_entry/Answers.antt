use Rattle.std.proofs.Common.{map}
use Rattle.pbx_content.specs.Content.{pairs_of}
use Rattle.pbx_content.specs.Meaning.{pair_in}
use Rattle.pbx_content_codec.specs.View.{content_of, pair_of}
use Rattle.pbx_content_codec.proofs.Keyed.{pair_put, on_ok_more}
use Rattle.pbx_content_codec.proofs.pairs.add_entry.Goals as goal

pub returns-in-Ok : goal.returns-in-Ok
returns-in-Ok c =
    on_ok_more c.put_pair.result (λ put. pair_put (map pair_of c.args.pairs.now) (pair_of c.in-Ok.pair)
    (pair_in c.args.schema.now c.args.key c.args.kind (content_of c.args.entry)) (pairs_of (map pair_of c.put_pair.new.pairs))
    c.in-Ok.ensures put) c.put_pair.ensures
